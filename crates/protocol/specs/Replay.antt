-- When a trace is the history of a core.
use Rattle.std.specs.Prelude.{◌≡◌, List, [], ◌∷◌, Option, IsTrue}
use Rattle.node_names.specs.NodeName.{Name}
use Rattle.node_names.specs.Limits.{Limits}
use Rattle.node_names.specs.declared.ids.Origin.{Origin}
use Rattle.protocol.specs.Delivery.{Delivery}
use Rattle.protocol.specs.Peers.{are_peers}
use Rattle.protocol.specs.Stimulus.{Stimulus}
use Rattle.protocol.specs.Trace.{Step, Trace}

-- The steps lead, one after the other, from the first core to the last.
abbrev pub Leads : {C N : Type 0} → (C → Stimulus N → List (Name × N) → List Delivery → C → Type 0) → C → List (Step N) → C → Type 0
Leads steps first [] last = last ≡ first
Leads {C} steps first (s ∷ rest) last = (next : C) × steps first s.stimulus s.out.sends s.out.deliveries next × Leads steps next rest last

-- The trace replays under these limits, and this core is the state at its end: its opening is what a start with its
-- origin, peers and contact sends, and delivers nothing; and its steps lead from that start to the core.
pub record Replays
    {C N : Type 0}
    (starts : Origin → Limits → List Name → Option Name → List (Name × N) → C → Type 0)
    (steps : C → Stimulus N → List (Name × N) → List Delivery → C → Type 0)
    (limits : Limits)
    (trace : Trace N)
    (core : C)
    : Type 0 where
  pub first : C
  pub allowed : IsTrue (are_peers limits trace.origin.name trace.peers trace.contact)
  pub started : starts trace.origin limits trace.peers trace.contact trace.opening.sends first
  pub silent : trace.opening.deliveries ≡ []
  pub leads : Leads steps first trace.steps core
