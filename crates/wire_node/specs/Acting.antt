-- The steps of a node of bytes: what each does to the core, to what waits, and to the deliveries.
use Rattle.std.specs.Prelude.{◌≡◌, ◌++◌, ◌<◌, ℕ, Bool, List, [], ◌∷◌, Option, length, map, not, filter, if◌then◌else◌}
use Rattle.node_names.specs.NodeName.{Name}
use Rattle.node_names.specs.Same.{same_name}
use Rattle.node_names.specs.declared.dice.Dice.{Dice}
use Rattle.protocol.specs.Delivery.{Delivery}
use Rattle.protocol.specs.Output.{Output}
use Rattle.protocol.specs.Stimulus.{Stimulus}
use Rattle.protocol.specs.Trace.{Step}
use Rattle.protocol.specs.declared.stimulus.StimulusOf.TheVariants.{Down}
use Rattle.frames.specs.Frame.{Frame}
use Rattle.node_core.specs.Plum.{Plum, plum_state}
use Rattle.node_core.specs.Steps.{PlumSteps}
use Rattle.node_core.specs.News.{Telling, all_news, news_of}
use Rattle.wire_node.specs.Recording.{Leads, Noted, with_step, with_steps}
use Rattle.wire_node.specs.Waiting.{AreApart, Waiting, mail_for, settled_for, undrafted}
use Rattle.node_core.specs.declared.news.News.{News}

-- A core, what waits to go out, the deliveries that were not taken yet, and what is noted, if anything is; the news of
-- the active view that were not taken yet, and whether the next steps are told of.
pub record Machine : Type 0 where
  pub core : Plum
  pub waiting : List Waiting
  pub pending : List Delivery
  pub noted : Option Noted
  pub news : List News
  pub tells : Bool

-- the same, where of the news the last ones may not be worked out yet
abbrev pub machine : Plum → List Waiting → List Delivery → Option Noted → Telling → Machine
machine core waiting pending noted telling =
    record { core = core; waiting = waiting; pending = pending; noted = noted; news = all_news telling (plum_state core).active; tells = telling.tells }

-- No step is under way: nothing is drafted. No name is there twice.
abbrev pub AreSettled : List Waiting → Type 0
AreSettled waiting = (map undrafted waiting ≡ waiting) × AreApart waiting

-- The core made one step. For each name, the bytes of the frames that go to it wait behind what waited, in their order,
-- what the step delivers waits behind what was delivered before, and the step is noted behind those before it. Where
-- steps are told of, the news of its active view wait behind those before them.
pub record Acts (old : Machine) (stimulus : Stimulus Frame) (new : Machine) : Type 0 where
  pub out : Output Frame
  pub stepped : PlumSteps old.core stimulus out.sends out.deliveries new.core
  pub waits : (name : Name) → settled_for new.waiting name ≡ settled_for old.waiting name ++ mail_for out.sends name
  pub delivers : new.pending ≡ old.pending ++ out.deliveries
  pub notes : new.noted ≡ with_step old.noted (record { stimulus = stimulus; out = out })
  pub tells : new.news ≡ old.news ++ (if old.tells then news_of stimulus (plum_state old.core).active (plum_state new.core).active else [])
  pub goes_on : new.tells ≡ old.tells

-- what waits for the other names
abbrev pub without : Name → List Waiting → List Waiting
without name waiting = filter (λ (w : Waiting). not (same_name name w.name)) waiting

-- The core was told that the name is down, and what waited for it was dropped.
pub record GoesDown (old : Machine) (name : Name) (dice : Dice) (new : Machine) : Type 0 where
  pub told : Machine
  pub acts : Acts old (Down name dice) told
  pub dropped : new ≡ record told { waiting = without name told.waiting }

-- More bytes than the limit wait for the name.
abbrev pub IsOverfull : ℕ → Machine → Name → Type 0
IsOverfull limit machine name = limit < length (settled_for machine.waiting name)

-- These names went down, one after the other, each because more than the limit waited for it.
abbrev pub GoDown : ℕ → Machine → List Name → Dice → Machine → Type 0
GoDown limit old [] dice new = old ≡ new
GoDown limit old (name ∷ names) dice new = (mid : Machine) × IsOverfull limit old name × GoesDown old name dice mid × GoDown limit mid names dice new

-- Steps lead from the old core to the new one, and just these were noted, behind those before them.
pub record LeadsOn (old new : Machine) : Type 0 where
  pub steps : List (Step Frame)
  pub leads : Leads old.core steps new.core
  pub notes : new.noted ≡ with_steps old.noted steps
