-- How a core starts, as far as a node must know.
use Rattle.std.specs.Prelude.{◌≡◌, List, [], ◌∷◌, Option, None, Some, IsTrue}
use Rattle.node_names.specs.NodeName.{Name}
use Rattle.node_names.specs.Limits.{Limits}
use Rattle.node_names.specs.declared.ids.Origin.{Origin}
use Rattle.protocol.specs.CoreState.{CoreState}
use Rattle.protocol.specs.Output.{Output}
use Rattle.protocol.specs.Peers.{are_peers}
use Rattle.frames.specs.Frame.{Frame}

-- the receiver of the first of these frames: of an opening, it is the contact
abbrev pub first_receiver : List (Name × Frame) → Option Name
first_receiver [] = None
first_receiver (send ∷ sends) = Some send.0

-- The core shows that it has this origin and these peers, and the frames go to this contact.
pub record ShowsStart (me : Origin) (peers : List Name) (contact : Option Name) (sends : List (Name × Frame)) (core : CoreState) : Type 0 where
  pub is_me : core.me ≡ me
  pub active_are_peers : core.active ≡ peers
  pub to_contact : first_receiver sends ≡ contact

-- Every start shows its origin, peers and contact.
abbrev pub TellsItsStart : {C : Type 0} → (C → CoreState) → (Origin → Limits → List Name → Option Name → List (Name × Frame) → C → Type 0) → Type 0
TellsItsStart {C} state starts =
    (me : Origin) (limits : Limits) (peers : List Name) (contact : Option Name) (sends : List (Name × Frame)) (core : C)
    → starts me limits peers contact sends core
    → ShowsStart me peers contact sends (state core)

-- The core has just started, within some limits, and this is what its start gave.
pub record IsFresh {C : Type 0} (starts : Origin → Limits → List Name → Option Name → List (Name × Frame) → C → Type 0) (core : C) (opening : Output Frame) :
    Type 0 where
  pub me : Origin
  pub limits : Limits
  pub peers : List Name
  pub contact : Option Name
  pub allowed : IsTrue (are_peers limits me.name peers contact)
  pub started : starts me limits peers contact opening.sends core
  pub silent : opening.deliveries ≡ []
