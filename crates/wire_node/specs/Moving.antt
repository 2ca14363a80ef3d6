-- What a node of bytes does at a step: the step itself, and then names go down for whom too much waits.
use Rattle.std.specs.Prelude.{◌≡◌, ◌≤◌, ◌⊎◌, ◌++◌, ℕ, Bool, true, false, List, [], ◌∷◌, length, replicate}
use Rattle.node_names.specs.NodeName.{Name}
use Rattle.node_names.specs.declared.dice.Dice.{Dice}
use Rattle.node_names.specs.declared.ids.MsgId.{MsgId}
use Rattle.protocol.specs.DeliveryLaw.{ids}
use Rattle.protocol.specs.PayloadLaw.{next_id}
use Rattle.protocol.specs.Stimulus.{Stimulus}
use Rattle.protocol.specs.declared.stimulus.StimulusOf.TheVariants.{Arrive, Broadcast, Fire}
use Rattle.frames.specs.Frame.{Frame}
use Rattle.node_core.specs.Plum.{plum_state}
use Rattle.wire_node.specs.Acting.{Acts, GoDown, GoesDown, IsOverfull, Machine}
use Rattle.wire_node.specs.Waiting.{settled_for}

-- A core with what waits, what it delivered and what is noted; the names for whom bytes were dropped since that was
-- asked last; how many bytes may wait for a name; and whether after the last step a name for whom more waited could not
-- go down, because the step of that was refused.
pub record Engine : Type 0 where
  pub machine : Machine
  pub lost : List Name
  pub limit : ℕ
  pub is_behind : Bool

-- Names went down with these dice, each as more than the limit waited for it: until for none more did, or as many had
-- gone down as there were names before, or the step of one was refused.
pub record Relieves (limit : ℕ) (old : Machine) (lost : List Name) (dice : Dice) (new : Machine) (lost' : List Name) (is_behind : Bool) : Type 0 where
  pub names : List Name
  pub downs : GoDown limit old names dice new
  pub noted : lost' ≡ lost ++ names
  pub until : is_behind ≡ false → ((name : Name) → length (settled_for new.waiting name) ≤ limit) ⊎ (length names ≡ length old.waiting)
  pub refused : is_behind ≡ true → (name : Name) × IsOverfull limit new name

-- The core made this step, and then names went down for whom too much waited.
pub record Moves (old : Engine) (stimulus : Stimulus Frame) (dice : Dice) (new : Engine) : Type 0 where
  pub stepped : Machine
  pub acts : Acts old.machine stimulus stepped
  pub relieves : Relieves old.limit stepped old.lost dice new.machine new.lost new.is_behind
  pub same : new.limit ≡ old.limit

-- The core broadcast this payload under this id, which was its next one: the step delivers this message and no other.
-- Names for whom too much waited went down by dice of zeros.
pub record Broadcasts (old : Engine) (payload : List ℕ) (id : MsgId) (new : Engine) : Type 0 where
  pub moves : Moves old (Broadcast payload) (record { 0 = replicate 16 0 }) new
  pub its_id : ids moves.acts.out.deliveries ≡ id ∷ []
  pub next : id ≡ next_id (plum_state old.machine.core)

-- What makes the core step, and the dice for names that go down after it.
abbrev pub Move : Type 0
Move = Stimulus Frame × Dice

-- These steps were made, one after the other.
abbrev pub MovesAll : Engine → List Move → Engine → Type 0
MovesAll old [] new = old ≡ new
MovesAll old (move ∷ moves) new = (mid : Engine) × Moves old move.0 move.1 mid × MovesAll mid moves new

-- a frame comes from whoever sent it, with these dice
abbrev pub arrival : Frame × Dice → Move
arrival taken = (Arrive taken.0.sender taken.0 taken.1, taken.1)

-- the timer of the id fires
abbrev pub firing : Dice → MsgId → Move
firing dice id = (Fire id, dice)

-- The core was told that the name is down, what waited for it was dropped, and it is among those for whom bytes were.
pub record GoesAway (old : Engine) (name : Name) (dice : Dice) (new : Engine) : Type 0 where
  pub down : GoesDown old.machine name dice new.machine
  pub noted : new.lost ≡ old.lost ++ name ∷ []
  pub same : (new.limit ≡ old.limit) × (new.is_behind ≡ old.is_behind)
