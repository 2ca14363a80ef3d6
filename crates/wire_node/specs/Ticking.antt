-- What a node of bytes does at a tick.
use Rattle.std.specs.Prelude.{◌≡◌, ◌≢◌, ◌<◌, ◌≤◌, ◌-◌, ◌%◌, ◌⊎◌, ◌++◌, ◌&&◌, ℕ, Bool, List, [], filter, length, map, nat_eq, not, take}
use Rattle.std.specs.Prelude.{if◌then◌else◌}
use Rattle.node_names.specs.Same.{has_id}
use Rattle.node_names.specs.declared.dice.Dice.{Dice}
use Rattle.node_names.specs.declared.ids.MsgId.{MsgId}
use Rattle.protocol.specs.declared.stimulus.StimulusOf.TheVariants.{Flush, Shuffle}
use Rattle.node_core.specs.Plum.{plum_state}
use Rattle.wire_node.specs.Moving.{Engine, Moves, MovesAll, firing}

-- Messages that were announced and did not come: those whose timers were armed when the last turn ended, those that are
-- to be asked for, and those that were asked for and may be on their way.
pub record Asking : Type 0 where
  pub waited : List MsgId
  pub due : List MsgId
  pub asked : List MsgId

-- those of the ids whose timers are armed
abbrev pub armed_of : Engine → List MsgId → List MsgId
armed_of engine ids = filter (has_id engine.machine.core.gossip.missing.timers) ids

-- those of the ids whose messages did not come
abbrev pub lacked_of : Engine → List MsgId → List MsgId
lacked_of engine ids = filter (λ (id : MsgId). not ((plum_state engine.machine.core).has id)) ids

-- From the front of what is due on, the node asked for what did not come since: their timers fired. It asked for as much
-- as may be on its way beside what is, 128 messages in all, and the rest is due still.
pub record Asks (old : Engine) (due awaited : List MsgId) (dice : Dice) (new : Engine) (rest asked : List MsgId) : Type 0 where
  pub front : List MsgId
  pub parts : due ≡ front ++ rest
  pub fires : MovesAll old (map (firing dice) (armed_of old front)) new
  pub few : length (armed_of old front) ≤ 128 - length awaited
  pub many : length (armed_of old front) < 128 - length awaited → rest ≡ []
  pub noted : asked ≡ awaited ++ armed_of old front

-- whether a turn begins: it is a fifth tick, and nothing is due
abbrev pub is_turn : Asking → ℕ → Bool
is_turn asking ticks = nat_eq (ticks % 5) 0 && nat_eq (length asking.due) 0

-- what is due at this tick: as a turn begins, what waited since the last one ended
abbrev pub due_at : Asking → ℕ → List MsgId
due_at asking ticks = if is_turn asking ticks then asking.waited else asking.due

-- what may be on its way: what was asked for and did not come, but at every 25th tick, when it is taken for lost
abbrev pub awaited_at : Engine → List MsgId → ℕ → List MsgId
awaited_at engine asked ticks = if nat_eq (ticks % 25) 0 then [] else lacked_of engine asked

-- what waits for the next turn, where so much is still due: at the end of a turn that ended at once, all that is missing
abbrev pub waits_at : Asking → ℕ → List MsgId → Engine → List MsgId
waits_at asking ticks due new = if is_turn asking ticks then (if nat_eq (length due) 0 then new.machine.core.gossip.missing.timers else []) else asking.waited

-- What is asked for at a tick.
pub record AsksAt (old : Engine) (asking : Asking) (ticks : ℕ) (dice : Dice) (new : Engine) (asking' : Asking) : Type 0 where
  pub asks : Asks old (due_at asking ticks) (awaited_at old asking.asked ticks) dice new asking'.due asking'.asked
  pub waits : asking'.waited ≡ waits_at asking ticks asking'.due new

-- Between ticks the node went on asking, as what it had asked for came. Where nothing is due, nothing changed.
pub record AsksOn (old : Engine) (asking : Asking) (dice : Dice) (new : Engine) (asking' : Asking) : Type 0 where
  pub idle : asking.due ≡ [] → (new ≡ old) × (asking' ≡ asking)
  pub asks : asking.due ≢ [] → Asks old asking.due (lacked_of old asking.asked) dice new asking'.due asking'.asked
  pub waits : asking'.waited ≡ asking.waited

-- The steps of a tick: all that was queued was sent, it was asked for what did not come, and at a tenth tick the passive
-- view was shuffled.
pub record TickSteps (old : Engine) (asking : Asking) (ticks : ℕ) (dice : Dice) (new : Engine) (asking' : Asking) : Type 0 where
  pub flushed : Engine
  pub asked : Engine
  pub flushes : Moves old Flush dice flushed
  pub asks : AsksAt flushed asking ticks dice asked asking'
  pub shuffles : ticks % 10 ≡ 0 → Moves asked (Shuffle dice) dice new
  pub stays : ticks % 10 ≢ 0 → new ≡ asked

-- Asking was refused on the way: of what was due at this tick, the first timers fired, and all of it is due still. What
-- may be on its way was looked through, or not yet.
pub record IsDueStill (old : Engine) (asking : Asking) (ticks : ℕ) (dice : Dice) (new : Engine) (asking' : Asking) : Type 0 where
  pub count : ℕ
  pub fires : MovesAll old (map (firing dice) (take count (armed_of old (due_at asking ticks)))) new
  pub due : asking'.due ≡ due_at asking ticks
  pub waits : asking'.waited ≡ (if is_turn asking ticks then [] else asking.waited)
  pub asked : (asking'.asked ≡ asking.asked) ⊎ (asking'.asked ≡ awaited_at old asking.asked ticks)

-- All was asked for that may be. What is missing at the end of the turn was noted, or memory was refused for that.
pub record IsAskedFor (old : Engine) (asking : Asking) (ticks : ℕ) (dice : Dice) (new : Engine) (asking' : Asking) : Type 0 where
  pub asks : Asks old (due_at asking ticks) (awaited_at old asking.asked ticks) dice new asking'.due asking'.asked
  pub waits : (asking'.waited ≡ waits_at asking ticks asking'.due new) ⊎ (asking'.waited ≡ (if is_turn asking ticks then [] else asking.waited))

-- What a refused tick leaves to be asked for: nothing of it is forgotten.
abbrev pub LeavesAsking : Engine → Asking → ℕ → Dice → Engine → Asking → Type 0
LeavesAsking old asking ticks dice new asking' =
    (asking' ≡ asking)
    ⊎ ((flushed : Engine)
    × Moves old Flush dice flushed
    × (IsDueStill flushed asking ticks dice new asking' ⊎ IsAskedFor flushed asking ticks dice new asking'))

-- Between ticks asking was refused on the way.
pub record AsksInPart (old : Engine) (asking : Asking) (dice : Dice) (new : Engine) (asking' : Asking) : Type 0 where
  pub count : ℕ
  pub fires : MovesAll old (map (firing dice) (take count (armed_of old asking.due))) new
  pub due : asking'.due ≡ asking.due
  pub waits : asking'.waited ≡ asking.waited
  pub asked : (asking'.asked ≡ asking.asked) ⊎ (asking'.asked ≡ lacked_of old asking.asked)

-- Of the steps of a tick that was refused, these were made: the flush, and behind it timers fired.
pub record Flushes (old : Engine) (dice : Dice) (new : Engine) : Type 0 where
  pub ids : List MsgId
  pub flushed : Engine
  pub flushes : Moves old Flush dice flushed
  pub fires : MovesAll flushed (map (firing dice) ids) new

-- A tick was refused: none of its steps was made, or some.
abbrev pub IsCutShort : Engine → Dice → Engine → Type 0
IsCutShort old dice new = (new ≡ old) ⊎ Flushes old dice new
