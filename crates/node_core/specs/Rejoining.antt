-- By whom a node without neighbours joins again, and when.
use Rattle.std.specs.Prelude.{◌≡◌, ◌≤◌, ◌+◌, ◌*◌, ◌^◌, ◌-◌, ℕ, List, [], Option, Some, Bool, IsTrue, IsSomeAnd, min, nat_lt, if◌then◌else◌}
use Rattle.node_names.specs.NodeName.{Name}
use Rattle.node_core.specs.declared.rejoining.TheConstants.{LONGEST}

-- The contacts that it joins by in turn; the place of the one whose turn is next; the longest that the next pause may
-- take; and when it joins next, if it was alone when that was asked last.
pub record Rejoining : Type 0 where
  pub contacts : List Name
  pub next : ℕ
  pub pause : ℕ
  pub due : Option ℕ

-- It joins at this tick: it has no neighbour but a contact, and the pause that it began before is over.
pub record IsDue (now : ℕ) (is_alone : Bool) (r : Rejoining) : Type 0 where
  pub alone : IsTrue is_alone
  pub contacts : ¬ (r.contacts ≡ [])
  pub over : IsSomeAnd r.due (λ at. at ≤ now)

-- the place of the contact whose turn is after this one's: the next, or the first after the last
abbrev pub turn_after : ℕ → ℕ → ℕ
turn_after count place = if nat_lt (place + 1) count then place + 1 else 0

-- A pause begins at this tick. It takes from half of the longest that it may take up to all of that, and the next may take
-- twice as long, up to `LONGEST`.
pub record BeginsPause (now : ℕ) (old new : Rejoining) : Type 0 where
  pub ticks : ℕ
  pub least : old.pause ≤ 2 * ticks + 1
  pub most : ticks ≤ old.pause
  pub until : new.due ≡ Some (min (now + ticks) (2 ^ 64 - 1))
  pub longer : new.pause ≡ min (2 * old.pause) LONGEST
