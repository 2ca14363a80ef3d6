-- The rank of a value among distinct values in ascending order: its index, or 0 if it is not among them.
use Rattle.std.specs.Prelude.{ℕ, Bool, List, position}
use Rattle.std.specs.Option.{unwrap_or}

abbrev pub rank_in : {T : Type 0} → (T → T → Bool) → List T → T → ℕ
rank_in eq values value = unwrap_or (position (eq value) values) 0
