-- Counts of calls and of failures, and what a call moved.
use Rattle.std.specs.Prelude.{ℕ, ◌+◌, ◌-◌, min, Bool, false, ◌&&◌, ◌||◌, ◌==◌, List, length, Result, Ok, Err, nat_lt}

-- A count after this many more calls; it saturates at the greatest u64.
abbrev pub counted : ℕ → ℕ → ℕ
counted count calls = count + min calls (18446744073709551615 - count)

-- Whether a count of failures rose, or is the greatest u64.
abbrev pub has_risen : ℕ → ℕ → Bool
has_risen old new = nat_lt old new || new == 18446744073709551615

-- Whether a call succeeded and moved no byte of a buffer that had some.
abbrev pub moves_none : {E : Type 0} → Result ℕ E → List ℕ → Bool
moves_none (Ok n) buf = n == 0 && nat_lt 0 (length buf)
moves_none (Err e) buf = false
