-- The known numbers past the first gap.
use Rattle.std.specs.Prelude.{ℕ, ◌-◌, Bool, false, not, List, [], ◌∷◌, ◌++◌, if◌then◌else◌, nat_le}
use Rattle.std.specs.List.{range_with_len}

-- The numbers in ascending order, and for how many more edges there is room.
pub record Past : Type 0 where
  pub numbers : List ℕ
  pub room : ℕ

-- The numbers of the runs that these edges bound: from the first edge on and below the second, from the third on and below
-- the fourth, and so on. A last edge that has no other to it bounds a run that goes on below `top`.
abbrev pub between : ℕ → List ℕ → List ℕ
between top [] = []
between top (first ∷ []) = range_with_len first (top - first)
between top (first ∷ end ∷ edges) = range_with_len first (end - first) ++ between top edges

abbrev pub toggled : Bool → Bool → Bool
toggled b c = if b then not c else c

-- whether an odd number of the edges are not greater than `n`
abbrev pub is_covered : List ℕ → ℕ → Bool
is_covered [] n = false
is_covered (edge ∷ edges) n = toggled (nat_le edge n) (is_covered edges n)
