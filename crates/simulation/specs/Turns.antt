-- The texts of the items of a list, one after the other.
use Rattle.std.specs.Prelude.{◌≡◌, ℕ, List, [], ◌∷◌, ◌++◌}

-- The text is a text of each item, in the order of the items.
abbrev pub InTurn : {T : Type 0} → (T → List ℕ → Type 0) → List T → List ℕ → Type 0
InTurn Tells [] text = text ≡ []
InTurn Tells (item ∷ items) text = (first : List ℕ) × (rest : List ℕ) × Tells item first × InTurn Tells items rest × (text ≡ first ++ rest)
