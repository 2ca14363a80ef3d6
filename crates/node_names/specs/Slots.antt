-- Lists from which entries are taken out without moving the others.
use Rattle.std.specs.Prelude.{List, [], ◌∷◌, Option, None, Some}

-- the values of the slots that are not empty, in order
abbrev pub somes : {X : Type 0} → List (Option X) → List X
somes [] = []
somes (None ∷ slots) = somes slots
somes (Some x ∷ slots) = x ∷ somes slots
