-- Writing a frame field by field.
use Rattle.std.specs.Prelude.{◌≡◌, ℕ, List, ◌++◌}
use Rattle.std.specs.List.{AllByRecursion}
use Rattle.frames.specs.Field.{Field, Holds, octets}
use Rattle.frames.specs.Grammar.{spelled}

-- The field was appended to the old bytes, and holds a value that it may hold.
pub record Puts (f : Field) (old new : List ℕ) : Type 0 where
  pub bytes : new ≡ old ++ octets f
  pub holds : Holds f

-- The fields were appended, one after the other, and each holds a value that it may hold.
pub record PutsAll (fs : List Field) (old new : List ℕ) : Type 0 where
  pub bytes : new ≡ old ++ spelled fs
  pub hold : AllByRecursion Holds fs
