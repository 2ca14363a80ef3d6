-- What is written in two steps, or in none.
use Rattle.std.proofs.Common.{◌≡◌, ℕ, List, [], ◌++◌, sym, append-nil, Option, Some, None}
use Rattle.std.specs.Io.KnownBytes.{Appends}
use Rattle.trace_text.proofs.Texts.{joined}

pub written : (old mid new : Option (List ℕ)) (part step whole : List ℕ) →
    Appends old mid part →
    Appends mid new step →
    whole ≡ part ++ step →
    Appends old new whole
written None mid new part step whole a b w = tt
written (Some xs) None new part step whole a b w = absurd a
written (Some xs) (Some ys) None part step whole a b w = absurd b
written (Some xs) (Some ys) (Some zs) part step whole a b w = joined zs ys xs part step whole b a w

-- nothing was written
pub unwritten : (o : Option (List ℕ)) → Appends o o []
unwritten None = tt
unwritten (Some xs) = sym (append-nil xs)
