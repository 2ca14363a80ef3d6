-- Fields that are appended one after the other.
use Rattle.std.proofs.Common.{ℕ, List, [], ◌∷◌, ◌++◌, sym, ap, ◌∙◌, append_assoc}
use Rattle.std.proofs.lemmas.List.{append-nil}
use Rattle.frames.specs.Field.{Field, octets}
use Rattle.frames.specs.Grammar.{spelled}
use Rattle.frames.specs.Writing.{Puts, PutsAll}

-- no fields
pub puts_none : (old : List ℕ) → PutsAll [] old old
puts_none old = record { bytes = sym (append-nil old); hold = tt }

-- one field, and then others
pub puts_then : (f : Field) (fs : List Field) (old mid new : List ℕ) → Puts f old mid → PutsAll fs mid new → PutsAll (f ∷ fs) old new
puts_then f fs old mid new p q = record {
  bytes = q.bytes ∙ ap (λ t. t ++ spelled fs) p.bytes ∙ append_assoc old (octets f) (spelled fs);
  hold = (p.holds, q.hold);
}

-- one field, the last
pub puts_last : (f : Field) (old new : List ℕ) → Puts f old new → PutsAll (f ∷ []) old new
puts_last f old new p = puts_then f [] old new new p (puts_none new)
