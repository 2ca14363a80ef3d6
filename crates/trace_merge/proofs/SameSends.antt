-- Packets, read as what they say.
use Rattle.std.proofs.Common.{◌≡◌, ◌∙◌, Bor, Iter, List, ◌∷◌, ap, length, subst}
use Rattle.std.specs.Prelude.{Some, None, map}
use Rattle.std.proofs.lemmas.List.{length-map}
use Rattle.std.specs.Slice.Iter.{iter_rest}
use Rattle.std.proofs.iter.Yields.{fronts}
use Rattle.std.proofs.lemmas.Iterator.{YieldsList}
use Rattle.std.proofs.lemmas.Iterator.Consumers.{YieldsList-from_shown}
use Rattle.world.specs.declared.packet.Packet.{Packet}
use Rattle.trace_merge.specs.Projection.{said}

-- packets, read as what they say
pub said_from_slice : {N : Type 0} {s : Iter (Packet N)} (xs : List (Packet N)) → iter_rest s ≡ xs → YieldsList fronts (λ y. said y.now) s (map said xs)
said_from_slice {N} {s} xs e =
    subst (λ ys. YieldsList fronts (λ y. said y.now) s (map said ys)) e
    (YieldsList-from_shown fronts (λ y. said y.now) (λ t. map said (iter_rest t)) none more s)
  where
    none : (t u : Iter (Packet N)) → fronts t None u → length (map said (iter_rest t)) ≡ 0
    none t u h = length-map (iter_rest t) said ∙ h.0

    more : (t : Iter (Packet N)) (x : Bor (Packet N)) (u : Iter (Packet N)) → fronts t (Some x) u → map said (iter_rest t) ≡ said x.now ∷ map said (iter_rest u)
    more t x u h = ap (map said) h
