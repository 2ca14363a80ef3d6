-- The last of a list that ends with d is d.
use Rattle.std.proofs.Common.{◌≡◌, ◌+◌, ◌-◌, List, [], ◌∷◌, ◌++◌, length, refl, sym, ap, ◌∙◌, arith, Some, subst}
use Rattle.std.specs.Prelude.{slice_get, get_or}
use Rattle.std.proofs.lemmas.Option.{slice_get_read}
use Rattle.std.proofs.Math.Seq.{get_or-append_seam}
use Rattle.std.proofs.Math.ListN.{length-append}

pub last_of : {A : Type 0} (before : List A) (d : A) → slice_get (before ++ d ∷ []) (length (before ++ d ∷ []) - 1) ≡ Some d
last_of before d =
    let long : length (before ++ d ∷ []) ≡ length before + 1 = length-append before (d ∷ []) in
    slice_get_read (before ++ d ∷ []) (length (before ++ d ∷ [])) (length (before ++ d ∷ []) - 1) d refl (omega (arith, long))
    (subst (λ n. d ≡ get_or (before ++ d ∷ []) n d) (sym (ap (λ n. n - 1) long ∙ (omega arith))) (sym (get_or-append_seam before d [] d)))
