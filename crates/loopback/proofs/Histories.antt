-- Lists of histories.
use Rattle.std.specs.Prelude.{◌≡◌, List, [], ◌∷◌, ◌++◌, All}
use Rattle.std.proofs.Common.{subst, sym}
use Rattle.std.proofs.lemmas.List.Elements.{All-push}

-- one more
pub one_more : {X : Type 0} (P : X → Type 0) (xs ys : List X) (x : X) → ys ≡ xs ++ x ∷ [] → P x → All P xs → All P ys
one_more P xs ys x is has all = subst (All P) (sym is) (All-push P xs x all has)
