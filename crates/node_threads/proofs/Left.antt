-- What workers leave, one after the other.
use Rattle.std.specs.Prelude.{◌≡◌, ◌⊎◌, List, [], ◌∷◌, ◌++◌, Option, All}
use Rattle.std.specs.List.{AllZip}
use Rattle.std.proofs.Common.{◌∙◌, ap, arith, inl, inr, length-append, subst, sym}
use Rattle.std.proofs.lemmas.List.{append-nil, flat_map_more}
use Rattle.std.proofs.lemmas.List.Elements.{All-push}
use Rattle.node_names.specs.NodeName.{Name}
use Rattle.node_threads.specs.Leaving.{AreLeft, GoesTo, HasLeft, LeavesTo, outlets_in, outlets_of}
use Rattle.node_threads.specs.Outlet.{Outlet}
use Rattle.node_threads.specs.declared.host.worker.Outlets.{Outlets}
use Rattle.node_threads.proofs.Reporting.{flat_push}

zip_push : {X Y : Type 0} (R : X → Y → Type 0) (xs : List X) (ys : List Y) (x : X) (y : Y) → AllZip R xs ys → R x y → AllZip R (xs ++ x ∷ []) (ys ++ y ∷ [])
zip_push R [] [] x y zipped its = (its, tt)
zip_push R [] (z ∷ ys) x y zipped its = absurd zipped
zip_push R (z ∷ xs) [] x y zipped its = absurd zipped
zip_push R (w ∷ xs) (z ∷ ys) x y zipped its = (zipped.0, zip_push R xs ys x y zipped.1 its)

pub none_left : (before : List Outlet) → AreLeft before [] before
none_left before = record { each = []; parts = sym (append-nil before); left = tt }

more_left : (before : List Outlet) (workers : List (Option Name)) (outlets : List Outlet) (worker : Option Name) (its : List Outlet) →
    AreLeft before workers outlets →
    HasLeft worker its →
    AreLeft before (workers ++ worker ∷ []) (outlets ++ its)
more_left before workers outlets worker its left has = record {
  each = left.each ++ its ∷ [];
  parts = ap (λ so_far. so_far ++ its) left.parts ∙ flat_map_more (λ (l : List Outlet). l) before left.each its;
  left = zip_push HasLeft workers left.each worker its left.left has;
}

-- one worker more
pub joined : {A : Type 0} (before : List Outlet) (workers : List (Option Name)) (given : List (Outlets A)) (worker : Option Name) (its : Outlets A) →
    AreLeft before workers (outlets_of given) →
    HasLeft worker (outlets_in its) →
    AreLeft before (workers ++ worker ∷ []) (outlets_of (given ++ its ∷ []))
joined before workers given worker its left has =
    subst (AreLeft before (workers ++ worker ∷ [])) (sym (flat_push outlets_in given its))
    (more_left before workers (outlets_of given) worker (outlets_in its) left has)

-- the outlets of the links that were given up, and the last one
pub leaves_to : (peer : Name) (spent : List Outlet) (last : Outlet) (outlets : List Outlet) →
    outlets ≡ spent ++ last ∷ [] →
    All (GoesTo peer) spent →
    last.peer ≡ peer →
    LeavesTo peer outlets
leaves_to peer spent last outlets is all its = rw is (omega (arith, length-append spent (last ∷ [])), All-push (GoesTo peer) spent last all its)

-- an outlet of a link to the same name was kept, or it was not
pub kept_or_not : (peer : Name) (old new : List Outlet) (last : Outlet) →
    All (GoesTo peer) old →
    last.peer ≡ peer →
    (new ≡ old) ⊎ (new ≡ old ++ last ∷ []) →
    All (GoesTo peer) new
kept_or_not peer old new last all goes (inl same) = subst (All (GoesTo peer)) (sym same) all
kept_or_not peer old new last all goes (inr more) = subst (All (GoesTo peer)) (sym more) (All-push (GoesTo peer) old last all goes)
