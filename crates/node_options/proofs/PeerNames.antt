-- Peers no two of which have the same name.
use Rattle.std.proofs.Common.{◌≡◌, Bool, false, List, [], ◌∷◌, ◌++◌, map, refl, subst, sym}
use Rattle.std.proofs.lemmas.List.{map-append}
use Rattle.std.proofs.lemmas.Map.Keys.{IsDistinct-push}
use Rattle.std.specs.List.{IsDistinct, list_any}
use Rattle.node_names.specs.Same.{same_name, same_name-laws}
use Rattle.node_options.specs.Peers.{AreApart, names_of}
use Rattle.node_options.specs.declared.peer.Peer.{Peer}

pub list_any-map : {X Y : Type 0} (test : Y → Bool) (f : X → Y) (xs : List X) → list_any test (map f xs) ≡ list_any (λ x. test (f x)) xs
list_any-map test f [] = refl
list_any-map test f (x ∷ xs) = rw (list_any-map test f xs)

pub AreApart-nil : AreApart []
unfolding IsDistinct
AreApart-nil = tt

-- one more peer, whose name none of the others has
pub AreApart-push : (peers : List Peer) (peer : Peer) →
    AreApart peers →
    list_any (λ other. same_name peer.name other.name) peers ≡ false →
    AreApart (peers ++ peer ∷ [])
AreApart-push peers peer apart absent =
    let absent_name : list_any (same_name peer.name) (names_of peers) ≡ false =
    rw (list_any-map (same_name peer.name) (λ (other : Peer). other.name) peers) absent in
    subst (IsDistinct same_name) (sym (map-append (λ (other : Peer). other.name) peers (peer ∷ [])))
    (IsDistinct-push same_name-laws (names_of peers) peer.name apart absent_name)
