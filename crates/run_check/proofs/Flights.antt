-- What is in flight, and what stands at places of lists.
use Rattle.std.proofs.Common.{◌≡◌, ◌∙◌, ◌+◌, ◌<◌, ℕ, zero, suc, List, [], ◌∷◌, ◌++◌, ap, arith, inl, inr, length, subst, sym, add-zero}
use Rattle.std.specs.Prelude.{Some, remove, slice_get}
use Rattle.std.proofs.lemmas.List.{length-map}
use Rattle.node_names.specs.NodeName.{Name}
use Rattle.node_names.specs.declared.ids.Origin.{Origin}
use Rattle.protocol.specs.Lists.{IsOneOf, places}
use Rattle.protocol.proofs.Segments.{get_left, get_right}
use Rattle.world.specs.Group.{packets}
use Rattle.world.specs.declared.packet.Packet.{Packet}
use Rattle.world.proofs.PlanLemmas.{found_within}

-- one of the first list or of the second is one of both
pub one-left : {X : Type 0} (xs ys : List X) (x : X) → IsOneOf x xs → IsOneOf x (xs ++ ys)
one-left [] ys x one = absurd one
one-left (y ∷ xs) ys x one = elim one [ inl here ↦ inl here | inr later ↦ inr (one-left xs ys x later) ]

pub one-right : {X : Type 0} (xs ys : List X) (x : X) → IsOneOf x ys → IsOneOf x (xs ++ ys)
one-right [] ys x one = one
one-right (y ∷ xs) ys x one = inr (one-right xs ys x one)

-- one of a list stands at a place
pub place_of : {X : Type 0} (xs : List X) (x : X) → IsOneOf x xs → (k : ℕ) × (slice_get xs k ≡ Some x)
place_of [] x one = absurd one
place_of {X} (y ∷ ys) x one =
    elim one [
      | inl here ↦ (0, ap (λ (z : X). Some z) (sym here))
      | inr later ↦ (let at : (k : ℕ) × (slice_get ys k ≡ Some x) = place_of ys x later in (suc at.0, at.1))
    ]

-- where something leaves the list, what differs from it stays
pub stays : {X : Type 0} (xs : List X) (k : ℕ) (gone x : X) → slice_get xs k ≡ Some gone → (x ≡ gone → ⊥) → IsOneOf x xs → IsOneOf x (remove xs k)
stays [] k gone x e apart one = absurd one
stays (y ∷ ys) zero gone x e apart one =
    let is : Some y ≡ Some gone = e in
    let same : y ≡ gone = cc in
    elim one [ inl here ↦ absurd (apart (here ∙ same)) | inr later ↦ later ]
stays (y ∷ ys) (suc k) gone x e apart one = elim one [ inl here ↦ inl here | inr later ↦ inr (stays ys k gone x e apart later) ]

-- what stands at a place stands there in a longer list
pub still : {X : Type 0} (xs ys : List X) (k : ℕ) (x : X) → slice_get xs k ≡ Some x → slice_get (xs ++ ys) k ≡ Some x
still xs ys k x e = get_left xs ys k (found_within xs k x e) ∙ e

-- each of so many numbers is one of them
has_place : (from n k : ℕ) → k < n → IsOneOf (from + k) (places from n)
has_place from zero k h = absurd (omega arith)
has_place from (suc n) zero h = inl (add-zero from)
has_place from (suc n) (suc k) h =
    let less : k < n = omega arith in
    let same : suc from + k ≡ from + suc k = omega arith in
    inr (subst (λ m. IsOneOf m (places (suc from) n)) same (has_place (suc from) n k less))

-- a packet that is sent is in flight under its number
pub new_flies : {N : Type 0} (sent : List (Packet N)) (staying : List ℕ) (sender : Origin) (sends : List (Name × N)) (packet : Packet N) →
    IsOneOf packet (packets sender sends) →
    (number : ℕ) × IsOneOf number (staying ++ places (length sent) (length sends)) × (slice_get (sent ++ packets sender sends) number ≡ Some packet)
new_flies {N} sent staying sender sends packet one =
    let at : (k : ℕ) × (slice_get (packets sender sends) k ≡ Some packet) = place_of (packets sender sends) packet one in
    let count : length (packets sender sends) ≡ length sends = length-map sends (λ (send : Name × N). record { sender = sender; to = send.0; note = send.1 }) in
    let within : at.0 < length sends = subst (λ n. at.0 < n) count (found_within (packets sender sends) at.0 packet at.1) in (
      length sent + at.0,
      one-right staying (places (length sent) (length sends)) (length sent + at.0) (has_place (length sent) (length sends) at.0 within),
      get_right sent (packets sender sends) at.0 ∙ at.1,
    )
