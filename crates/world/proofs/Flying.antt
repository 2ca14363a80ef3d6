-- What is in flight, and lists that have something or count it.
use Rattle.std.proofs.Common.{◌≡◌, ◌∙◌, ◌+◌, ◌≤◌, ℕ, zero, suc, List, [], ◌∷◌, ◌++◌, true, false, sym, ap, refl, subst, inl, inr, arith}
use Rattle.std.specs.List.{AllByRecursion as Each}
use Rattle.std.specs.Prelude.{◌⊎◌, Bool, Some, None, cond, count_by, length, remove, slice_get}
use Rattle.std.proofs.lemmas.List.Sums.{sum_by-cons}
use Rattle.node_names.specs.NodeName.{Name}
use Rattle.node_names.specs.declared.ids.Origin.{Origin}
use Rattle.protocol.specs.Lists.{IsOneOf, places}
use Rattle.world.specs.Group.{packets}
use Rattle.world.specs.declared.packet.Packet.{Packet}

-- what stands at a place is one of the list
pub one_at : {X : Type 0} (xs : List X) (k : ℕ) (x : X) → slice_get xs k ≡ Some x → IsOneOf x xs
one_at [] k x e = let no : None ≡ Some x = e in cc
one_at (y ∷ ys) zero x e = let is : Some y ≡ Some x = e in inl cc
one_at (y ∷ ys) (suc k) x e = inr (one_at ys k x e)

-- what holds of each holds of one of them
pub each_one : {X : Type 0} (P : X → Type 0) (xs : List X) (x : X) → Each P xs → IsOneOf x xs → P x
each_one P [] x h one = absurd one
each_one P (y ∷ ys) x h one = elim one [ inl here ↦ subst P (sym here) h.0 | inr later ↦ each_one P ys x h.1 later ]

-- one of the first list or of the second is one of both
pub one-left : {X : Type 0} (xs ys : List X) (x : X) → IsOneOf x xs → IsOneOf x (xs ++ ys)
one-left [] ys x one = absurd one
one-left (y ∷ xs) ys x one = elim one [ inl here ↦ inl here | inr later ↦ inr (one-left xs ys x later) ]

pub one-right : {X : Type 0} (xs ys : List X) (x : X) → IsOneOf x ys → IsOneOf x (xs ++ ys)
one-right [] ys x one = one
one-right (y ∷ xs) ys x one = inr (one-right xs ys x one)

-- where something leaves the list, another one stays
pub stays_or_leaves : {X : Type 0} (xs : List X) (k : ℕ) (gone x : X) → slice_get xs k ≡ Some gone → IsOneOf x xs → (x ≡ gone) ⊎ IsOneOf x (remove xs k)
stays_or_leaves [] k gone x e one = absurd one
stays_or_leaves (y ∷ ys) zero gone x e one =
    let is : Some y ≡ Some gone = e in
    let same : y ≡ gone = cc in
    elim one [ inl here ↦ inl (here ∙ same) | inr later ↦ inr later ]
stays_or_leaves (y ∷ ys) (suc k) gone x e one =
    elim one [
      | inl here ↦ inr (inl here)
      | inr later ↦ elim (stays_or_leaves ys k gone x e later) [ inl gone_now ↦ inl gone_now | inr stays ↦ inr (inr stays) ]
    ]

-- what stands at a place stands there in a longer list
pub get-append : {X : Type 0} (xs ys : List X) (k : ℕ) (x : X) → slice_get xs k ≡ Some x → slice_get (xs ++ ys) k ≡ Some x
get-append [] ys k x e = let no : None ≡ Some x = e in cc
get-append (y ∷ xs) ys zero x e = e
get-append (y ∷ xs) ys (suc k) x e = get-append xs ys k x e

-- and behind it stands what was appended
pub get_appended : {X : Type 0} (xs ys : List X) (k : ℕ) → slice_get (xs ++ ys) (length xs + k) ≡ slice_get ys k
get_appended [] ys k = let e : 0 + k ≡ k = omega arith in ap (λ n. slice_get ys n) e
get_appended (x ∷ xs) ys k =
    let e : length (x ∷ xs) + k ≡ suc (length xs + k) = omega arith in
    ap (λ n. slice_get (x ∷ (xs ++ ys)) n) e ∙ get_appended xs ys k

-- the first of a list is counted if it passes the test
counts_first : {X : Type 0} (test : X → Bool) (y : X) (ys : List X) → test y ≡ true → 1 ≤ count_by test (y ∷ ys)
counts_first test y ys is =
    let all : count_by test (y ∷ ys) ≡ cond {A = ℕ} (test y) 1 0 + count_by test ys = sum_by-cons (λ z. cond (test z) 1 0) y ys in
    let now : cond {A = ℕ} (test y) 1 0 ≡ 1 = ap {B = ℕ} (λ b. cond b 1 0) is in
    omega arith

-- and the others as without it
counts_later : {X : Type 0} (test : X → Bool) (y : X) (ys : List X) → 1 ≤ count_by test ys → 1 ≤ count_by test (y ∷ ys)
counts_later test y ys more =
    let all : count_by test (y ∷ ys) ≡ cond {A = ℕ} (test y) 1 0 + count_by test ys = sum_by-cons (λ z. cond (test z) 1 0) y ys in
    omega arith

-- where the first is not counted, another is
others_counted : {X : Type 0} (test : X → Bool) (y : X) (ys : List X) → test y ≡ false → 1 ≤ count_by test (y ∷ ys) → 1 ≤ count_by test ys
others_counted test y ys is some =
    let all : count_by test (y ∷ ys) ≡ cond {A = ℕ} (test y) 1 0 + count_by test ys = sum_by-cons (λ z. cond (test z) 1 0) y ys in
    let none : cond {A = ℕ} (test y) 1 0 ≡ 0 = ap {B = ℕ} (λ b. cond b 1 0) is in
    omega arith

-- one of a list that passes the test is counted
pub counts_one : {X : Type 0} (test : X → Bool) (xs : List X) (x : X) → IsOneOf x xs → test x ≡ true → 1 ≤ count_by test xs
counts_one test [] x one is = absurd one
counts_one {X} test (y ∷ ys) x one is =
    elim one [
      | inl here ↦ counts_first test y ys (ap test (sym here) ∙ is)
      | inr later ↦ counts_later test y ys (counts_one test ys x later is)
    ]

-- and what is counted is there
pub one_counted : {X : Type 0} (test : X → Bool) (xs : List X) → 1 ≤ count_by test xs → (x : X) × IsOneOf x xs × (test x ≡ true)
one_counted test [] some = absurd (omega arith)
one_counted {X} test (y ∷ ys) some = go (test y) refl (λ is. one_counted test ys (others_counted test y ys is some))
  where
    go : (b : Bool) → test y ≡ b → (test y ≡ false → (x : X) × IsOneOf x ys × (test x ≡ true)) → (x : X) × IsOneOf x (y ∷ ys) × (test x ≡ true)
    go true is later = (y, inl refl, is)
    go false is later = let found = later is in (found.0, inr found.1, found.2)

-- a place in a range of places is one of them
one_place : (from n k : ℕ) → suc k ≤ n → IsOneOf (from + k) (places from n)
one_place from zero k less = absurd (omega arith)
one_place from (suc n) zero less = inl (omega arith)
one_place from (suc n) (suc k) less =
    let e : suc from + k ≡ from + suc k = omega arith in
    inr (subst (λ m. IsOneOf m (places (suc from) n)) e (one_place (suc from) n k (omega arith)))

-- The send stands among those that were sent, and in flight.
pub record IsSent {N : Type 0} (sent : List (Packet N)) (sender : Origin) (sends : List (Name × N)) (send : Name × N) : Type 0 where
  pub number : ℕ
  pub flies : IsOneOf number (places (length sent) (length sends))
  pub stands : slice_get (sent ++ packets sender sends) number ≡ Some (record { sender = sender; to = send.0; note = send.1 })

-- each send has a place among its step's packets
place_of : {N : Type 0} (sender : Origin) (sends : List (Name × N)) (send : Name × N) →
    IsOneOf send sends →
    (k : ℕ) × (suc k ≤ length sends) × (slice_get (packets sender sends) k ≡ Some (record { sender = sender; to = send.0; note = send.1 }))
place_of sender [] send one = absurd one
place_of {N} sender (first ∷ sends) send one =
    elim one [
      | inl here ↦ (zero, omega arith, ap (λ (s : Name × N). Some (record { sender = sender; to = s.0; note = s.1 })) (sym here))
      | inr later ↦ (let found = place_of sender sends send later in (suc found.0, (let less : suc found.0 ≤ length sends = found.1 in omega arith), found.2))
    ]

-- so each send is in flight
pub is_sent :
    {N : Type 0} (sent : List (Packet N)) (sender : Origin) (sends : List (Name × N)) (send : Name × N) → IsOneOf send sends → IsSent sent sender sends send
is_sent sent sender sends send one =
    let found = place_of sender sends send one in
    record {
      number = length sent + found.0;
      flies = one_place (length sent) (length sends) found.0 found.1;
      stands = get_appended sent (packets sender sends) found.0 ∙ found.2;
    }

-- what stands among the old packets and the new ones is an old one, or one of the sends
one_of_sends : {N : Type 0} (sender : Origin) (sends : List (Name × N)) (packet : Packet N) →
    IsOneOf packet (packets sender sends) →
    IsOneOf (packet.to, packet.note) sends × (packet.sender ≡ sender)
one_of_sends sender [] packet one = absurd one
one_of_sends {N} sender (send ∷ sends) packet one =
    elim one [
      | inl here ↦ (inl (ap (λ (p : Packet N). (p.to, p.note)) here), ap (λ (p : Packet N). p.sender) here)
      | inr later ↦ (let found = one_of_sends sender sends packet later in (inr found.0, found.1))
    ]

pub sent_or_new : {N : Type 0} (sent : List (Packet N)) (sender : Origin) (sends : List (Name × N)) (number : ℕ) (packet : Packet N) →
    slice_get (sent ++ packets sender sends) number ≡ Some packet →
    (slice_get sent number ≡ Some packet) ⊎ (IsOneOf (packet.to, packet.note) sends × (packet.sender ≡ sender))
sent_or_new [] sender sends number packet e = inr (one_of_sends sender sends packet (one_at (packets sender sends) number packet e))
sent_or_new (first ∷ sent) sender sends zero packet e = inl e
sent_or_new (first ∷ sent) sender sends (suc number) packet e = sent_or_new sent sender sends number packet e
