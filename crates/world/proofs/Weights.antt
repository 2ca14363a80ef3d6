-- Sums over the packets that were sent, and over those that are in flight.
use Rattle.std.proofs.Common.{◌≡◌, ◌∙◌, ◌+◌, ◌<◌, ◌≤◌, ℕ, zero, suc, List, [], ◌∷◌, ◌++◌, length, sym, ap, refl, subst, inl, inr, arith}
use Rattle.std.specs.List.{AllByRecursion as Each, sum_by}
use Rattle.std.specs.Prelude.{Option, Some, None, remove, slice_get}
use Rattle.std.proofs.lemmas.List.{length-append, length-map}
use Rattle.std.proofs.lemmas.List.Sums.{sum_by-append, sum_by-cons}
use Rattle.node_names.specs.NodeName.{Name}
use Rattle.node_names.specs.declared.ids.Origin.{Origin}
use Rattle.protocol.specs.Lists.{IsOneOf, places}
use Rattle.protocol.specs.Stimulus.{Stimulus}
use Rattle.protocol.specs.declared.stimulus.StimulusOf.TheVariants.{Broadcast, Arrive, Fire, Flush, Down, Shuffle, Join}
use Rattle.protocol.proofs.Segments.{get_left}
use Rattle.world.specs.Group.{packets}
use Rattle.world.specs.declared.packet.Packet.{Packet}
use Rattle.world.proofs.Flying.{get_appended}
use Rattle.world.proofs.Kept.{each-append, each-weaken}

-- the weight of a packet that may be there
abbrev pub weight_of : {N : Type 0} → (Packet N → ℕ) → Option (Packet N) → ℕ
weight_of w None = 0
weight_of w (Some packet) = w packet

-- the weight of all packets in flight
abbrev pub flying_weight : {N : Type 0} → (Packet N → ℕ) → List (Packet N) → List ℕ → ℕ
flying_weight w sent flight = sum_by (λ number. weight_of w (slice_get sent number)) flight

-- the weight of the packet that arrives at the name by this stimulus
abbrev pub arriving : {N : Type 0} → (Packet N → ℕ) → Name → Stimulus N → ℕ
arriving w name (Broadcast payload) = 0
arriving w name (Arrive sender note dice) = w (record { sender = sender; to = name; note = note })
arriving w name (Fire id) = 0
arriving w name Flush = 0
arriving w name (Down peer dice) = 0
arriving w name (Shuffle dice) = 0
arriving w name (Join contact) = 0

-- Each packet in flight was sent.
abbrev pub AreSent : {N : Type 0} → List (Packet N) → List ℕ → Type 0
AreSent sent flight = Each (λ number. number < length sent) flight

-- a sum of nothing but 0 is 0
pub sum_none : {X : Type 0} (xs : List X) → sum_by (λ (x : X). 0) xs ≡ 0
sum_none [] = refl
sum_none {X} (x ∷ xs) =
    let both : sum_by (λ (y : X). 0) (x ∷ xs) ≡ 0 + sum_by (λ (y : X). 0) xs = sum_by-cons (λ (y : X). 0) x xs in
    let later : sum_by (λ (y : X). 0) xs ≡ 0 = sum_none xs in
    let all : sum_by (λ (y : X). 0) (x ∷ xs) ≡ 0 = omega arith in
    all

-- where all packets together weigh nothing, each weighs nothing
weighs_nothing : {N : Type 0} (w : Packet N → ℕ) (sent : List (Packet N)) (number : ℕ) → sum_by w sent ≡ 0 → weight_of w (slice_get sent number) ≡ 0
weighs_nothing w [] number none = refl
weighs_nothing w (packet ∷ sent) zero none =
    let both : sum_by w (packet ∷ sent) ≡ w packet + sum_by w sent = sum_by-cons w packet sent in
    let here : w packet ≡ 0 = omega arith in
    here
weighs_nothing w (packet ∷ sent) (suc number) none =
    let both : sum_by w (packet ∷ sent) ≡ w packet + sum_by w sent = sum_by-cons w packet sent in
    let later : sum_by w sent ≡ 0 = omega arith in
    weighs_nothing w sent number later

-- so nothing in flight does
pub flying_none : {N : Type 0} (w : Packet N → ℕ) (sent : List (Packet N)) (flight : List ℕ) → sum_by w sent ≡ 0 → flying_weight w sent flight ≡ 0
flying_none w sent [] none = refl
flying_none w sent (number ∷ flight) none =
    let both : flying_weight w sent (number ∷ flight) ≡ weight_of w (slice_get sent number) + flying_weight w sent flight =
    sum_by-cons (λ n. weight_of w (slice_get sent n)) number flight in
    let here : weight_of w (slice_get sent number) ≡ 0 = weighs_nothing w sent number none in
    let later : flying_weight w sent flight ≡ 0 = flying_none w sent flight none in
    let all : flying_weight w sent (number ∷ flight) ≡ 0 = omega arith in
    all

-- what was in flight weighs the same when more was sent
flying_same : {N : Type 0} (w : Packet N → ℕ) (sent more : List (Packet N)) (flight : List ℕ) →
    AreSent sent flight →
    flying_weight w (sent ++ more) flight ≡ flying_weight w sent flight
flying_same w sent more [] sound = refl
flying_same w sent more (number ∷ flight) sound =
    let all : flying_weight w (sent ++ more) (number ∷ flight) ≡ weight_of w (slice_get (sent ++ more) number) + flying_weight w (sent ++ more) flight =
    sum_by-cons (λ n. weight_of w (slice_get (sent ++ more) n)) number flight in
    let before : flying_weight w sent (number ∷ flight) ≡ weight_of w (slice_get sent number) + flying_weight w sent flight =
    sum_by-cons (λ n. weight_of w (slice_get sent n)) number flight in
    let here : weight_of w (slice_get (sent ++ more) number) ≡ weight_of w (slice_get sent number) = ap (weight_of w) (get_left sent more number sound.0) in
    let later : flying_weight w (sent ++ more) flight ≡ flying_weight w sent flight = flying_same w sent more flight sound.1 in
    let same : flying_weight w (sent ++ more) (number ∷ flight) ≡ flying_weight w sent (number ∷ flight) = omega arith in
    same

-- the packets at consecutive places weigh as much as the list of them
places_weigh : {N : Type 0} (w : Packet N → ℕ) (all rest : List (Packet N)) (from : ℕ) →
    ((k : ℕ) → slice_get all (from + k) ≡ slice_get rest k) →
    flying_weight w all (places from (length rest)) ≡ sum_by w rest
places_weigh w all [] from there = refl
places_weigh w all (packet ∷ rest) from there =
    let whole : flying_weight w all (places from (length (packet ∷ rest)))
    ≡ weight_of w (slice_get all from) + flying_weight w all (places (suc from) (length rest)) =
    sum_by-cons (λ n. weight_of w (slice_get all n)) from (places (suc from) (length rest)) in
    let list : sum_by w (packet ∷ rest) ≡ w packet + sum_by w rest = sum_by-cons w packet rest in
    let at : from + 0 ≡ from = omega arith in
    let here : weight_of w (slice_get all from) ≡ w packet = ap (λ n. weight_of w (slice_get all n)) (sym at) ∙ ap (weight_of w) (there 0) in
    let later : flying_weight w all (places (suc from) (length rest)) ≡ sum_by w rest =
    places_weigh w all rest (suc from) (λ k. let next : suc from + k ≡ from + suc k = omega arith in ap (λ n. slice_get all n) next ∙ there (suc k)) in
    let same : flying_weight w all (places from (length (packet ∷ rest))) ≡ sum_by w (packet ∷ rest) = omega arith in
    same

-- what a step sends comes on top in flight
pub flying_more : {N : Type 0} (w : Packet N → ℕ) (sent : List (Packet N)) (staying : List ℕ) (sender : Origin) (sends : List (Name × N)) →
    AreSent sent staying →
    flying_weight w (sent ++ packets sender sends) (staying ++ places (length sent) (length sends))
    ≡ flying_weight w sent staying + sum_by w (packets sender sends)
flying_more {N} w sent staying sender sends sound =
    let many : length (packets sender sends) ≡ length sends = length-map sends (λ (send : Name × N). record { sender = sender; to = send.0; note = send.1 }) in
    let new : flying_weight w (sent ++ packets sender sends) (places (length sent) (length sends)) ≡ sum_by w (packets sender sends) =
    subst (λ n. flying_weight w (sent ++ packets sender sends) (places (length sent) n) ≡ sum_by w (packets sender sends)) many
    (places_weigh w (sent ++ packets sender sends) (packets sender sends) (length sent) (get_appended sent (packets sender sends))) in
    let old : flying_weight w (sent ++ packets sender sends) staying ≡ flying_weight w sent staying = flying_same w sent (packets sender sends) staying sound in
    let both : flying_weight w (sent ++ packets sender sends) (staying ++ places (length sent) (length sends))
    ≡ flying_weight w (sent ++ packets sender sends) staying + flying_weight w (sent ++ packets sender sends) (places (length sent) (length sends)) =
    sum_by-append (λ n. weight_of w (slice_get (sent ++ packets sender sends) n)) staying (places (length sent) (length sends)) in
    let all : flying_weight w (sent ++ packets sender sends) (staying ++ places (length sent) (length sends))
    ≡ flying_weight w sent staying + sum_by w (packets sender sends) =
    omega arith in
    all

-- a list weighs what leaves it and what stays
pub sum_removed : {X : Type 0} (f : X → ℕ) (xs : List X) (k : ℕ) (x : X) → slice_get xs k ≡ Some x → sum_by f xs ≡ f x + sum_by f (remove xs k)
sum_removed f [] k x at = let no : None ≡ Some x = at in cc
sum_removed f (y ∷ ys) zero x at =
    let is : Some y ≡ Some x = at in
    let same : y ≡ x = cc in
    sum_by-cons f y ys ∙ ap (λ z. f z + sum_by f ys) same
sum_removed f (y ∷ ys) (suc k) x at =
    let whole : sum_by f (y ∷ ys) ≡ f y + sum_by f ys = sum_by-cons f y ys in
    let rest : sum_by f (y ∷ remove ys k) ≡ f y + sum_by f (remove ys k) = sum_by-cons f y (remove ys k) in
    let later : sum_by f ys ≡ f x + sum_by f (remove ys k) = sum_removed f ys k x at in
    let all : sum_by f (y ∷ ys) ≡ f x + sum_by f (y ∷ remove ys k) = omega arith in
    all

-- what a step sends, by its sends
pub sum_packets : {N : Type 0} (w : Packet N → ℕ) (sender : Origin) (sends : List (Name × N)) →
    sum_by w (packets sender sends) ≡ sum_by (λ (send : Name × N). w (record { sender = sender; to = send.0; note = send.1 })) sends
sum_packets w sender [] = refl
sum_packets {N} w sender (send ∷ sends) =
    sum_by-cons w (record { sender = sender; to = send.0; note = send.1 }) (packets sender sends)
    ∙ ap (λ n. w (record { sender = sender; to = send.0; note = send.1 }) + n) (sum_packets w sender sends)
    ∙ sym (sum_by-cons (λ (s : Name × N). w (record { sender = sender; to = s.0; note = s.1 })) send sends)

-- what stays was there
pub one_removed : {X : Type 0} (xs : List X) (k : ℕ) (x : X) → IsOneOf x (remove xs k) → IsOneOf x xs
one_removed [] zero x one = one
one_removed [] (suc k) x one = one
one_removed (y ∷ ys) zero x one = inr one
one_removed (y ∷ ys) (suc k) x one = elim one [ inl here ↦ inl here | inr later ↦ inr (one_removed ys k x later) ]

-- so what holds of each that was there holds of each that stays
pub each_staying : {X : Type 0} (P : X → Type 0) (xs ys : List X) → Each P xs → ((x : X) → IsOneOf x ys → IsOneOf x xs) → Each P ys
each_staying P xs [] h stay = tt
each_staying {X} P xs (y ∷ ys) h stay = (one xs h (stay y (inl refl)), each_staying P xs ys h (λ x later. stay x (inr later)))
  where
    one : (zs : List X) → Each P zs → IsOneOf y zs → P y
    one [] none is = absurd is
    one (z ∷ zs) all is = elim is [ inl here ↦ subst P (sym here) all.0 | inr later ↦ one zs all.1 later ]

-- the places from a number on are below their end
places_below : (from n end : ℕ) → from + n ≤ end → Each (λ number. number < end) (places from n)
places_below from zero end within = tt
places_below from (suc n) end within = (omega arith, places_below (suc from) n end (omega arith))

-- what was sent is still sent when more was
pub sent_still : {N : Type 0} (sent more : List (Packet N)) (flight : List ℕ) → AreSent sent flight → AreSent (sent ++ more) flight
sent_still sent more flight sound =
    let both : length (sent ++ more) ≡ length sent + length more = length-append sent more in
    each-weaken (λ number. number < length sent) (λ number. number < length (sent ++ more)) flight (λ number h. omega arith) sound

-- and so is what a step sends
pub sent_more : {N : Type 0} (sent : List (Packet N)) (staying : List ℕ) (sender : Origin) (sends : List (Name × N)) →
    AreSent sent staying →
    AreSent (sent ++ packets sender sends) (staying ++ places (length sent) (length sends))
sent_more {N} sent staying sender sends sound =
    let many : length (packets sender sends) ≡ length sends = length-map sends (λ (send : Name × N). record { sender = sender; to = send.0; note = send.1 }) in
    let both : length (sent ++ packets sender sends) ≡ length sent + length (packets sender sends) = length-append sent (packets sender sends) in
    each-append (λ number. number < length (sent ++ packets sender sends)) staying (places (length sent) (length sends))
    (sent_still sent (packets sender sends) staying sound)
    (places_below (length sent) (length sends) (length (sent ++ packets sender sends)) (omega arith))
