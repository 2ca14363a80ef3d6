-- What is in flight stands there once and is kept.
use Rattle.std.proofs.Common.{◌≡◌, ◌∙◌, ◌+◌, ◌-◌, ◌<◌, ◌≤◌, ℕ, zero, suc, List, [], ◌∷◌, ◌++◌, ap, arith, false, inl, inr, length, refl, subst, sym, true}
use Rattle.std.specs.Prelude.{◌⊎◌, Bool, Option, Some, None, remove, slice_get, if◌then◌else◌}
use Rattle.std.specs.Map.{lookup}
use Rattle.std.proofs.lemmas.Bool.{false≢true}
use Rattle.std.proofs.lemmas.List.{length-append, length-map}
use Rattle.node_names.specs.NodeName.{Name}
use Rattle.node_names.specs.declared.ids.Origin.{Origin}
use Rattle.protocol.specs.Lists.{IsOneOf, places}
use Rattle.protocol.proofs.Segments.{get_left, get_right}
use Rattle.world.specs.Group.{Group, packets}
use Rattle.world.specs.declared.node_state.NodeState.{NodeState}
use Rattle.world.specs.declared.packet.Packet.{Packet}
use Rattle.frames.specs.Frame.{Frame}
use Rattle.run_check.specs.Accepting.{AreKept, AreNumbered}
use Rattle.run_check.specs.Following.{Loses, Posts, last_of}
use Rattle.run_check.specs.FrameIds.{id_of, same_frame_id, same_frame_id-Decides}
use Rattle.run_check.specs.declared.frame_id.FrameId.{FrameId}
use Rattle.run_check.proofs.Flights.{place_of, still}

-- ---- lists of numbers

-- No number stands twice in the list.
abbrev pub Distinct : List ℕ → Type 0
Distinct [] = Unit {0}
Distinct (n ∷ ns) = (IsOneOf n ns → ⊥) × Distinct ns

-- what stands at a place is one of the list
found_one : {X : Type 0} (xs : List X) (k : ℕ) (x : X) → slice_get xs k ≡ Some x → IsOneOf x xs
found_one [] k x e = let no : None ≡ Some x = e in absurd cc
found_one (y ∷ ys) zero x e = let is : Some y ≡ Some x = e in let same : x ≡ y = cc in inl same
found_one (y ∷ ys) (suc k) x e = inr (found_one ys k x e)

-- one of two lists
one-either : {X : Type 0} (xs ys : List X) (x : X) → IsOneOf x (xs ++ ys) → IsOneOf x xs ⊎ IsOneOf x ys
one-either [] ys x one = inr one
one-either (y ∷ xs) ys x one =
    elim one [ inl here ↦ inl (inl here) | inr later ↦ elim (one-either xs ys x later) [ inl left ↦ inl (inr left) | inr right ↦ inr right ] ]

-- what is left was there
removed_from : (ns : List ℕ) (k n : ℕ) → IsOneOf n (remove ns k) → IsOneOf n ns
removed_from [] zero n one = absurd one
removed_from [] (suc k) n one = absurd one
removed_from (m ∷ ns) zero n one = inr one
removed_from (m ∷ ns) (suc k) n one = elim one [ inl here ↦ inl here | inr later ↦ inr (removed_from ns k n later) ]

removed_distinct : (ns : List ℕ) (k : ℕ) → Distinct ns → Distinct (remove ns k)
removed_distinct [] zero d = tt
removed_distinct [] (suc k) d = tt
removed_distinct (n ∷ ns) zero d = d.1
removed_distinct (n ∷ ns) (suc k) d = (λ one. d.0 (removed_from ns k n one), removed_distinct ns k d.1)

-- what is left is not what went
removed_apart : (ns : List ℕ) (k gone n : ℕ) → Distinct ns → slice_get ns k ≡ Some gone → IsOneOf n (remove ns k) → n ≡ gone → ⊥
removed_apart [] zero gone n d at one same = absurd one
removed_apart [] (suc k) gone n d at one same = absurd one
removed_apart (m ∷ ns) zero gone n d at one same =
    let is : Some m ≡ Some gone = at in
    let its : n ≡ m = cc in
    d.0 (subst (λ x. IsOneOf x ns) its one)
removed_apart (m ∷ ns) (suc k) gone n d at one same =
    elim one [
      | inl here ↦ (let its : gone ≡ m = cc in d.0 (subst (λ x. IsOneOf x ns) its (found_one ns k gone at)))
      | inr later ↦ removed_apart ns k gone n d.1 at later same
    ]

-- consecutive numbers
places_within : (from count n : ℕ) → IsOneOf n (places from count) → (from ≤ n) × (n < from + count)
places_within from zero n one = absurd one
places_within from (suc count) n one =
    elim one [
      | inl here ↦ (omega arith, omega arith)
      | inr later ↦ (let within = places_within (suc from) count n later in (omega (arith, within.0), omega (arith, within.1)))
    ]

places_distinct : (from count : ℕ) → Distinct (places from count)
places_distinct from zero = tt
places_distinct from (suc count) =
    (λ one. let within = places_within (suc from) count from one in absurd (omega (arith, within.0)), places_distinct (suc from) count)

-- numbers below others, and these
joined_distinct : (ns : List ℕ) (from count : ℕ) → Distinct ns → ((n : ℕ) → IsOneOf n ns → n < from) → Distinct (ns ++ places from count)
joined_distinct [] from count d below = places_distinct from count
joined_distinct (m ∷ ns) from count d below = (
  λ one. elim (one-either ns (places from count) m one) [
    | inl left ↦ d.0 left
    | inr right ↦ absurd (omega (arith, (places_within from count m right).0, below m (inl refl)))
  ],
  joined_distinct ns from count d.1 (λ n one. below n (inr one)),
)

-- ---- packets

-- the packet that is found under its id, where no other has it
last_is : (packet : Packet Frame) (before : Option (Packet Frame)) (more : List (Packet Frame)) →
    ((other : Packet Frame) → IsOneOf other more → id_of other ≡ id_of packet → other ≡ packet) →
    (before ≡ Some packet) ⊎ IsOneOf packet more →
    last_of (id_of packet) before more ≡ Some packet
last_is packet before [] alone found = elim found [ inl there ↦ there | inr one ↦ absurd one ]
last_is packet before (put ∷ more) alone found =
    last_is packet (if same_frame_id (id_of put) (id_of packet) then Some put else before) more (λ other one. alone other (inr one))
    (go (same_frame_id (id_of put) (id_of packet)) refl)
  where
    go : (b : Bool) → same_frame_id (id_of put) (id_of packet) ≡ b → ((if b then Some put else before) ≡ Some packet) ⊎ IsOneOf packet more
    go true same =
        inl (ap (λ (p : Packet Frame). Some p) (alone put (inl refl) ((same_frame_id-Decides (id_of put) (id_of packet)).0 same)))
    go false apart =
        elim found [
          | inl there ↦ inl there
          | inr one ↦ elim one [
            | inl here ↦ absurd (false≢true (sym apart ∙ (same_frame_id-Decides (id_of put) (id_of packet)).1 (ap id_of (sym here))))
            | inr later ↦ inr later
          ]
        ]

-- packets that were sent earlier have frame ids of their own, too
numbered_before : (sent more : List (Packet Frame)) → AreNumbered (sent ++ more) → AreNumbered sent
numbered_before sent more numbered i j one other at there = numbered i j one other (still sent more i one at) (still sent more j other there)

-- ---- groups

-- What is in flight in the group stands there once and was sent. It is kept, if no two packets have one frame id.
pub record IsAloft {C : Type 0} (group : Group C Frame) (kept : List (FrameId × Packet Frame)) : Type 0 where
  pub distinct : Distinct group.flight
  pub within : (number : ℕ) → IsOneOf number group.flight → number < length group.sent
  pub all : AreNumbered group.sent → AreKept group kept

-- The same of these numbers alone.
pub record Remain {C : Type 0} (group : Group C Frame) (kept : List (FrameId × Packet Frame)) (staying : List ℕ) : Type 0 where
  pub distinct : Distinct staying
  pub within : (number : ℕ) → IsOneOf number staying → number < length group.sent
  pub all : AreNumbered group.sent → (number : ℕ) (packet : Packet Frame) →
      IsOneOf number staying →
      slice_get group.sent number ≡ Some packet →
      lookup (same_frame_id (id_of packet)) kept ≡ Some packet

-- where no packet arrives, all remain
pub none_goes : {C : Type 0} (group : Group C Frame) (old left : List (FrameId × Packet Frame)) →
    IsAloft group old →
    left ≡ old →
    Remain group left group.flight
none_goes {C} group old left aloft is =
    subst (λ (k : List (FrameId × Packet Frame)). Remain group k group.flight) (sym is)
    (record { distinct = aloft.distinct; within = aloft.within; all = aloft.all })

-- where one arrives, the others remain
pub one_goes : {C : Type 0} (group : Group C Frame) (old left : List (FrameId × Packet Frame)) (gone : Packet Frame) (number place : ℕ) →
    IsAloft group old →
    Loses old (Some (id_of gone)) left →
    slice_get group.flight place ≡ Some number →
    slice_get group.sent number ≡ Some gone →
    Remain group left (remove group.flight place)
one_goes {C} group old left gone number place aloft loses in_flight sent =
    record {
      distinct = removed_distinct group.flight place aloft.distinct;
      within = λ n one. aloft.within n (removed_from group.flight place n one);
      all = λ numbered n packet one at.
          go n packet numbered (removed_apart group.flight place number n aloft.distinct in_flight one) at
          (aloft.all numbered n packet (removed_from group.flight place n one) at) (same_frame_id (id_of gone) (id_of packet)) refl;
    }
  where
    go : (n : ℕ) (packet : Packet Frame) →
        AreNumbered group.sent →
        (n ≡ number → ⊥) →
        slice_get group.sent n ≡ Some packet →
        lookup (same_frame_id (id_of packet)) old ≡ Some packet →
        (b : Bool) →
        same_frame_id (id_of gone) (id_of packet) ≡ b →
        lookup (same_frame_id (id_of packet)) left ≡ Some packet
    go n packet numbered apart at before true same =
        absurd (apart (numbered n number packet gone at sent (sym ((same_frame_id-Decides (id_of gone) (id_of packet)).0 same))))
    go n packet numbered apart at before false differs =
        loses (id_of packet) ∙ ap (λ b. if b then None else lookup (same_frame_id (id_of packet)) old) differs ∙ before

-- what remains, and what is sent, is aloft afterwards
pub aloft_after :
    {C : Type 0} (group : Group C Frame) (nodes : List (NodeState C)) (left new : List (FrameId × Packet Frame))
    (staying : List ℕ) (sender : Origin) (sends : List (Name × Frame)) →
    Remain group left staying →
    Posts left (packets sender sends) new →
    IsAloft {C = C} (record { nodes = nodes; sent = group.sent ++ packets sender sends; flight = staying ++ places (length group.sent) (length sends) }) new
aloft_after {C} group nodes left new staying sender sends remain posts =
    record {
      distinct = joined_distinct staying (length group.sent) (length sends) remain.distinct remain.within;
      within = λ n one. inside n (one-either staying (places (length group.sent) (length sends)) n one);
      all = λ numbered n packet one at.
          posts (id_of packet)
          ∙ last_is packet (lookup (same_frame_id (id_of packet)) left) (packets sender sends) (λ other is same. only numbered n packet at other is same)
          (found numbered n packet at (one-either staying (places (length group.sent) (length sends)) n one));
    }
  where
    count : length (packets sender sends) ≡ length sends
    count = length-map sends (λ (send : Name × Frame). record { sender = sender; to = send.0; note = send.1 })

    inside : (n : ℕ) → IsOneOf n staying ⊎ IsOneOf n (places (length group.sent) (length sends)) → n < length (group.sent ++ packets sender sends)
    inside n either =
        elim either [
          | inl stay ↦ omega (arith, remain.within n stay, length-append group.sent (packets sender sends))
          | inr fresh ↦ omega (arith, (places_within (length group.sent) (length sends) n fresh).1, length-append group.sent (packets sender sends), count)
        ]

    only : AreNumbered (group.sent ++ packets sender sends) →
        (n : ℕ) (packet : Packet Frame) →
        slice_get (group.sent ++ packets sender sends) n ≡ Some packet →
        (other : Packet Frame) →
        IsOneOf other (packets sender sends) →
        id_of other ≡ id_of packet →
        other ≡ packet
    only numbered n packet at other is same =
        let place : (k : ℕ) × (slice_get (packets sender sends) k ≡ Some other) = place_of (packets sender sends) other is in
        let there : slice_get (group.sent ++ packets sender sends) (length group.sent + place.0) ≡ Some other =
        get_right group.sent (packets sender sends) place.0 ∙ place.1 in
        let number : length group.sent + place.0 ≡ n = numbered (length group.sent + place.0) n other packet there at same in
        let both : Some other ≡ Some packet = sym there ∙ ap (λ k. slice_get (group.sent ++ packets sender sends) k) number ∙ at in
        cc

    found : AreNumbered (group.sent ++ packets sender sends) →
        (n : ℕ) (packet : Packet Frame) →
        slice_get (group.sent ++ packets sender sends) n ≡ Some packet →
        IsOneOf n staying ⊎ IsOneOf n (places (length group.sent) (length sends)) →
        (lookup (same_frame_id (id_of packet)) left ≡ Some packet) ⊎ IsOneOf packet (packets sender sends)
    found numbered n packet at either =
        elim either [
          | inl stay ↦ inl (
              remain.all (numbered_before group.sent (packets sender sends) numbered) n packet stay
              (sym (get_left group.sent (packets sender sends) n (remain.within n stay)) ∙ at)
              )
          | inr fresh ↦ inr (later n packet at (places_within (length group.sent) (length sends) n fresh).0)
        ]
      where
        later : (n : ℕ) (packet : Packet Frame) →
            slice_get (group.sent ++ packets sender sends) n ≡ Some packet →
            length group.sent ≤ n →
            IsOneOf packet (packets sender sends)
        later n packet at le =
            let split : length group.sent + (n - length group.sent) ≡ n = omega arith in
            found_one (packets sender sends) (n - length group.sent) packet (
            sym (get_right group.sent (packets sender sends) (n - length group.sent))
            ∙ ap (λ k. slice_get (group.sent ++ packets sender sends) k) split
            ∙ at
            )
