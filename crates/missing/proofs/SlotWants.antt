-- The slots of announcements, and the map of their places.
use Rattle.std.proofs.Common.{◌≡◌, ◌∙◌, ◌&&◌, ◌||◌, ◌+◌, ◌<◌, ◌≤◌, ℕ, zero, suc, Bool, true, false, not, cond, List, []}
use Rattle.std.proofs.Common.{◌∷◌, ◌++◌, Option, None, Some, filter, map, length, take, get_or, sym, ap, refl, arith}
use Rattle.std.specs.Prelude.{set, slice_get, is_some, if◌then◌else◌}
use Rattle.std.specs.List.{AllByRecursion as Each, IsDistinct}
use Rattle.std.proofs.lemmas.Bool.{false≢true, true≢false}
use Rattle.std.proofs.lemmas.List.{append-nil, take_more}
use Rattle.std.proofs.lemmas.List.Folds.{list_any-append}
use Rattle.std.proofs.lemmas.Map.Keys.{IsDistinct-head, IsDistinct-tail}
use Rattle.std.proofs.lemmas.Option.{slice_get-get_or}
use Rattle.node_names.specs.NodeName.{Name}
use Rattle.node_names.specs.Same.{same_name, same_name-Decides, same_id, same_id-Decides, has_id, has_name}
use Rattle.node_names.specs.Slots.{somes}
use Rattle.node_names.specs.declared.ids.MsgId.{MsgId}
use Rattle.node_names.proofs.Distinct.{each-filter, each-weaker}
use Rattle.missing.specs.Slots.{later, place, earlier, lower, has_place, is_of, is_by, is_any_by, AreArmed, AreBy}
use Rattle.missing.specs.Wants.{place_of, same_place, is_wanted, with_slot, with_want, first_want, without_first}
use Rattle.missing.specs.Wants.{without_id, without_peer, without_peers, without_place, without_slot}
use Rattle.missing.proofs.PlaceLemmas.{filter-both, filter-nothing, with_want-new, with_want-old}
use Rattle.missing.proofs.SlotLemmas.{any-place, filter-unplaced, later-None, none_before, placed-push}
use Rattle.missing.proofs.SlotLemmas.{placed-taken_out, some_same, somes-append, somes-taken_out}
use Rattle.missing.proofs.SoundLemmas.{once-filter, same_place-Decides}

-- ---- one announcement

module _ (slots : List (Option (MsgId × Name × ℕ))) (id : MsgId) (peer : Name) where
  pub wanted-place : is_wanted id peer (somes slots) ≡ is_some (place (has_place (id, peer)) slots)
  wanted-place = any-place same_place same_place-Decides place_of (id, peer) slots

  pub put-old : (round : ℕ) → is_wanted id peer (somes slots) ≡ true → somes slots ≡ with_want id peer round (somes slots)
  put-old round is = sym (with_want-old id peer round (somes slots) is)

  pub put-new : (round : ℕ) → is_wanted id peer (somes slots) ≡ false → somes (slots ++ Some (id, peer, round) ∷ []) ≡ with_want id peer round (somes slots)
  put-new round is = somes-append slots (Some (id, peer, round) ∷ []) ∙ sym (with_want-new id peer round (somes slots) is)

  pub removed : (n : ℕ) →
      IsDistinct same_place (map place_of (somes slots)) →
      place (has_place (id, peer)) slots ≡ Some n →
      somes (set slots n None) ≡ without_place (id, peer) (somes slots)
  removed n once is = somes-taken_out same_place same_place-Decides place_of (id, peer) slots n once is

  pub not_there : place (has_place (id, peer)) slots ≡ None → without_place (id, peer) (somes slots) ≡ somes slots
  not_there none = filter-unplaced same_place same_place-Decides place_of (id, peer) slots none

module _ (slots : List (Option (MsgId × Name × ℕ))) (old new : MsgId × Name → Option ℕ) (are : (k : MsgId × Name) → old k ≡ place (has_place k) slots) where
  pub put-placed : (entry : MsgId × Name × ℕ) →
      old (place_of entry) ≡ None →
      ((k : MsgId × Name) → new k ≡ cond (same_place (place_of entry) k) (Some (length slots)) (old k)) →
      (k : MsgId × Name) →
      new k ≡ place (has_place k) (slots ++ Some entry ∷ [])
  put-placed entry none updates = placed-push same_place same_place-Decides place_of slots old new are entry none updates

  pub removed-placed : (gone : MsgId × Name) (n : ℕ) →
      IsDistinct same_place (map place_of (somes slots)) →
      old gone ≡ Some n →
      ((k : MsgId × Name) → new k ≡ cond (same_place gone k) None (old k)) →
      (k : MsgId × Name) →
      new k ≡ place (has_place k) (set slots n None)
  removed-placed gone n once is updates = placed-taken_out same_place same_place-Decides place_of slots old new are gone n once is updates

-- ---- tests

turned : (a b : Name) → same_name a b ≡ same_name b a
turned a b = go (same_name a b) refl (same_name b a) refl
  where
    go : (x : Bool) → same_name a b ≡ x → (y : Bool) → same_name b a ≡ y → same_name a b ≡ same_name b a
    go true p true q = p ∙ sym q
    go false p false q = p ∙ sym q
    go true p false q = absurd (false≢true (sym q ∙ ap (same_name b) ((same_name-Decides a b).0 p) ∙ (same_name-Decides b b).1 refl))
    go false p true q = absurd (false≢true (sym p ∙ ap (same_name a) ((same_name-Decides b a).0 q) ∙ (same_name-Decides a a).1 refl))

split : (a b c : Bool) → ((a || (b || false)) && c) ≡ ((a && c) || (c && b))
split true b true = refl
split true b false = refl
split false true true = refl
split false true false = refl
split false false true = refl
split false false false = refl

-- one more peer
is_by-push : (id : MsgId) (peers : List Name) (peer : Name) (slot : Option (MsgId × Name × ℕ)) →
    is_by id (peers ++ peer ∷ []) slot ≡ (is_by id peers slot || has_place (id, peer) slot)
is_by-push id peers peer None = refl
is_by-push id peers peer (Some entry) =
    ap (λ b. b && same_id id entry.0) (list_any-append (same_name entry.1) peers (peer ∷ []))
    ∙ split (has_name peers entry.1) (same_name entry.1 peer) (same_id id entry.0)
    ∙ ap (λ b. (has_name peers entry.1 && same_id id entry.0) || (same_id id entry.0 && b)) (turned entry.1 peer)

-- ---- first places

pub lower-lt : (m n : ℕ) → m < n → m ≡ lower m n
lower-lt zero n lt = refl
lower-lt (suc m) zero lt = absurd (omega arith)
lower-lt (suc m) (suc n) lt = ap suc (lower-lt m n (omega arith))

pub lower-le : (m n : ℕ) → n ≤ m → n ≡ lower m n
lower-le zero zero le = refl
lower-le zero (suc n) le = absurd (omega arith)
lower-le (suc m) zero le = refl
lower-le (suc m) (suc n) le = ap suc (lower-le m n (omega arith))

module _ {X : Type 0} (p q : X → Bool) where
  place-same : (xs : List X) → ((x : X) → p x ≡ q x) → place p xs ≡ place q xs
  place-same [] same = refl
  place-same (x ∷ xs) same = (λ i. cond (same x i) (Some zero) (later (place-same xs same i)))

  later-earlier : (a b : Option ℕ) → later (earlier a b) ≡ earlier (later a) (later b)
  later-earlier None b = refl
  later-earlier (Some m) None = refl
  later-earlier (Some m) (Some n) = refl

  earlier-zero : (b : Option ℕ) → earlier (Some zero) (later b) ≡ Some zero
  earlier-zero None = refl
  earlier-zero (Some n) = refl

  place-or : (xs : List X) → place (λ x. p x || q x) xs ≡ earlier (place p xs) (place q xs)
  place-or [] = refl
  place-or (x ∷ xs) = go (p x) (q x) (place-or xs)
    where
      go : (a b : Bool) →
          place (λ y. p y || q y) xs ≡ earlier (place p xs) (place q xs) →
          cond (a || b) (Some zero) (later (place (λ y. p y || q y) xs))
          ≡ earlier (cond a (Some zero) (later (place p xs))) (cond b (Some zero) (later (place q xs)))
      go true true rest = refl
      go true false rest = sym (earlier-zero (place q xs))
      go false true rest = other (place p xs)
        where
          other : (a : Option ℕ) → ◌≡◌ {A = Option ℕ} (Some zero) (earlier (later a) (Some zero))
          other None = refl
          other (Some m) = refl
      go false false rest = ap later rest ∙ later-earlier (place p xs) (place q xs)

-- among no peers there is none
pub by_none : (id : MsgId) (slots : List (Option (MsgId × Name × ℕ))) → place (is_by id []) slots ≡ None
by_none id [] = refl
by_none id (None ∷ slots) = ap later (by_none id slots)
by_none id (Some entry ∷ slots) = ap later (by_none id slots)

-- among one more
pub by_more : (id : MsgId) (peers : List Name) (i : ℕ) (d : Name) (slots : List (Option (MsgId × Name × ℕ))) →
    i < length peers →
    earlier (place (is_by id (take i peers)) slots) (place (has_place (id, get_or peers i d)) slots) ≡ place (is_by id (take (i + 1) peers)) slots
by_more id peers i d slots within =
    sym (place-or (is_by id (take i peers)) (has_place (id, get_or peers i d)) slots)
    ∙ sym (place-same (is_by id (take i peers ++ get_or peers i d ∷ []))
    (λ slot. is_by id (take i peers) slot || has_place (id, get_or peers i d) slot) slots (is_by-push id (take i peers) (get_or peers i d)))
    ∙ ap (λ names. place (is_by id names) slots) (sym (take_more peers i d within))

-- among all
pub by_all : (id : MsgId) (peers : List Name) (slots : List (Option (MsgId × Name × ℕ))) →
    AreBy peers (somes slots) →
    place (is_by id peers) slots ≡ place (is_of id) slots
by_all id peers [] by = refl
by_all id peers (None ∷ slots) by = ap later (by_all id peers slots by)
by_all id peers (Some entry ∷ slots) by = (λ i. cond (by.0 i && same_id id entry.0) (Some zero) (later (by_all id peers slots by.1 i)))

-- ---- the first announcement of an id

-- the peer and the round of what is in a slot
abbrev pub want_of : Option (Option (MsgId × Name × ℕ)) → Option (Name × ℕ)
want_of None = None
want_of (Some None) = None
want_of (Some (Some entry)) = Some (entry.1, entry.2)

module _ (id : MsgId) where
  pub first_want-at : (slots : List (Option (MsgId × Name × ℕ))) (n : ℕ) →
      place (is_of id) slots ≡ Some n →
      first_want id (somes slots) ≡ want_of (slice_get slots n)
  first_want-at [] n is = absurd (false≢true (ap is_some is))
  first_want-at (None ∷ slots) n is = by (place (is_of id) slots) refl is (λ m h. first_want-at slots m h)
    where
      by : (r : Option ℕ) →
          place (is_of id) slots ≡ r →
          later r ≡ Some n →
          ((m : ℕ) → place (is_of id) slots ≡ Some m → first_want id (somes slots) ≡ want_of (slice_get slots m)) →
          first_want id (somes slots) ≡ want_of (slice_get (None ∷ slots) n)
      by None at h rest = absurd (false≢true (ap is_some h))
      by (Some m) at h rest = rest m at ∙ ap (λ i. want_of (slice_get (None ∷ slots) i)) (some_same (suc m) n h)
  first_want-at (Some entry ∷ slots) n is = go (same_id id entry.0) is (λ m h. first_want-at slots m h)
    where
      by : (r : Option ℕ) →
          place (is_of id) slots ≡ r →
          later r ≡ Some n →
          ((m : ℕ) → place (is_of id) slots ≡ Some m → first_want id (somes slots) ≡ want_of (slice_get slots m)) →
          first_want id (somes slots) ≡ want_of (slice_get (Some entry ∷ slots) n)
      by None at h rest = absurd (false≢true (ap is_some h))
      by (Some m) at h rest = rest m at ∙ ap (λ i. want_of (slice_get (Some entry ∷ slots) i)) (some_same (suc m) n h)

      go : (b : Bool) →
          cond b (Some zero) (later (place (is_of id) slots)) ≡ Some n →
          ((m : ℕ) → place (is_of id) slots ≡ Some m → first_want id (somes slots) ≡ want_of (slice_get slots m)) →
          (if b then Some (entry.1, entry.2) else first_want id (somes slots)) ≡ want_of (slice_get (Some entry ∷ slots) n)
      go true h rest = ap (λ i. want_of (slice_get (Some entry ∷ slots) i)) (some_same 0 n h)
      go false h rest = by (place (is_of id) slots) refl h rest

  pub first_want-lacks : (slots : List (Option (MsgId × Name × ℕ))) → place (is_of id) slots ≡ None → first_want id (somes slots) ≡ None
  first_want-lacks [] none = refl
  first_want-lacks (None ∷ slots) none = first_want-lacks slots (later-None (place (is_of id) slots) none)
  first_want-lacks (Some entry ∷ slots) none = go (same_id id entry.0) none (λ h. first_want-lacks slots h)
    where
      go : (b : Bool) →
          cond b (Some zero) (later (place (is_of id) slots)) ≡ None →
          (place (is_of id) slots ≡ None → first_want id (somes slots) ≡ None) →
          (if b then Some (entry.1, entry.2) else first_want id (somes slots)) ≡ None
      go true h rest = absurd (true≢false (ap is_some h))
      go false h rest = rest (later-None (place (is_of id) slots) h)

  -- without a first one there is none to take out
  pub without_first-lacks : (wants : List (MsgId × Name × ℕ)) → first_want id wants ≡ None → wants ≡ without_first id wants
  without_first-lacks [] none = refl
  without_first-lacks (entry ∷ wants) none = go (same_id id entry.0) none (λ h. without_first-lacks wants h)
    where
      go : (b : Bool) →
          (if b then Some (entry.1, entry.2) else first_want id wants) ≡ None →
          (first_want id wants ≡ None → wants ≡ without_first id wants) →
          entry ∷ wants ≡ (if b then wants else entry ∷ without_first id wants)
      go true h rest = absurd (true≢false (ap is_some h))
      go false h rest = ap (λ ws. entry ∷ ws) (rest h)

  -- the one at the first one's place is the first one
  others : (at : MsgId × Name) (wants : List (MsgId × Name × ℕ)) →
      Each (λ other. same_place at other ≡ false) (map place_of wants) →
      without_place at wants ≡ wants
  others at [] apart = refl
  others at (entry ∷ wants) apart =
      ap (λ b. cond (not b) (entry ∷ without_place at wants) (without_place at wants)) apart.0 ∙ ap (λ ws. entry ∷ ws) (others at wants apart.1)

  pub without_first-place : (wants : List (MsgId × Name × ℕ)) (peer : Name) (round : ℕ) →
      IsDistinct same_place (map place_of wants) →
      first_want id wants ≡ Some (peer, round) →
      without_place (id, peer) wants ≡ without_first id wants
  without_first-place [] peer round once is = refl
  without_first-place (entry ∷ wants) peer round once is =
      go (same_id id entry.0) refl is (λ h. without_first-place wants peer round (IsDistinct-tail same_place (place_of entry) (map place_of wants) once) h)
    where
      peer_of : Option (Name × ℕ) → Name
      peer_of None = peer
      peer_of (Some want) = want.0

      go : (b : Bool) →
          same_id id entry.0 ≡ b →
          (if b then Some (entry.1, entry.2) else first_want id wants) ≡ Some (peer, round) →
          (first_want id wants ≡ Some (peer, round) → without_place (id, peer) wants ≡ without_first id wants) →
          without_place (id, peer) (entry ∷ wants) ≡ (if b then wants else entry ∷ without_first id wants)
      go true same h rest =
          ap (λ b. cond (not b) (entry ∷ without_place (id, peer) wants) (without_place (id, peer) wants))
          (ap (λ b. b && same_name peer entry.1) same ∙ (same_name-Decides peer entry.1).1 (sym (ap peer_of h)))
          ∙ ap (λ at. without_place at wants) (λ i. ((same_id-Decides id entry.0).0 same i, sym (ap peer_of h) i))
          ∙ others (place_of entry) wants (IsDistinct-head same_place (place_of entry) (map place_of wants) once)
      go false apart h rest =
          ap (λ b. cond (not (b && same_name peer entry.1)) (entry ∷ without_place (id, peer) wants) (without_place (id, peer) wants)) apart
          ∙ ap (λ ws. entry ∷ ws) (rest h)

-- ---- the announcements of an id, and those by a peer

filter-same : {X : Type 0} (f h : X → Bool) (xs : List X) → ((x : X) → f x ≡ h x) → filter (λ x. not (f x)) xs ≡ filter (λ x. not (h x)) xs
filter-same f h [] same = refl
filter-same f h (x ∷ xs) same = (λ i. cond (not (same x i)) (x ∷ filter-same f h xs same i) (filter-same f h xs same i))

pub id_none : (id : MsgId) (wants : List (MsgId × Name × ℕ)) → wants ≡ filter (λ entry. not (is_by id [] (Some entry))) wants
id_none id wants = sym (filter-nothing wants)

pub id_more : (id : MsgId) (peers : List Name) (i : ℕ) (d : Name) (wants : List (MsgId × Name × ℕ)) →
    i < length peers →
    without_place (id, get_or peers i d) (filter (λ entry. not (is_by id (take i peers) (Some entry))) wants)
    ≡ filter (λ entry. not (is_by id (take (i + 1) peers) (Some entry))) wants
id_more id peers i d wants within =
    sym (filter-both (λ entry. is_by id (take i peers) (Some entry)) (λ entry. same_place (id, get_or peers i d) (place_of entry)) wants)
    ∙ sym (filter-same (λ entry. is_by id (take i peers ++ get_or peers i d ∷ []) (Some entry))
    (λ entry. is_by id (take i peers) (Some entry) || has_place (id, get_or peers i d) (Some entry))
    wants
    (λ entry. is_by-push id (take i peers) (get_or peers i d) (Some entry)))
    ∙ ap (λ names. filter (λ entry. not (is_by id names (Some entry))) wants) (sym (take_more peers i d within))

pub id_all : (id : MsgId) (peers : List Name) (wants : List (MsgId × Name × ℕ)) →
    AreBy peers wants →
    filter (λ entry. not (is_by id peers (Some entry))) wants ≡ without_id id wants
id_all id peers [] by = refl
id_all id peers (entry ∷ wants) by = (λ i. cond (not (by.0 i && same_id id entry.0)) (entry ∷ id_all id peers wants by.1 i) (id_all id peers wants by.1 i))

is_any_by-push : (ids : List MsgId) (id : MsgId) (peer : Name) (entry : MsgId × Name × ℕ) →
    is_any_by (ids ++ id ∷ []) peer (Some entry) ≡ (is_any_by ids peer (Some entry) || same_place (id, peer) (place_of entry))
is_any_by-push ids id peer entry =
    ap (λ b. b && same_name peer entry.1) (list_any-append (same_id entry.0) ids (id ∷ []))
    ∙ split (has_id ids entry.0) (same_id entry.0 id) (same_name peer entry.1)
    ∙ ap (λ b. (has_id ids entry.0 && same_name peer entry.1) || b)
    (swapped (same_name peer entry.1) (same_id entry.0 id) ∙ ap (λ b. b && same_name peer entry.1) (turned_ids entry.0 id))
  where
    swapped : (a b : Bool) → (a && b) ≡ (b && a)
    swapped true true = refl
    swapped true false = refl
    swapped false true = refl
    swapped false false = refl

    turned_ids : (a b : MsgId) → same_id a b ≡ same_id b a
    turned_ids a b = go (same_id a b) refl (same_id b a) refl
      where
        go : (x : Bool) → same_id a b ≡ x → (y : Bool) → same_id b a ≡ y → same_id a b ≡ same_id b a
        go true p true q = p ∙ sym q
        go false p false q = p ∙ sym q
        go true p false q = absurd (false≢true (sym q ∙ ap (same_id b) ((same_id-Decides a b).0 p) ∙ (same_id-Decides b b).1 refl))
        go false p true q = absurd (false≢true (sym p ∙ ap (same_id a) ((same_id-Decides b a).0 q) ∙ (same_id-Decides a a).1 refl))

pub peer_none : (peer : Name) (wants : List (MsgId × Name × ℕ)) → wants ≡ filter (λ entry. not (is_any_by [] peer (Some entry))) wants
peer_none peer wants = sym (filter-nothing wants)

pub peer_more : (ids : List MsgId) (id : MsgId) (peer : Name) (wants : List (MsgId × Name × ℕ)) →
    without_place (id, peer) (filter (λ entry. not (is_any_by ids peer (Some entry))) wants)
    ≡ filter (λ entry. not (is_any_by (ids ++ id ∷ []) peer (Some entry))) wants
peer_more ids id peer wants =
    sym (filter-both (λ entry. is_any_by ids peer (Some entry)) (λ entry. same_place (id, peer) (place_of entry)) wants)
    ∙ sym (filter-same (λ entry. is_any_by (ids ++ id ∷ []) peer (Some entry))
    (λ entry. is_any_by ids peer (Some entry) || same_place (id, peer) (place_of entry)) wants (is_any_by-push ids id peer))

pub slot_more : (ids : List (Option MsgId)) (i : ℕ) (d : Option MsgId) (peer : Name) (wants : List (MsgId × Name × ℕ)) →
    i < length ids →
    without_slot (get_or ids i d) peer (filter (λ entry. not (is_any_by (somes (take i ids)) peer (Some entry))) wants)
    ≡ filter (λ entry. not (is_any_by (somes (take (i + 1) ids)) peer (Some entry))) wants
slot_more ids i d peer wants within =
    go (get_or ids i d) ∙ ap (λ slots. filter (λ entry. not (is_any_by (somes slots) peer (Some entry))) wants) (sym (take_more ids i d within))
  where
    go : (slot : Option MsgId) →
        without_slot slot peer (filter (λ entry. not (is_any_by (somes (take i ids)) peer (Some entry))) wants)
        ≡ filter (λ entry. not (is_any_by (somes (take i ids ++ slot ∷ [])) peer (Some entry))) wants
    go None =
        ap (λ those. filter (λ entry. not (is_any_by those peer (Some entry))) wants)
        (sym (somes-append (take i ids) (None ∷ []) ∙ append-nil (somes (take i ids))))
    go (Some id) =
        peer_more (somes (take i ids)) id peer wants
        ∙ ap (λ those. filter (λ entry. not (is_any_by those peer (Some entry))) wants) (sym (somes-append (take i ids) (Some id ∷ [])))

pub once-without_slot : (slot : Option MsgId) (peer : Name) (wants : List (MsgId × Name × ℕ)) →
    IsDistinct same_place (map place_of wants) →
    IsDistinct same_place (map place_of (without_slot slot peer wants))
once-without_slot None peer wants once = once
once-without_slot (Some id) peer wants once = once-filter (λ entry. not (same_place (id, peer) (place_of entry))) wants once

pub peer_all : (ids : List MsgId) (peer : Name) (wants : List (MsgId × Name × ℕ)) →
    AreArmed ids wants →
    filter (λ entry. not (is_any_by ids peer (Some entry))) wants ≡ without_peer peer wants
peer_all ids peer [] armed = refl
peer_all ids peer (entry ∷ wants) armed =
    (λ i. cond (not (armed.0 i && same_name peer entry.1)) (entry ∷ peer_all ids peer wants armed.1 i) (peer_all ids peer wants armed.1 i))

-- ---- the peers that announced

module _ (old new : List Name) (peer : Name) where
  grown : ((q : Name) → has_name new q ≡ cond (same_name peer q) true (has_name old q)) → (q : Name) → has_name old q ≡ true → has_name new q ≡ true
  grown updates q is = updates q ∙ go (same_name peer q)
    where
      go : (b : Bool) → cond b true (has_name old q) ≡ true
      go true = refl
      go false = is

  -- one more peer
  pub by-grown : (wants : List (MsgId × Name × ℕ)) →
      ((q : Name) → has_name new q ≡ cond (same_name peer q) true (has_name old q)) →
      AreBy old wants →
      AreBy new wants
  by-grown wants updates by =
      each-weaker (λ entry. has_name old entry.1 ≡ true) (λ entry. has_name new entry.1 ≡ true) (λ entry. grown updates entry.1) wants by

  -- without the peer, where it has no announcement
  pub by-shrunk : (wants : List (MsgId × Name × ℕ)) →
      ((q : Name) → has_name new q ≡ cond (same_name peer q) false (has_name old q)) →
      AreBy old wants →
      AreBy new (without_peer peer wants)
  by-shrunk wants updates by =
      each-filter (λ entry. has_name old entry.1 ≡ true) (λ entry. has_name new entry.1 ≡ true) (λ entry. not (same_name peer entry.1))
      (λ entry is passes. updates entry.1 ∙ go (same_name peer entry.1) (has_name old entry.1) is passes) wants by
    where
      go : (b x : Bool) → x ≡ true → not b ≡ true → cond b false x ≡ true
      go true x is passes = absurd (false≢true passes)
      go false x is passes = is

pub by-filter : (peers : List Name) (test : MsgId × Name × ℕ → Bool) (wants : List (MsgId × Name × ℕ)) → AreBy peers wants → AreBy peers (filter test wants)
by-filter peers test wants by =
    each-filter (λ entry. has_name peers entry.1 ≡ true) (λ entry. has_name peers entry.1 ≡ true) test (λ entry is passes. is) wants by

pub armed-filter : (ids : List MsgId) (test : MsgId × Name × ℕ → Bool) (wants : List (MsgId × Name × ℕ)) → AreArmed ids wants → AreArmed ids (filter test wants)
armed-filter ids test wants armed =
    each-filter (λ entry. has_id ids entry.0 ≡ true) (λ entry. has_id ids entry.0 ≡ true) test (λ entry is passes. is) wants armed

without_peers-push : (peers : List Name) (peer : Name) (wants : List (MsgId × Name × ℕ)) →
    without_peers (peers ++ peer ∷ []) wants ≡ without_peer peer (without_peers peers wants)
without_peers-push [] peer wants = refl
without_peers-push (first ∷ peers) peer wants = without_peers-push peers peer (without_peer first wants)

pub without_peers-take : (peers : List Name) (i : ℕ) (d : Name) (wants : List (MsgId × Name × ℕ)) →
    i < length peers →
    without_peers (take (i + 1) peers) wants ≡ without_peer (get_or peers i d) (without_peers (take i peers) wants)
without_peers-take peers i d wants within =
    ap (λ those. without_peers those wants) (take_more peers i d within) ∙ without_peers-push (take i peers) (get_or peers i d) wants

-- one more of a copy
pub copy-step : (slots : List (Option (MsgId × Name × ℕ))) (i : ℕ) (d : Option (MsgId × Name × ℕ)) →
    IsDistinct same_place (map place_of (somes slots)) →
    i < length slots →
    with_slot (get_or slots i d) (somes (take i slots)) ≡ somes (take (i + 1) slots)
copy-step slots i d once within = go (get_or slots i d) refl ∙ ap somes (sym (take_more slots i d within))
  where
    go : (slot : Option (MsgId × Name × ℕ)) → get_or slots i d ≡ slot → with_slot slot (somes (take i slots)) ≡ somes (take i slots ++ slot ∷ [])
    go None is = sym (somes-append (take i slots) (None ∷ []) ∙ append-nil (somes (take i slots)))
    go (Some entry) is =
        sym (put-new (take i slots) entry.0 entry.1 entry.2
        (none_before same_place same_place-Decides place_of slots i entry once (slice_get-get_or slots i d within ∙ ap Some is)))
