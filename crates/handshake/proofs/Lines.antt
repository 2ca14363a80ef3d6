-- What stands in four slices, and in which order it goes out.
use Rattle.std.proofs.Common.{◌≡◌, ◌⊎◌, inl, inr, ℕ, zero, suc, ◌+◌, ◌-◌, ◌≤◌, Bool, true, false, List, [], ◌∷◌, ◌++◌}
use Rattle.std.proofs.Common.{length, take, drop, refl, sym, ap, subst, ◌∙◌, append_assoc, arith}
use Rattle.std.proofs.Math.Dec.{eqb-suc-zero}
use Rattle.std.proofs.lemmas.Bool.{cases_lt}
use Rattle.std.proofs.lemmas.List.{append-nil, drop-append-le, drop-drop, drop-take, drop_all, drop_at, length-take, take-append-drop, take-append-le}
use Rattle.std.proofs.Common.{get_or, Bor, eqb}
use Rattle.std.specs.Prelude.{◌||◌}
use Rattle.bytes.specs.Unread.{concat_slices}
use Rattle.handshake.specs.declared.place.Place.{Place}
use Rattle.handshake.specs.Place.{after, cut, is_boundary, next_place}
use Rattle.handshake.specs.Outbound.{Outgoing, is_whole, lent, line, of_frames, sent}
use Rattle.handshake.proofs.Strides.{boundary_cut}

-- a test holds or it does not
decided : (b : Bool) → (b ≡ true) ⊎ (b ≡ false)
decided true = inl refl
decided false = inr refl

-- the first of some bytes that are of the frame under way, and where they lead
abbrev pub front : Place → List ℕ → List ℕ
front p bytes = take (cut p bytes) bytes

-- of two pieces
pub cut_two : (p : Place) (a b : List ℕ) → front p (a ++ b) ≡ front p a ++ front (after p (front p a)) b
cut_two p [] b = refl
cut_two p (x ∷ a) b = elim (decided (is_boundary p)) [
  | inl at ↦
      let whole : front p (x ∷ (a ++ b)) ≡ [] = rw at refl in
      let first : front p (x ∷ a) ≡ [] = rw at refl in
      let second : front p b ≡ [] = ap (λ n. take n b) (boundary_cut p b at) in
      whole ∙ sym (ap (λ f. f ++ front (after p f) b) first ∙ second)
  | inr on ↦
      let next = next_place p x in
      let whole : front p (x ∷ (a ++ b)) ≡ x ∷ front next (a ++ b) = rw on refl in
      let first : front p (x ∷ a) ≡ x ∷ front next a = rw on refl in
      whole ∙ ap (λ t. x ∷ t) (cut_two next a b) ∙ sym (ap (λ f. f ++ front (after p f) b) first)
]

-- and of four
pub cut_four : (p : Place) (a b c d : List ℕ) →
    let q = after p (front p a) in
    let r = after q (front q b) in
    let s = after r (front r c) in
    front p a ++ (front q b ++ (front r c ++ (front s d ++ []))) ≡ front p (a ++ (b ++ (c ++ (d ++ []))))
cut_four p a b c d =
    let q = after p (front p a) in
    let r = after q (front q b) in
    let s = after r (front r c) in
    let last : front s d ++ [] ≡ front s (d ++ []) = append-nil (front s d) ∙ ap (front s) (sym (append-nil d)) in
    sym (cut_two p a (b ++ (c ++ (d ++ [])))
    ∙ ap (λ t. front p a ++ t) (cut_two q b (c ++ (d ++ []))
    ∙ ap (λ t. front q b ++ t) (cut_two r c (d ++ [])
    ∙ ap (λ t. front r c ++ t) (sym last))))

-- ---- going on by the first bytes of several pieces

pub after_two : (p : Place) (a b : List ℕ) → after p (a ++ b) ≡ after (after p a) b
after_two p [] b = refl
after_two p (x ∷ a) b = after_two (next_place p x) a b

pub take_two : (n : ℕ) (a b : List ℕ) → take n (a ++ b) ≡ take n a ++ take (n - length a) b
take_two zero a b = let none : 0 - length a ≡ 0 = omega arith in sym (ap (λ m. take m b) none)
take_two (suc n) [] b = let all : suc n - 0 ≡ suc n = omega arith in sym (ap (λ m. take m b) all)
take_two (suc n) (x ∷ a) b =
    let less : n - length a ≡ suc n - length (x ∷ a) = omega arith in
    ap (λ t. x ∷ t) (take_two n a b ∙ ap (λ m. take n a ++ take m b) less)

after_take_two : (p : Place) (n : ℕ) (a b : List ℕ) → after p (take n (a ++ b)) ≡ after (after p (take n a)) (take (n - length a) b)
after_take_two p n a b = ap (after p) (take_two n a b) ∙ after_two p (take n a) (take (n - length a) b)

pub after_four : (p : Place) (n : ℕ) (a b c d : List ℕ) →
    let m = n - length a in
    let l = m - length b in
    let k = l - length c in
    after (after (after (after p (take n a)) (take m b)) (take l c)) (take k d) ≡ after p (take n (a ++ (b ++ (c ++ (d ++ [])))))
after_four p n a b c d =
    let m = n - length a in
    let l = m - length b in
    let k = l - length c in
    sym (after_take_two p n a (b ++ (c ++ (d ++ [])))
    ∙ after_take_two (after p (take n a)) m b (c ++ (d ++ []))
    ∙ after_take_two (after (after p (take n a)) (take m b)) l c (d ++ [])
    ∙ ap (λ t. after (after (after (after p (take n a)) (take m b)) (take l c)) (take k t)) (append-nil d))

-- ---- the four slices of an array

abbrev Slices : Type 0
Slices = List (Bor (List ℕ))

abbrev part : Slices → Bor (List ℕ) → ℕ → List ℕ
part xs e n = (get_or xs n e).now

four_parts : (xs : Slices) (e : Bor (List ℕ)) →
    length xs ≡ 4 →
    concat_slices xs ≡ part xs e 0 ++ (part xs e 1 ++ (part xs e 2 ++ (part xs e 3 ++ [])))
four_parts [] e is = absurd (omega (arith, is))
four_parts (a ∷ []) e is = absurd (omega (arith, is))
four_parts (a ∷ b ∷ []) e is = absurd (omega (arith, is))
four_parts (a ∷ b ∷ c ∷ []) e is = absurd (omega (arith, is))
four_parts (a ∷ b ∷ c ∷ d ∷ []) e is = refl
four_parts (a ∷ b ∷ c ∷ d ∷ x ∷ xs) e is = absurd (omega (arith, is))

pub fronts_four : (xs : Slices) (e : Bor (List ℕ)) (p q r s : Place) (a b c d : List ℕ) →
    length xs ≡ 4 →
    a ≡ front p (part xs e 0) →
    q ≡ after p (front p (part xs e 0)) →
    b ≡ front q (part xs e 1) →
    r ≡ after q (front q (part xs e 1)) →
    c ≡ front r (part xs e 2) →
    s ≡ after r (front r (part xs e 2)) →
    d ≡ front s (part xs e 3) →
    a ++ (b ++ (c ++ (d ++ []))) ≡ front p (concat_slices xs)
fronts_four xs e p q r s a b c d len is-a is-q is-b is-r is-c is-s is-d =
    let all = cut_four p (part xs e 0) (part xs e 1) (part xs e 2) (part xs e 3) in
    let parts = ap (front p) (four_parts xs e len) in
    rw (is-d, is-s, is-c, is-r, is-b, is-q, is-a) (all ∙ sym parts)

pub afters_four : (xs : Slices) (e : Bor (List ℕ)) (p q r s t : Place) (n m l k : ℕ) →
    length xs ≡ 4 →
    q ≡ after p (take n (part xs e 0)) →
    m ≡ n - length (part xs e 0) →
    r ≡ after q (take m (part xs e 1)) →
    l ≡ m - length (part xs e 1) →
    s ≡ after r (take l (part xs e 2)) →
    k ≡ l - length (part xs e 2) →
    t ≡ after s (take k (part xs e 3)) →
    t ≡ after p (take n (concat_slices xs))
afters_four xs e p q r s t n m l k len is-q is-m is-r is-l is-s is-k is-t =
    let all = after_four p n (part xs e 0) (part xs e 1) (part xs e 2) (part xs e 3) in
    let parts = ap (λ b. after p (take n b)) (four_parts xs e len) in
    rw (is-t, is-k, is-s, is-l, is-r, is-m, is-q) (all ∙ sym parts)

-- ---- the order in which it goes out

-- between two frames the records are first
boundary_line : (out : Outgoing) (f : List ℕ) → is_boundary out.place ≡ true → line out f ≡ out.records ++ f
boundary_line out f at = ap (λ n. take n f ++ (out.records ++ drop n f)) (boundary_cut out.place f at)

-- and where no records wait, all are frames
bare_line : (out : Outgoing) (f : List ℕ) → out.records ≡ [] → line out f ≡ f
bare_line out f none =
    let n = cut out.place f in
    ap (λ r. take n f ++ (r ++ drop n f)) none ∙ take-append-drop n f

or_true : (a : Bool) → (a || true) ≡ true
or_true true = refl
or_true false = refl

whole_at : (out : Outgoing) → is_boundary out.place ≡ true → is_whole out ≡ true
whole_at out at = ap (λ b. eqb (length out.records) 0 || b) at ∙ or_true (eqb (length out.records) 0)

lent_whole : (out : Outgoing) (f : List ℕ) → is_whole out ≡ true → lent out f ≡ line out f
lent_whole out f whole = rw whole refl

lent_cut : (out : Outgoing) (f : List ℕ) → is_whole out ≡ false → lent out f ≡ take (cut out.place f) f
lent_cut out f part = rw part refl

-- between two frames, what is lent in four slices: the records and three slices, with the fourth behind them
pub lent_four : (out : Outgoing) (xs : Slices) (e : Bor (List ℕ)) →
    length xs ≡ 4 →
    is_boundary out.place ≡ true →
    (out.records ++ (part xs e 0 ++ (part xs e 1 ++ (part xs e 2 ++ [])))) ++ part xs e 3 ≡ lent out (concat_slices xs)
lent_four out xs e len at =
    let a = part xs e 0 in
    let b = part xs e 1 in
    let c = part xs e 2 in
    let d = part xs e 3 in
    let nested : (out.records ++ (a ++ (b ++ (c ++ [])))) ++ d ≡ out.records ++ (a ++ (b ++ (c ++ (d ++ [])))) =
    simp (append_assoc, append-nil) in
    nested
    ∙ ap (λ f. out.records ++ f) (sym (four_parts xs e len))
    ∙ sym (lent_whole out (concat_slices xs) (whole_at out at) ∙ boundary_line out (concat_slices xs) at)

-- what is lent is the first of what is to go out
pub lent_first : (out : Outgoing) (f : List ℕ) → (rest : List ℕ) × (lent out f ++ rest ≡ line out f)
lent_first out f = elim (decided (is_whole out)) [
  | inl whole ↦ ([], ap (λ t. t ++ []) (lent_whole out f whole) ∙ append-nil (line out f))
  | inr part ↦ (out.records ++ drop (cut out.place f) f, ap (λ t. t ++ (out.records ++ drop (cut out.place f) f)) (lent_cut out f part))
]

-- no more bytes are of the frame under way than there are
within : (p : Place) (f : List ℕ) → cut p f ≤ length f
within p [] = omega arith
within p (x ∷ f) = elim (decided (is_boundary p)) [
  | inl at ↦ let none : cut p (x ∷ f) ≡ 0 = rw at refl in omega (arith, none)
  | inr on ↦
      let one : cut p (x ∷ f) ≡ suc (cut (next_place p x) f) = rw on refl in
      omega (arith, one, within (next_place p x) f)
]

-- the rest of the frame under way, after some of it
cut_rest : (p : Place) (n : ℕ) (f : List ℕ) → n ≤ cut p f → cut p f ≡ n + cut (after p (take n f)) (drop n f)
cut_rest p zero f few = omega arith
cut_rest p (suc n) [] few = absurd (omega arith)
cut_rest p (suc n) (x ∷ f) few = elim (decided (is_boundary p)) [
  | inl at ↦ let none : cut p (x ∷ f) ≡ 0 = rw at refl in absurd (omega arith)
  | inr on ↦
      let one : cut p (x ∷ f) ≡ suc (cut (next_place p x) f) = rw on refl in
      let more = cut_rest (next_place p x) n f (omega arith) in
      omega (arith, one, more)
]

-- ---- after some of it went out

-- no more than the records
gone_records : (out : Outgoing) (f : List ℕ) (n : ℕ) →
    is_boundary out.place ≡ true →
    n ≤ length out.records →
    line (record out { records = drop n out.records; place = after out.place (take 0 f) }) (drop 0 f) ≡ drop n (line out f)
gone_records out f n at few =
    boundary_line (record out { records = drop n out.records }) f at
    ∙ sym (drop-append-le n out.records f few)
    ∙ ap (drop n) (sym (boundary_line out f at))

-- all records, and bytes of frames
gone_all : (out : Outgoing) (f : List ℕ) (m : ℕ) (next : Outgoing) →
    is_boundary out.place ≡ true →
    next.records ≡ [] →
    line next (drop m f) ≡ drop (length out.records + m) (line out f)
gone_all out f m next at none =
    bare_line next (drop m f) none
    ∙ ap (drop m) (sym (drop_at out.records f (length out.records) refl))
    ∙ drop-drop m (length out.records) (out.records ++ f)
    ∙ ap (drop (length out.records + m)) (sym (boundary_line out f at))

-- bytes of the frame under way
gone_within : (out : Outgoing) (f : List ℕ) (n : ℕ) →
    n ≤ cut out.place f →
    line (record out { place = after out.place (take n f) }) (drop n f) ≡ drop n (line out f)
gone_within out f n few =
    let p = out.place in
    let k = cut (after p (take n f)) (drop n f) in
    let is : cut p f ≡ n + k = cut_rest p n f few in
    let fits : n ≤ length (take (n + k) f) = subst (λ m. n ≤ length (take m f)) is (omega (arith, length-take (cut p f) f, within p f)) in
    ap (λ t. t ++ (out.records ++ drop k (drop n f))) (sym (drop-take n k f))
    ∙ ap (λ t. drop n (take (n + k) f) ++ (out.records ++ t)) (drop-drop k n f)
    ∙ sym (drop-append-le n (take (n + k) f) (out.records ++ drop (n + k) f) fits)
    ∙ ap (λ m. drop n (take m f ++ (out.records ++ drop m f))) (sym is)

-- bytes of frames where no records wait
gone_bare : (out : Outgoing) (f : List ℕ) (n : ℕ) →
    out.records ≡ [] →
    line (record out { place = after out.place (take n f) }) (drop n f) ≡ drop n (line out f)
gone_bare out f n none =
    bare_line (record out { place = after out.place (take n f) }) (drop n f) none ∙ ap (drop n) (sym (bare_line out f none))

-- the numbers of `sent`
Sent : Outgoing → List ℕ → ℕ → ℕ → ℕ → Type 0
Sent out f n gone m =
    line (record out { records = drop gone out.records; place = after out.place (take m f) }) (drop m f) ≡ drop n (line out f)

sent_at : (out : Outgoing) (f : List ℕ) (n : ℕ) →
    is_boundary out.place ≡ true →
    Sent out f n (n - (n - length out.records)) (n - length out.records)
unfolding Sent
sent_at out f n at = elim (cases_lt (length out.records) n) [
  | inl more ↦
      let len = length out.records in
      let gone : n - (n - len) ≡ len = omega arith in
      let m = n - len in
      let all : len + m ≡ n = omega arith in
      let next : Outgoing = record out { records = drop (n - m) out.records; place = after out.place (take m f) } in
      gone_all out f m next at (drop_all (n - m) out.records (omega arith)) ∙ ap (λ k. drop k (line out f)) all
  | inr few ↦
      let len = length out.records in
      let none : 0 ≡ n - len = omega arith in
      let gone : n ≡ n - (n - len) = omega arith in
      let start : Sent out f n n 0 = gone_records out f n at few in
      subst (λ m. Sent out f n (n - (n - len)) m) none (subst (λ g. Sent out f n g 0) gone start)
]

sent_on : (out : Outgoing) (f : List ℕ) (n : ℕ) →
    is_boundary out.place ≡ false →
    n ≤ length (lent out f) →
    Sent out f n (n - n) n
unfolding Sent
sent_on out f n on fits =
    let none : 0 ≡ n - n = omega arith in
    subst (λ g. Sent out f n g n) none (by_records out.records refl)
  where
    by_records : (r : List ℕ) → out.records ≡ r → Sent out f n 0 n
    by_records [] is = gone_bare out f n is
    by_records (x ∷ r) is =
        let part : is_whole out ≡ false = rw (is, on, eqb-suc-zero (length r)) refl in
        let len : length (lent out f) ≡ length (take (cut out.place f) f) = ap length (lent_cut out f part) in
        gone_within out f n (omega (arith, len, length-take (cut out.place f) f))

pub goes_on_after : (out : Outgoing) (f : List ℕ) (n : ℕ) →
    n ≤ length (lent out f) →
    line (sent out f n) (drop (of_frames out n) f) ≡ drop n (line out f)
unfolding Sent
goes_on_after out f n fits = elim (decided (is_boundary out.place)) [
  | inl at ↦
      let is : of_frames out n ≡ n - length out.records = rw at refl in
      subst (λ m. Sent out f n (n - m) m) (sym is) (sent_at out f n at)
  | inr on ↦
      let is : of_frames out n ≡ n = rw on refl in
      subst (λ m. Sent out f n (n - m) m) (sym is) (sent_on out f n on fits)
]

-- ---- what comes to wait

-- where the frames that wait are whole, none of what follows is of the one under way
cut_same : (p : Place) (f more : List ℕ) → is_boundary (after p f) ≡ true → cut p (f ++ more) ≡ cut p f
cut_same p [] more at = boundary_cut p more at
cut_same p (x ∷ f) more at = elim (decided (is_boundary p)) [
  | inl here ↦
      let whole : cut p (x ∷ (f ++ more)) ≡ 0 = rw here refl in
      let alone : cut p (x ∷ f) ≡ 0 = rw here refl in
      whole ∙ sym alone
  | inr on ↦
      let whole : cut p (x ∷ (f ++ more)) ≡ suc (cut (next_place p x) (f ++ more)) = rw on refl in
      let alone : cut p (x ∷ f) ≡ suc (cut (next_place p x) f) = rw on refl in
      whole ∙ ap suc (cut_same (next_place p x) f more at) ∙ sym alone
]

pub stands_behind : (out : Outgoing) (f more : List ℕ) →
    is_boundary (after out.place f) ≡ true →
    line out (f ++ more) ≡ line out f ++ more
stands_behind out f more at =
    let n = cut out.place f in
    let le = within out.place f in
    let front_same = take-append-le n f more le in
    let rest_same = drop-append-le n f more le in
    ap (λ k. take k (f ++ more) ++ (out.records ++ drop k (f ++ more))) (cut_same out.place f more at)
    ∙ ap (λ t. t ++ (out.records ++ drop n (f ++ more))) front_same
    ∙ ap (λ t. take n f ++ (out.records ++ t)) rest_same
    ∙ ap (λ t. take n f ++ t) (sym (append_assoc out.records (drop n f) more))
    ∙ sym (append_assoc (take n f) (out.records ++ drop n f) more)
