-- The numbers past a gap, by the edges of their runs.
use Rattle.std.proofs.Common.{◌≡◌, ◌∙◌, ℕ, zero, suc, ◌+◌, ◌-◌, ◌%◌, ◌^◌, ◌<◌, ◌≤◌, ◌||◌, ◌⊎◌, Bool, true, false, not, List, [], ◌∷◌, ◌++◌}
use Rattle.std.proofs.Common.{length, get_or, drop, sym, ap, subst, refl, arith, append-nil, append_assoc, length-append, ⊎_elim, inl, inr}
use Rattle.std.specs.Prelude.{nat_eq, nat_le, insert}
use Rattle.std.specs.Cmp.{unsigned_Decides}
use Rattle.std.specs.List.{list_any, range_with_len, remove}
use Rattle.std.proofs.lemmas.Bool.{cases_lt, true≢false, le-leb, lt-leb}
use Rattle.std.proofs.lemmas.List.Folds.{list_any-append}
use Rattle.std.proofs.lemmas.List.FromFn.{length-range_with_len}
use Rattle.known_messages.specs.Past.{between, is_covered, toggled}
use Rattle.known_messages.specs.Span.{Ascends, counted}
use Rattle.known_messages.proofs.NumberLemmas.{Ascends-weaker, above}
use Rattle.known_messages.proofs.SpanLemmas.{any_after, any_before, any_within, differ, none_below}

-- ---- toggling

twice : (b c : Bool) → toggled b (toggled b c) ≡ c
twice true true = refl
twice true false = refl
twice false c = refl

swapped : (a b c : Bool) → toggled a (toggled b c) ≡ toggled b (toggled a c)
swapped true true c = refl
swapped true false c = refl
swapped false b c = refl

pub covered-insert : (edges : List ℕ) (i edge n : ℕ) → is_covered (insert edges i edge) n ≡ toggled (nat_le edge n) (is_covered edges n)
covered-insert [] zero edge n = refl
covered-insert [] (suc i) edge n = refl
covered-insert (e ∷ edges) zero edge n = refl
covered-insert (e ∷ edges) (suc i) edge n =
    ap (toggled (nat_le e n)) (covered-insert edges i edge n)
    ∙ swapped (nat_le e n) (nat_le edge n) (is_covered edges n)

pub covered-remove : (edges : List ℕ) (i n : ℕ) → i < length edges → is_covered (remove edges i) n ≡ toggled (nat_le (get_or edges i 0) n) (is_covered edges n)
covered-remove [] i n within = absurd (omega (arith, within))
covered-remove (e ∷ edges) zero n within = sym (twice (nat_le e n) (is_covered edges n))
covered-remove (e ∷ edges) (suc i) n within =
    ap (toggled (nat_le e n)) (covered-remove edges i n (omega (arith, within)))
    ∙ swapped (nat_le e n) (nat_le (get_or edges i 0) n) (is_covered edges n)

pub Ascends-remove : (low : ℕ) (edges : List ℕ) (i : ℕ) → i < length edges → Ascends low edges → Ascends low (remove edges i)
Ascends-remove low [] i within up = absurd (omega (arith, within))
Ascends-remove low (e ∷ edges) zero within up = Ascends-weaker e low edges (omega (arith, up.0)) up.2
Ascends-remove low (e ∷ edges) (suc i) within up = (up.0, up.1, Ascends-remove e edges i (omega (arith, within)) up.2)

-- ---- which numbers are covered

-- no edge covers what is less
pub none_covered : (n low : ℕ) (edges : List ℕ) → n ≤ low → Ascends low edges → is_covered edges n ≡ false
none_covered n low [] le up = refl
none_covered n low (e ∷ edges) le up =
    ap (λ b. toggled b (is_covered edges n)) (lt-leb e n (omega (arith, le, up.0)))
    ∙ none_covered n e edges (omega (arith, le, up.0)) up.2

abbrev odd : ℕ → Bool
odd zero = false
odd (suc n) = not (odd n)

counted_below : (n : ℕ) (edges : List ℕ) (i : ℕ) →
    i ≤ length edges →
    ((k : ℕ) → k < i → get_or edges k 0 ≤ n) →
    ((k : ℕ) → i ≤ k → k < length edges → n < get_or edges k 0) →
    is_covered edges n ≡ odd i
counted_below n [] zero within before after = refl
counted_below n [] (suc i) within before after = absurd (omega (arith, within))
counted_below n (e ∷ edges) zero within before after =
    ap (λ b. toggled b (is_covered edges n)) (lt-leb e n (after 0 (omega arith) (omega arith)))
    ∙ counted_below n edges 0 (omega arith) (λ k h. absurd (omega (arith, h))) (λ k h j. after (suc k) (omega arith) (omega (arith, j)))
counted_below n (e ∷ edges) (suc i) within before after =
    ap (λ b. toggled b (is_covered edges n)) (le-leb e n (before 0 (omega arith)))
    ∙ ap not
    (counted_below n edges i (omega (arith, within)) (λ k h. before (suc k) (omega (arith, h))) (λ k h j. after (suc k) (omega (arith, h)) (omega (arith, j))))

climbs : (low : ℕ) (ns : List ℕ) → Ascends low ns → (i j : ℕ) → i < j → j < length ns → get_or ns i 0 < get_or ns j 0
climbs low [] up i j lt within = absurd (omega (arith, within))
climbs low (n ∷ ns) up i zero lt within = absurd (omega (arith, lt))
climbs low (n ∷ ns) up zero (suc j) lt within = above n ns j up.2 (omega (arith, within))
climbs low (n ∷ ns) up (suc i) (suc j) lt within = climbs n ns up.2 i j (omega (arith, lt)) (omega (arith, within))

odd-rem : (i : ℕ) → (odd i ≡ nat_eq (i % 2) 1) × (not (odd i) ≡ nat_eq (i % 2) 0)
odd-rem zero = (refl, refl)
odd-rem (suc i) = go (odd-rem i) (parts i)
  where
    parts : (i : ℕ) → ((i % 2 ≡ 0) × (suc i % 2 ≡ 1)) ⊎ ((i % 2 ≡ 1) × (suc i % 2 ≡ 0))
    parts i = ⊎_elim (λ h. inl (omega (arith, h), omega (arith, h))) (λ h. inr (omega (arith, h), omega (arith, h))) (cases_lt (i % 2) 1)

    go : ((odd i ≡ nat_eq (i % 2) 1) × (not (odd i) ≡ nat_eq (i % 2) 0)) →
        (((i % 2 ≡ 0) × (suc i % 2 ≡ 1)) ⊎ ((i % 2 ≡ 1) × (suc i % 2 ≡ 0))) →
        (not (odd i) ≡ nat_eq (suc i % 2) 1) × (not (not (odd i)) ≡ nat_eq (suc i % 2) 0)
    go is (inl h) =
        let no : odd i ≡ false = is.0 ∙ ap (λ r. nat_eq r 1) h.0 in
        (ap not no ∙ sym (ap (λ r. nat_eq r 1) h.1), ap (λ b. not (not b)) no ∙ sym (ap (λ r. nat_eq r 0) h.1))
    go is (inr h) =
        let yes : odd i ≡ true = is.0 ∙ ap (λ r. nat_eq r 1) h.0 in
        (ap not yes ∙ sym (ap (λ r. nat_eq r 1) h.1), ap (λ b. not (not b)) yes ∙ sym (ap (λ r. nat_eq r 0) h.1))

-- an edge in an even place covers its number
pub covered_at : (n : ℕ) (edges : List ℕ) (place : ℕ) →
    Ascends 0 edges →
    place < length edges →
    get_or edges place 0 ≡ n →
    nat_eq (place % 2) 0 ≡ is_covered edges n
covered_at n edges place up within is =
    sym (odd-rem place).1
    ∙ sym (counted_below n edges (suc place) (omega (arith, within)) (λ k h. to k h (cases_lt k place))
    (λ k h j. subst (λ m. m < get_or edges k 0) is (climbs 0 edges up place k (omega (arith, h)) j)))
  where
    to : (k : ℕ) → k < suc place → (k < place) ⊎ (place ≤ k) → get_or edges k 0 ≤ n
    to k h (inl lt) = let under = climbs 0 edges up k place lt within in omega (arith, under, is)
    to k h (inr ge) = let same : k ≡ place = omega (arith, h, ge) in subst (λ (m : ℕ). get_or edges m 0 ≤ n) (sym same) (omega (arith, is))

-- a number without an edge is covered if an odd number of edges are less
pub covered_behind : (n : ℕ) (edges : List ℕ) (place : ℕ) →
    place ≤ length edges →
    ((k : ℕ) → k < place → get_or edges k 0 < n) →
    ((k : ℕ) → place ≤ k → k < length edges → n < get_or edges k 0) →
    nat_eq (place % 2) 1 ≡ is_covered edges n
covered_behind n edges place within before after =
    sym (odd-rem place).0 ∙ sym (counted_below n edges place within (λ k h. let lt = before k h in omega (arith, lt)) after)

-- ---- one number more

order : (m n : ℕ) → (m < n) ⊎ ((m ≡ n) ⊎ (n < m))
order m n = ⊎_elim (λ lt. inl lt) (λ ge. ⊎_elim (λ lt. inr (inr lt)) (λ le. inr (inl (omega (arith, ge, le)))) (cases_lt n m)) (cases_lt m n)

-- a last edge covers its own number alone, and no greater one is asked for
pub covered_last : (edges : List ℕ) (n m : ℕ) →
    m ≤ n →
    is_covered edges n ≡ false →
    toggled (nat_le n m) (is_covered edges m) ≡ (nat_eq m n || is_covered edges m)
covered_last edges n m le lacks = go (order m n)
  where
    go : (m < n) ⊎ ((m ≡ n) ⊎ (n < m)) → toggled (nat_le n m) (is_covered edges m) ≡ (nat_eq m n || is_covered edges m)
    go (inl lt) =
        ap (λ b. toggled b (is_covered edges m)) (lt-leb n m lt)
        ∙ sym (ap (λ b. b || is_covered edges m) (differ m n (λ e. omega (arith, lt, e))))
    go (inr (inl same)) =
        ap (λ b. toggled b (is_covered edges m)) (le-leb n m (omega (arith, same)))
        ∙ ap not (ap (is_covered edges) same ∙ lacks)
        ∙ sym (ap (λ b. b || is_covered edges m) ((unsigned_Decides m n).1 same))
    go (inr (inr gt)) = absurd (omega (arith, gt, le))

-- an edge and the next number cover the first of them
pub covered_pair : (edges : List ℕ) (n m : ℕ) →
    is_covered edges n ≡ false →
    toggled (nat_le (n + 1) m) (toggled (nat_le n m) (is_covered edges m)) ≡ (nat_eq m n || is_covered edges m)
covered_pair edges n m lacks = go (cases_lt n m)
  where
    go : (n < m) ⊎ (m ≤ n) → toggled (nat_le (n + 1) m) (toggled (nat_le n m) (is_covered edges m)) ≡ (nat_eq m n || is_covered edges m)
    go (inl lt) =
        ap (λ b. toggled b (toggled (nat_le n m) (is_covered edges m))) (le-leb (n + 1) m (omega (arith, lt)))
        ∙ ap (λ b. toggled true (toggled b (is_covered edges m))) (le-leb n m (omega (arith, lt)))
        ∙ twice true (is_covered edges m)
        ∙ sym (ap (λ b. b || is_covered edges m) (differ m n (λ e. omega (arith, lt, e))))
    go (inr le) =
        ap (λ b. toggled b (toggled (nat_le n m) (is_covered edges m))) (lt-leb (n + 1) m (omega (arith, le)))
        ∙ covered_last edges n m le lacks

-- no number is greater than 64 bits hold
none_above : (m low : ℕ) (ns : List ℕ) → 2 ^ 64 ≤ m → Ascends low ns → list_any (nat_eq m) ns ≡ false
none_above m low [] above up = refl
none_above m low (n ∷ ns) above up =
    ap (λ b. b || list_any (nat_eq m) ns) (differ m n (λ e. omega (arith, above, up.1, e)))
    ∙ none_above m n ns above up.2

pub nil_of : (ns : List ℕ) → length ns ≡ 0 → ns ≡ []
nil_of [] none = refl
nil_of (n ∷ ns) none = absurd (omega (arith, none))

-- ---- the numbers between the edges

-- a run that follows another makes one with it
range_with_len-append : (a m n : ℕ) → range_with_len a (m + n) ≡ range_with_len a m ++ range_with_len (a + m) n
range_with_len-append a zero n =
    let none : zero + n ≡ n = omega arith in
    let here : a ≡ a + 0 = omega arith in
    ap (range_with_len a) none ∙ ap (λ k. range_with_len k n) here
range_with_len-append a (suc m) n =
    let more : suc m + n ≡ suc (m + n) = omega arith in
    let there : (a + 1) + m ≡ a + suc m = omega arith in
    ap (range_with_len a) more ∙ ap (λ ns. a ∷ ns) (range_with_len-append (a + 1) m n ∙ ap (λ k. range_with_len (a + 1) m ++ range_with_len k n) there)

joined : (last a n : ℕ) (rest : List ℕ) → a ≡ last + 1 → counted last (range_with_len a n ++ rest) ≡ counted (last + n) rest
joined last a n rest next =
    let one : a ≡ 1 + last = omega (arith, next) in
    sym (append_assoc (range_with_len 1 last) (range_with_len a n) rest)
    ∙ ap (λ ns. ns ++ rest) (ap (λ k. range_with_len 1 last ++ range_with_len k n) one ∙ sym (range_with_len-append 1 last n))

module _ (top : ℕ) (is_top : top ≡ 2 ^ 64) where
  pub any-between : (low n : ℕ) (edges : List ℕ) → n < top → Ascends low edges → list_any (nat_eq n) (between top edges) ≡ is_covered edges n
  any-between low n [] fits up = refl
  any-between low n (a ∷ []) fits up = go (cases_lt n a)
    where
      go : (n < a) ⊎ (a ≤ n) → list_any (nat_eq n) (range_with_len a (top - a)) ≡ toggled (nat_le a n) false
      go (inl lt) = any_before n a (top - a) lt ∙ sym (ap (λ b. toggled b false) (lt-leb a n lt))
      go (inr ge) = any_within n a (top - a) ge (omega (arith, fits, ge)) ∙ sym (ap (λ b. toggled b false) (le-leb a n ge))
  any-between low n (a ∷ b ∷ edges) fits up =
      list_any-append (nat_eq n) (range_with_len a (b - a)) (between top edges)
      ∙ ap (λ c. list_any (nat_eq n) (range_with_len a (b - a)) || c) (any-between b n edges fits up.2.2)
      ∙ go (cases_lt n a) (cases_lt n b)
    where
      rest : Bool
      rest = is_covered edges n

      go : (n < a) ⊎ (a ≤ n) →
          (n < b) ⊎ (b ≤ n) →
          (list_any (nat_eq n) (range_with_len a (b - a)) || is_covered edges n) ≡ toggled (nat_le a n) (toggled (nat_le b n) (is_covered edges n))
      go (inl lt) before =
          ap (λ c. c || rest) (any_before n a (b - a) lt)
          ∙ sym (ap (λ c. toggled c (toggled (nat_le b n) rest)) (lt-leb a n lt) ∙ ap (λ c. toggled c rest) (lt-leb b n (omega (arith, lt, up.2.0))))
      go (inr ge) (inl lt) =
          ap (λ c. c || rest) (any_within n a (b - a) ge (omega (arith, lt, ge)))
          ∙ sym (ap (λ c. toggled c (toggled (nat_le b n) rest)) (le-leb a n ge)
          ∙ ap (λ c. not (toggled c rest)) (lt-leb b n lt)
          ∙ ap not (none_covered n b edges (omega (arith, lt)) up.2.2))
      go (inr ge) (inr beyond) =
          ap (λ c. c || rest) (any_after n a (b - a) (omega (arith, beyond, up.2.0)))
          ∙ sym
          (ap (λ c. toggled c (toggled (nat_le b n) rest)) (le-leb a n ge) ∙ ap (λ c. toggled true (toggled c rest)) (le-leb b n beyond) ∙ twice true rest)

  Ascends-range : (low a n : ℕ) (rest : List ℕ) → low < a → a + n ≤ top → Ascends (a + n) rest → Ascends low (range_with_len a n ++ rest)
  Ascends-range low a zero rest lt fits up = Ascends-weaker (a + 0) low rest (omega (arith, lt)) up
  Ascends-range low a (suc n) rest lt fits up =
      let on : a + suc n ≡ (a + 1) + n = omega arith in
      (lt, omega (arith, fits, is_top), Ascends-range a (a + 1) n rest (omega arith) (omega (arith, fits)) (subst (λ k. Ascends k rest) on up))

  pub Ascends-between : (low : ℕ) (edges : List ℕ) → Ascends low edges → Ascends low (between top edges)
  Ascends-between low [] up = tt
  Ascends-between low (a ∷ []) up =
      subst (Ascends low) (append-nil (range_with_len a (top - a))) (Ascends-range low a (top - a) [] up.0 (omega (arith, up.1, is_top)) tt)
  Ascends-between low (a ∷ b ∷ edges) up =
      let on : b ≡ a + (b - a) = omega (arith, up.2.0) in
      Ascends-range low a (b - a) (between top edges) up.0 (omega (arith, up.2.0, up.2.1, is_top))
      (subst (λ k. Ascends k (between top edges)) on (Ascends-between b edges up.2.2))

  -- the first number is the first edge
  pub Ascends-edges : (low : ℕ) (edges : List ℕ) → Ascends 0 edges → Ascends low (between top edges) → Ascends low edges
  Ascends-edges low [] up apart = tt
  Ascends-edges low (a ∷ edges) up apart = (⊎_elim (λ lt. lt) (λ ge. absurd (first ge)) (cases_lt low a), up.1, up.2)
    where
      there : list_any (nat_eq a) (between top (a ∷ edges)) ≡ true
      there =
          any-between 0 a (a ∷ edges) (omega (arith, up.1, is_top)) up
          ∙ ap (λ b. toggled b (is_covered edges a)) (le-leb a a (omega arith))
          ∙ ap not (none_covered a a edges (omega arith) up.2)

      first : a ≤ low → ⊥
      first le = true≢false (sym there ∙ none_below a low (between top (a ∷ edges)) le apart)

  pub length-between : (low : ℕ) (edges : List ℕ) → low < top → Ascends low edges → length (between top edges) + low < top
  length-between low [] fits up = omega (arith, fits)
  length-between low (a ∷ []) fits up = let len = length-range_with_len a (top - a) in omega (arith, len, up.0, up.1, is_top)
  length-between low (a ∷ b ∷ edges) fits up =
      let len = length-append (range_with_len a (b - a)) (between top edges) in
      let run = length-range_with_len a (b - a) in
      let later = length-between b edges (omega (arith, up.2.1, is_top)) up.2.2 in
      omega (arith, len, run, later, up.0, up.2.0)

  -- what is covered is what is between
  pub more-between : (edges now : List ℕ) (n : ℕ) →
      n < top →
      Ascends 0 edges →
      Ascends 0 now →
      ((m : ℕ) → m < top → is_covered now m ≡ (nat_eq m n || is_covered edges m)) →
      (m : ℕ) →
      list_any (nat_eq m) (between top now) ≡ (nat_eq m n || list_any (nat_eq m) (between top edges))
  more-between edges now n fits up up_now more m = go (cases_lt m top)
    where
      go : (m < top) ⊎ (top ≤ m) → list_any (nat_eq m) (between top now) ≡ (nat_eq m n || list_any (nat_eq m) (between top edges))
      go (inl lt) = any-between 0 m now lt up_now ∙ more m lt ∙ sym (ap (λ b. nat_eq m n || b) (any-between 0 m edges lt up))
      go (inr ge) =
          none_above m 0 (between top now) (omega (arith, ge, is_top)) (Ascends-between 0 now up_now)
          ∙ sym (ap (λ b. b || list_any (nat_eq m) (between top edges)) (differ m n (λ e. omega (arith, e, ge, fits)))
          ∙ none_above m 0 (between top edges) (omega (arith, ge, is_top)) (Ascends-between 0 edges up))

  -- ---- the run behind the unbroken numbers

  module _ (last first : ℕ) where
    -- where the first edge does not follow, the next number is not there
    pub apart_from : (edges : List ℕ) →
        0 < length edges →
        first ≡ get_or edges 0 first →
        Ascends 0 edges →
        Ascends last (between top edges) →
        (first - 1 ≡ last → ⊥) →
        Ascends (last + 1) (between top edges)
    apart_from [] some is up apart gap = absurd (omega (arith, some))
    apart_from (a ∷ edges) some is up apart gap =
        let beyond = Ascends-edges last (a ∷ edges) up apart in
        Ascends-between (last + 1) (a ∷ edges) (further beyond.0 is gap, up.1, up.2)
      where
        further : last < a → first ≡ a → (first - 1 ≡ last → ⊥) → last + 1 < a
        further lt same off = omega (arith, lt, same, off)

    -- where it follows, its run joins the unbroken numbers
    pub absorbed : (edges rest : List ℕ) (end : ℕ) →
        0 < length edges →
        first ≡ get_or edges 0 first →
        first - 1 ≡ last →
        Ascends 0 edges →
        Ascends last (between top edges) →
        drop 1 edges ≡ end ∷ rest →
        Ascends (end - 1 + 1) (between top rest) × (counted (end - 1) (between top rest) ≡ counted last (between top edges))
    absorbed [] rest end some is follows up apart left = absurd (omega (arith, some))
    absorbed (a ∷ edges) rest end some is follows up apart left =
        let at : edges ≡ end ∷ rest = left in
        let tail : Ascends a (end ∷ rest) = subst (Ascends a) at up.2 in
        let beyond : last < a = (Ascends-edges last (a ∷ edges) up apart).0 in
        let next : a ≡ last + 1 = omega (arith, beyond, is, follows) in
        let here : end ≡ end - 1 + 1 = omega (arith, tail.0) in
        let whole : last + (end - a) ≡ end - 1 = omega (arith, next, tail.0) in (
          subst (λ k. Ascends k (between top rest)) here (Ascends-between end rest tail.2),
          sym (ap (λ es. counted last (between top (a ∷ es))) at
              ∙ joined last a (end - a) (between top rest) next
              ∙ ap (λ k. counted k (between top rest)) whole),
        )

    pub absorbed_all : (edges : List ℕ) →
        0 < length edges →
        first ≡ get_or edges 0 first →
        first - 1 ≡ last →
        Ascends 0 edges →
        Ascends last (between top edges) →
        drop 1 edges ≡ [] →
        counted (top - 1) [] ≡ counted last (between top edges)
    absorbed_all [] some is follows up apart left = absurd (omega (arith, some))
    absorbed_all (a ∷ edges) some is follows up apart left =
        let at : edges ≡ [] = left in
        let beyond : last < a = (Ascends-edges last (a ∷ edges) up apart).0 in
        let next : a ≡ last + 1 = omega (arith, beyond, is, follows) in
        let whole : last + (top - a) ≡ top - 1 = omega (arith, next, up.1, is_top) in
        sym (ap (λ es. counted last (between top (a ∷ es))) at
        ∙ ap (counted last) (sym (append-nil (range_with_len a (top - a))))
        ∙ joined last a (top - a) [] next
        ∙ ap (λ k. counted k []) whole)

  -- ---- how many there are

  pub length-run : (edges rest : List ℕ) (first end : ℕ) →
      edges ≡ first ∷ end ∷ rest →
      Ascends 0 edges →
      Ascends 0 rest × (length (between top edges) ≡ (end - first) + length (between top rest))
  length-run edges rest first end is up =
      let parts : Ascends 0 (first ∷ end ∷ rest) = subst (Ascends 0) is up in (
        Ascends-weaker end 0 rest (omega arith) parts.2.2,
        ap (λ es. length (between top es)) is
            ∙ length-append (range_with_len first (end - first)) (between top rest)
            ∙ ap (λ n. n + length (between top rest)) (length-range_with_len first (end - first)),
      )

  pub length-last : (edges rest : List ℕ) (first : ℕ) →
      edges ≡ first ∷ rest →
      length rest ≡ 0 →
      Ascends 0 edges →
      (length (between top edges) ≡ top - first) × (0 < first) × (first < top)
  length-last edges [] first is none up =
      let parts : Ascends 0 (first ∷ []) = subst (Ascends 0) is up in
      (ap (λ es. length (between top es)) is ∙ length-range_with_len first (top - first), parts.0, omega (arith, parts.1, is_top))
  length-last edges (n ∷ ns) first is none up = absurd (omega (arith, none))
