-- Where a place lies among segments that abut, and what is left of them where they are cut.
use Rattle.std.specs.Prelude.{◌≡◌, ◌⊎◌, ◌+◌, ◌-◌, ◌<◌, ◌≤◌, ℕ, true, false, List, [], ◌∷◌, ◌++◌, Some, length, take, drop, refl, set}
use Rattle.std.specs.List.{slice_get}
use Rattle.std.proofs.Common.{◌∙◌, ap, subst, sym, append_assoc, arith, get_or, inl, inr, zero, suc}
use Rattle.std.specs.List.Sorted.{IsNonDecreasingBy, IsPartitionPoint}
use Rattle.std.proofs.Math.Dec.{ltb}
use Rattle.std.proofs.lemmas.Bool.{ltb-false, ltb-true}
use Rattle.std.proofs.lemmas.List.{append-nil, get_or-take, take-append-le, length-append, length-take-le}
use Rattle.std.proofs.Math.Seq.{drop-append_seam, take-append-add, take-nil}
use Rattle.protocol.specs.Segments.{Abut, BeginBefore, Ends, Segment, joined}
use Rattle.protocol.specs.Trace.{Step}

behind : {N : Type 0} (t : ℕ) (x : Segment N) (xs : List (Segment N)) (k : ℕ) → BeginBefore t (x ∷ xs) (suc k) → BeginBefore t xs k
behind t x xs k c = record {
  bound = omega (arith, c.bound);
  before = λ i d l. c.before (suc i) d (omega arith);
  behind = λ i d l m. c.behind (suc i) d (omega arith) (omega arith);
}

-- ---- the places of segments rise

at_least : {N : Type 0} (f : ℕ) (xs : List (Segment N)) → Abut f xs → (j : ℕ) (d : Segment N) → j < length xs → f ≤ (get_or xs j d).first
at_least f [] abut j d l = absurd (omega arith)
at_least f (x ∷ xs) abut zero d l = omega (arith, abut.0)
at_least f (x ∷ xs) abut (suc j) d l = omega (arith, at_least (f + length x.steps) xs abut.1 j d (omega arith))

pub rises : {N : Type 0} (f : ℕ) (xs : List (Segment N)) → Abut f xs → IsNonDecreasingBy (λ s. s.first) xs
rises f [] abut i j d le l = absurd (omega arith)
rises f (x ∷ xs) abut zero j d le l = omega (arith, abut.0, at_least f (x ∷ xs) abut j d l)
rises f (x ∷ xs) abut (suc i) zero d le l = absurd (omega arith)
rises f (x ∷ xs) abut (suc i) (suc j) d le l = rises (f + length x.steps) xs abut.1 i j d (omega arith) (omega arith)

-- what a test whether a segment begins before a place parts
pub cut_below : {N : Type 0} (xs : List (Segment N)) (t k : ℕ) →
    k ≤ length xs →
    IsPartitionPoint (λ s. ltb s.first t ≡ true) (λ s. ltb s.first t ≡ false) xs k →
    BeginBefore t xs k
cut_below xs t k bound parted =
    record { bound = bound; before = λ i d l. ltb-true _ _ (parted.0 i d (omega arith) l); behind = λ i d l m. ltb-false _ _ (parted.1 i d l m) }

-- ---- lists

pub get_left : {X : Type 0} (a b : List X) (i : ℕ) → i < length a → slice_get (a ++ b) i ≡ slice_get a i
get_left [] b i l = absurd (omega arith)
get_left (x ∷ a) b zero l = refl
get_left (x ∷ a) b (suc i) l = get_left a b i (omega arith)

pub get_right : {X : Type 0} (a b : List X) (i : ℕ) → slice_get (a ++ b) (length a + i) ≡ slice_get b i
get_right [] b i = let e : 0 + i ≡ i = omega arith in ap (slice_get b) e
get_right (x ∷ a) b i = let e : suc (length a) + i ≡ suc (length a + i) = omega arith in ap (slice_get (x ∷ (a ++ b))) e ∙ get_right a b i

-- ---- the segment that a place lies in

-- the first steps of a segment, and what comes after it, where no more segments begin before the place
within : {N : Type 0} (f : ℕ) (x : Segment N) (xs : List (Segment N)) (t : ℕ) →
    Abut f (x ∷ xs) →
    BeginBefore t (x ∷ xs) 1 →
    (xs ≡ []) ⊎ (t ≤ f + length x.steps)
within f x [] t abut cut = inl refl
within f x (y ∷ ys) t abut cut = inr (omega (arith, cut.behind 1 y, abut.1.0))

pub some_before :
    {N : Type 0} (f : ℕ) (xs : List (Segment N)) (place k : ℕ) → Abut f xs → f ≤ place → place < f + length (joined xs) → BeginBefore (place + 1) xs k → 1 ≤ k
some_before f [] place k abut le lt cut = absurd (omega arith)
some_before f (x ∷ xs) place zero abut le lt cut = absurd (omega (arith, cut.behind 0 x, abut.0))
some_before f (x ∷ xs) place (suc k) abut le lt cut = omega arith

pub record Found {N : Type 0} (f : ℕ) (xs : List (Segment N)) (place : ℕ) (part : Segment N) : Type 0 where
  pub begun : part.first ≤ place
  pub step : slice_get (joined xs) (place - f) ≡ slice_get part.steps (place - part.first)

-- the place lies in the last of the segments that begin at it or before
pub found : {N : Type 0} (f : ℕ) (xs : List (Segment N)) (place k : ℕ) (d : Segment N) →
    Abut f xs →
    f ≤ place →
    place < f + length (joined xs) →
    BeginBefore (place + 1) xs (suc k) →
    Found f xs place (get_or xs k d)
found f [] place k d abut le lt cut = absurd (omega (arith, cut.bound))
found {N} f (x ∷ xs) place zero d abut le lt cut = record {
  begun = omega (arith, abut.0);
  step = get_left x.steps (joined xs) (place - f) (inside (within f x xs (place + 1) abut cut)) ∙ ap (λ n. slice_get x.steps (place - n)) (sym abut.0);
}
  where
    inside : (xs ≡ []) ⊎ (place + 1 ≤ f + length x.steps) → place - f < length x.steps
    inside (inl none) = let l : place < f + length (x.steps ++ joined xs) = lt in
        let e : length (x.steps ++ []) ≡ length x.steps = ap length (append-nil x.steps) in
        let m : place < f + length (x.steps ++ []) = subst (λ (ys : List (Segment N)). place < f + length (x.steps ++ joined ys)) none l in
        omega (arith, e, m)
    inside (inr l) = omega arith
found f (x ∷ []) place (suc k) d abut le lt cut = absurd (omega (arith, cut.bound))
found f (x ∷ y ∷ ys) place (suc k) d abut le lt cut =
    let past : f + length x.steps ≤ place = omega (arith, cut.before 1 y (omega arith), abut.1.0) in
    let at : place - f ≡ length x.steps + (place - (f + length x.steps)) = omega (arith, past) in
    let rest =
    found (f + length x.steps) (y ∷ ys) place k d abut.1 past
    (omega (arith, lt, length-append x.steps (joined (y ∷ ys)))) (behind (place + 1) x (y ∷ ys) (suc k) cut) in
    record {
      begun = rest.begun;
      step = ap (slice_get (x.steps ++ joined (y ∷ ys))) at ∙ get_right x.steps (joined (y ∷ ys)) (place - (f + length x.steps)) ∙ rest.step;
    }

pub record FoundIn {N : Type 0} (xs : List (Segment N)) (place : ℕ) (part : Segment N) : Type 0 where
  pub begun : part.first ≤ place
  pub step : slice_get (joined xs) place ≡ slice_get part.steps (place - part.first)

-- among all segments of a trace
pub found_in : {N : Type 0} (xs : List (Segment N)) (place k : ℕ) (part : Segment N) →
    Abut 0 xs →
    place < length (joined xs) →
    BeginBefore (place + 1) xs k →
    part ≡ get_or xs (k - 1) part →
    FoundIn xs place part
found_in xs place k part abut lt cut is =
    let some = some_before 0 xs place k abut (omega arith) (omega (arith, lt)) cut in
    let e : k ≡ suc (k - 1) = omega (arith, some) in
    let at : place - 0 ≡ place = omega arith in
    let f : Found 0 xs place part =
    subst (Found 0 xs place) (sym is) (found 0 xs place (k - 1) part abut (omega arith) (omega (arith, lt)) (subst (BeginBefore (place + 1) xs) e cut)) in
    record { begun = f.begun; step = sym (ap (slice_get (joined xs)) at) ∙ f.step }

-- ---- what a cut leaves

-- the segment without the steps from this place on
abbrev pub shortened : {N : Type 0} → ℕ → Segment N → Segment N
shortened t x = record x { steps = take (t - x.first) x.steps }

pub record Left {N : Type 0} (f : ℕ) (xs left : List (Segment N)) (t : ℕ) : Type 0 where
  pub abut : Abut f left
  pub steps : joined left ≡ take (t - f) (joined xs)

pub nothing_left : {N : Type 0} (f : ℕ) (xs : List (Segment N)) (t : ℕ) → Abut f xs → BeginBefore t xs 0 → [] ≡ take (t - f) (joined xs)
nothing_left f [] t abut cut = sym (take-nil (t - f))
nothing_left f (x ∷ xs) t abut cut = let e : t - f ≡ 0 = omega (arith, cut.behind 0 x, abut.0) in rw e refl

pub left : {N : Type 0} (f : ℕ) (xs : List (Segment N)) (t k : ℕ) (d : Segment N) →
    Abut f xs →
    f ≤ t →
    BeginBefore t xs (suc k) →
    Left f xs (set (take (suc k) xs) k (shortened t (get_or xs k d))) t
left f [] t k d abut le cut = absurd (omega (arith, cut.bound))
left {N} f (x ∷ xs) t zero d abut le cut =
    record { abut = (abut.0, tt); steps = append-nil (take (t - x.first) x.steps) ∙ ap (λ n. take (t - n) x.steps) abut.0 ∙ only (within f x xs t abut cut) }
  where
    only : (xs ≡ []) ⊎ (t ≤ f + length x.steps) → take (t - f) x.steps ≡ take (t - f) (x.steps ++ joined xs)
    only (inl none) =
        subst (λ (ys : List (Segment N)). take (t - f) x.steps ≡ take (t - f) (x.steps ++ joined ys)) (sym none) (ap (take (t - f)) (sym (append-nil x.steps)))
    only (inr l) = sym (take-append-le (t - f) x.steps (joined xs) (omega arith))
left f (x ∷ []) t (suc k) d abut le cut = absurd (omega (arith, cut.bound))
left f (x ∷ y ∷ ys) t (suc k) d abut le cut =
    let past : f + length x.steps ≤ t = omega (arith, cut.before 1 y (omega arith), abut.1.0) in
    let at : t - f ≡ length x.steps + (t - (f + length x.steps)) = omega (arith, past) in
    let rest = left (f + length x.steps) (y ∷ ys) t k d abut.1 past (behind t x (y ∷ ys) (suc k) cut) in
    record {
      abut = (abut.0, rest.abut);
      steps =
          ap (λ zs. x.steps ++ zs) rest.steps
          ∙ sym (take-append-add x.steps (joined (y ∷ ys)) (t - (f + length x.steps)))
          ∙ ap (λ n. take n (x.steps ++ joined (y ∷ ys))) (sym at);
    }

pub record LeftOf {N : Type 0} (xs left : List (Segment N)) (place : ℕ) : Type 0 where
  pub abut : Abut 0 left
  pub steps : joined left ≡ take place (joined xs)

pub none_left : {N : Type 0} (xs ys : List (Segment N)) (place k : ℕ) → Abut 0 xs → BeginBefore place xs k → ys ≡ take k xs → length ys ≡ 0 → LeftOf xs ys place
none_left xs [] place k abut cut is none =
    let e : k ≡ 0 = sym (length-take-le k xs cut.bound) ∙ sym (ap length is) in
    let at : place - 0 ≡ place = omega arith in
    record { abut = tt; steps = nothing_left 0 xs place abut (subst (BeginBefore place xs) e cut) ∙ ap (λ n. take n (joined xs)) at }
none_left xs (y ∷ ys) place k abut cut is none = absurd (omega arith)

-- the last of those that begin before the place, and where it begins
pub left_of : {N : Type 0} (xs ys : List (Segment N)) (place k n : ℕ) (last : Segment N) →
    Abut 0 xs →
    BeginBefore place xs k →
    ys ≡ take k xs →
    n ≡ length ys →
    0 < n →
    last ≡ get_or ys (n - 1) last →
    (last.first ≤ place) × LeftOf xs (set ys (n - 1) (shortened place last)) place
left_of {N} xs ys place k n last abut cut is count any got =
    let all : n ≡ k = count ∙ ap length is ∙ length-take-le k xs cut.bound in
    let some : k - 1 < k = omega (arith, all, any) in
    let e : k ≡ suc (k - 1) = omega (arith, some) in
    let its : last ≡ get_or xs (k - 1) last =
    got ∙ ap (λ m. get_or ys (m - 1) last) all ∙ ap (λ zs. get_or zs (k - 1) last) is ∙ get_or-take k xs (k - 1) last some in
    let l : Left 0 xs (set (take (suc (k - 1)) xs) (k - 1) (shortened place (get_or xs (k - 1) last))) place =
    left 0 xs place (k - 1) last abut (omega arith) (subst (BeginBefore place xs) e cut) in
    let same : set ys (n - 1) (shortened place last) ≡ set (take (suc (k - 1)) xs) (k - 1) (shortened place (get_or xs (k - 1) last)) =
    ap (λ m. set ys (m - 1) (shortened place last)) all
    ∙ ap (λ zs. set zs (k - 1) (shortened place last)) (is ∙ ap (λ m. take m xs) e)
    ∙ ap (λ (s : Segment N). set (take (suc (k - 1)) xs) (k - 1) (shortened place s)) its in
    let at : place - 0 ≡ place = omega arith in
    let begins : last.first < place = subst (λ (s : Segment N). s.first < place) (sym its) (cut.before (k - 1) last some) in
    (omega (arith, begins), record { abut = subst (Abut 0) (sym same) l.abut; steps = ap joined same ∙ l.steps ∙ ap (λ m. take m (joined xs)) at })

-- ---- the end of the last segment

pub end_of : {N : Type 0} (f : ℕ) (xs : List (Segment N)) (last : Segment N) (k : ℕ) →
    Abut f xs →
    length xs ≡ suc k →
    slice_get xs k ≡ Some last →
    last.first + length last.steps ≡ f + length (joined xs)
end_of f [] last k abut l is = absurd (omega arith)
end_of f (x ∷ []) last zero abut l is =
    let e : x ≡ last = cc is in omega (arith, ap (λ (s : Segment _). s.first + length s.steps) e, abut.0, ap length (append-nil x.steps))
end_of f (x ∷ []) last (suc k) abut l is = absurd (omega arith)
end_of f (x ∷ y ∷ ys) last zero abut l is = absurd (omega arith)
end_of f (x ∷ y ∷ ys) last (suc k) abut l is =
    omega (arith, end_of (f + length x.steps) (y ∷ ys) last k abut.1 (omega arith) is, length-append x.steps (joined (y ∷ ys)))

pub ends_at : {N : Type 0} (xs : List (Segment N)) (last : Segment N) →
    Abut 0 xs →
    slice_get xs (length xs - 1) ≡ Some last →
    last.first + length last.steps ≡ length (joined xs)
ends_at [] last abut is = absurd (cc is)
ends_at (x ∷ xs) last abut is =
    let e : suc (length xs) - 1 ≡ length xs = omega arith in end_of 0 (x ∷ xs) last (length xs) abut refl (sym (ap (slice_get (x ∷ xs)) e) ∙ is) ∙ omega arith

-- one more segment, which begins where they end
pub abut_more : {N : Type 0} (f : ℕ) (xs : List (Segment N)) (x : Segment N) → Abut f xs → x.first ≡ f + length (joined xs) → Abut f (xs ++ x ∷ [])
abut_more f [] x abut is = (is ∙ omega arith, tt)
abut_more f (y ∷ ys) x abut is = (abut.0, abut_more (f + length y.steps) ys x abut.1 (is ∙ omega (arith, length-append y.steps (joined ys))))

-- ---- one more segment

pub joined_more : {N : Type 0} (xs : List (Segment N)) (x : Segment N) → joined (xs ++ x ∷ []) ≡ joined xs ++ x.steps
joined_more [] x = append-nil x.steps
joined_more (y ∷ ys) x = ap (λ zs. y.steps ++ zs) (joined_more ys x) ∙ sym (append_assoc y.steps (joined ys) x.steps)

-- the new segment has all steps from its place on
pub ends : {N : Type 0} (xs : List (Segment N)) (x : Segment N) (tail all : List (Step N)) →
    x ≡ record { first = length (joined xs); steps = tail } →
    joined xs ++ tail ≡ all →
    Ends all x
ends {N} xs x tail all its is =
    let first : x.first ≡ length (joined xs) = ap (λ (s : Segment N). s.first) its in
    let steps : x.steps ≡ tail = ap (λ (s : Segment N). s.steps) its in (
      omega (arith, first, length-append (joined xs) tail, ap length is),
      steps ∙ sym (drop-append_seam (joined xs) tail) ∙ ap (drop (length (joined xs))) is ∙ ap (λ n. drop n all) (sym first),
    )

-- ---- the first steps of two lists

pub take_both : {X : Type 0} (n m : ℕ) (a b : List X) → m ≡ n - length a → take n a ++ take m b ≡ take n (a ++ b)
take_both n m [] b is = let e : m ≡ n = is ∙ omega arith in ap (λ zs. zs ++ take m b) (take-nil n) ∙ ap (λ k. take k b) e
take_both zero m (x ∷ a) b is = let e : m ≡ 0 = is ∙ omega arith in ap (λ k. take k b) e
take_both (suc n) m (x ∷ a) b is = ap (λ zs. x ∷ zs) (take_both n m a b (is ∙ omega arith))
