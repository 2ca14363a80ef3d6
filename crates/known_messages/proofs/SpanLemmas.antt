-- Which numbers a span has.
use Rattle.std.proofs.Common.{◌≡◌, ◌∙◌, ℕ, zero, suc, ◌+◌, ◌-◌, ◌^◌, ◌<◌, ◌≤◌, ◌||◌, Bool, true, false, List, [], ◌∷◌, sym, ap, refl, arith}
use Rattle.std.specs.Prelude.{nat_eq}
use Rattle.std.specs.Cmp.{unsigned_Decides}
use Rattle.std.specs.List.{list_any, range_with_len}
use Rattle.std.proofs.lemmas.Bool.{false≢true}
use Rattle.std.proofs.lemmas.List.Folds.{list_any-append}
use Rattle.known_messages.specs.Span.{Span, Ascends, counted, numbers, has_number}
use Rattle.known_messages.proofs.NumberLemmas.{any_again, counted-next}

-- two numbers that differ
pub differ : (m n : ℕ) → (m ≡ n → ⊥) → nat_eq m n ≡ false
differ m n apart = go (nat_eq m n) refl
  where
    go : (b : Bool) → nat_eq m n ≡ b → b ≡ false
    go false is = refl
    go true is = absurd (apart ((unsigned_Decides m n).0 is))

-- ---- the numbers of a range

pub any_before : (m a n : ℕ) → m < a → list_any (nat_eq m) (range_with_len a n) ≡ false
any_before m a zero before = refl
any_before m a (suc n) before =
    ap (λ b. b || list_any (nat_eq m) (range_with_len (a + 1) n)) (differ m a (λ e. omega (arith, before, e)))
    ∙ any_before m (a + 1) n (omega (arith, before))

pub any_within : (m a n : ℕ) → a ≤ m → m < a + n → list_any (nat_eq m) (range_with_len a n) ≡ true
any_within m a zero from to = absurd (omega (arith, from, to))
any_within m a (suc n) from to = go (nat_eq m a) refl (any_within m (a + 1) n)
  where
    go : (b : Bool) →
        nat_eq m a ≡ b →
        (a + 1 ≤ m → m < a + 1 + n → list_any (nat_eq m) (range_with_len (a + 1) n) ≡ true) →
        (b || list_any (nat_eq m) (range_with_len (a + 1) n)) ≡ true
    go true is later = refl
    go false is later = later (beyond (λ e. false≢true (sym is ∙ (unsigned_Decides m a).1 e))) (omega (arith, to))
      where
        beyond : (m ≡ a → ⊥) → a + 1 ≤ m
        beyond apart = omega (arith, from, apart)

pub any_after : (m a n : ℕ) → a + n ≤ m → list_any (nat_eq m) (range_with_len a n) ≡ false
any_after m a zero after = refl
any_after m a (suc n) after =
    ap (λ b. b || list_any (nat_eq m) (range_with_len (a + 1) n)) (differ m a (λ e. omega (arith, after, e)))
    ∙ any_after m (a + 1) n (omega (arith, after))

-- ---- numbers past a gap

pub none_below : (m low : ℕ) (ns : List ℕ) → m ≤ low → Ascends low ns → list_any (nat_eq m) ns ≡ false
none_below m low [] le up = refl
none_below m low (n ∷ ns) le up =
    ap (λ b. b || list_any (nat_eq m) ns) (differ m n (λ e. omega (arith, le, up.0, e)))
    ∙ none_below m n ns (omega (arith, le, up.0)) up.2

-- ---- the numbers of a span

any-counted : (m unbroken : ℕ) (past : List ℕ) →
    list_any (nat_eq m) (counted unbroken past) ≡ (list_any (nat_eq m) (range_with_len 1 unbroken) || list_any (nat_eq m) past)
any-counted m unbroken past = list_any-append (nat_eq m) (range_with_len 1 unbroken) past

-- 0 is there if it is marked
pub has-zero : (span : Span) → Ascends (span.unbroken + 1) span.past → has_number span 0 ≡ span.zero
has-zero span up = go span.zero
  where
    none : list_any (nat_eq 0) (counted span.unbroken span.past) ≡ false
    none =
        any-counted 0 span.unbroken span.past
        ∙ ap (λ b. b || list_any (nat_eq 0) span.past) (any_before 0 1 span.unbroken (omega arith))
        ∙ none_below 0 (span.unbroken + 1) span.past (omega arith) up

    go : (b : Bool) → has_number (record span { zero = b }) 0 ≡ b
    go true = ap (λ b. b || list_any (nat_eq 0) (counted span.unbroken span.past)) ((unsigned_Decides 0 0).1 refl)
    go false = none

-- another number is there if it is among the unbroken ones or past the gap
pub has-positive : (span : Span) (m : ℕ) → 0 < m → has_number span m ≡ list_any (nat_eq m) (counted span.unbroken span.past)
has-positive span m positive = go span.zero
  where
    go : (b : Bool) → has_number (record span { zero = b }) m ≡ list_any (nat_eq m) (counted span.unbroken span.past)
    go true = ap (λ b. b || list_any (nat_eq m) (counted span.unbroken span.past)) (differ m 0 (λ e. omega (arith, positive, e)))
    go false = refl

pub has_unbroken : (span : Span) (m : ℕ) → 0 < m → m ≤ span.unbroken → has_number span m ≡ true
has_unbroken span m positive le =
    has-positive span m positive
    ∙ any-counted m span.unbroken span.past
    ∙ ap (λ b. b || list_any (nat_eq m) span.past) (any_within m 1 span.unbroken (omega (arith, positive)) (omega (arith, le)))

pub has-past : (span : Span) (m : ℕ) → span.unbroken < m → has_number span m ≡ list_any (nat_eq m) span.past
has-past span m past =
    has-positive span m (omega (arith, past))
    ∙ any-counted m span.unbroken span.past
    ∙ ap (λ b. b || list_any (nat_eq m) span.past) (any_after m 1 span.unbroken (omega (arith, past)))

-- ---- one number more

or_swap : (a b c : Bool) → (a || (b || c)) ≡ (b || (a || c))
or_swap true true c = refl
or_swap true false c = refl
or_swap false b c = refl

-- where one more number is counted, one more is known
pub has-more : (zero : Bool) (unbroken longer : ℕ) (past others : List ℕ) (room left n : ℕ) →
    ((m : ℕ) → list_any (nat_eq m) (counted longer others) ≡ (nat_eq m n || list_any (nat_eq m) (counted unbroken past))) →
    (m : ℕ) →
    has_number (record { zero = zero; unbroken = longer; past = others; room = left }) m
    ≡ (nat_eq m n || has_number (record { zero = zero; unbroken = unbroken; past = past; room = room }) m)
has-more true unbroken longer past others room left n more m =
    ap (λ b. nat_eq m 0 || b) (more m) ∙ or_swap (nat_eq m 0) (nat_eq m n) (list_any (nat_eq m) (counted unbroken past))
has-more false unbroken longer past others room left n more m = more m

-- the next number, and what follows it, extend the unbroken ones
pub extended : (unbroken longer n : ℕ) (past others : List ℕ) →
    n ≡ unbroken + 1 →
    counted longer others ≡ counted n past →
    (m : ℕ) →
    list_any (nat_eq m) (counted longer others) ≡ (nat_eq m n || list_any (nat_eq m) (counted unbroken past))
extended unbroken longer n past others next same m =
    ap (list_any (nat_eq m)) (same ∙ counted-next unbroken n past next)
    ∙ list_any-append (nat_eq m) (range_with_len 1 unbroken) (n ∷ past)
    ∙ or_swap (list_any (nat_eq m) (range_with_len 1 unbroken)) (nat_eq m n) (list_any (nat_eq m) past)
    ∙ ap (λ b. nat_eq m n || b) (sym (any-counted m unbroken past))

-- inserting a number that is already known changes nothing
pub known_again : (span : Span) (n : ℕ) → has_number span n ≡ true → (m : ℕ) → has_number span m ≡ (nat_eq m n || has_number span m)
known_again span n known = any_again n (numbers span) known

-- a new span has no number
pub has-none : (span : Span) (room n : ℕ) → span.zero ≡ false → span.unbroken ≡ 0 → span.past ≡ [] → has_number (record span { room = room }) n ≡ false
has-none span room n is_zero is_unbroken is_past = λ i. has_number (record { zero = is_zero i; unbroken = is_unbroken i; past = is_past i; room = room }) n

-- no number follows the greatest one of 64 bits
pub none_last : (unbroken : ℕ) (past : List ℕ) → Ascends (unbroken + 1) past → unbroken ≡ 2 ^ 64 - 1 → past ≡ []
none_last unbroken [] up last = refl
none_last unbroken (n ∷ ns) up last = absurd (omega (arith, up.0, up.1, last))
