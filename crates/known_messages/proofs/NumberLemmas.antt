-- Numbers from 1 on, and those past a gap.
use Rattle.std.proofs.Common.{◌≡◌, ◌∙◌, ℕ, zero, suc, ◌+◌, ◌^◌, ◌<◌, ◌≤◌, ◌||◌, Bool, true, false}
use Rattle.std.proofs.Common.{List, [], ◌∷◌, ◌++◌, length, get_or, ap, refl, arith, append_assoc}
use Rattle.std.specs.Prelude.{nat_eq, insert}
use Rattle.std.specs.Cmp.{unsigned_Decides}
use Rattle.std.specs.List.{list_any, range_with_len}
use Rattle.known_messages.specs.Span.{Ascends, counted}

-- one number more
pub range_with_len-suc : (a n : ℕ) → range_with_len a (suc n) ≡ range_with_len a n ++ (a + n) ∷ []
range_with_len-suc a zero = let e : a ≡ a + 0 = omega arith in ap (λ (x : ℕ). x ∷ []) e
range_with_len-suc a (suc n) =
    let e : (a + 1) + n ≡ a + suc n = omega arith in ap (λ xs. a ∷ xs) (range_with_len-suc (a + 1) n ∙ ap (λ x. range_with_len (a + 1) n ++ x ∷ []) e)

-- the number behind the unbroken ones is counted with them
pub counted-next : (unbroken next : ℕ) (rest : List ℕ) → next ≡ unbroken + 1 → counted next rest ≡ range_with_len 1 unbroken ++ next ∷ rest
counted-next unbroken next rest is =
    let as_suc : next ≡ suc unbroken = omega (arith, is) in
    let last : 1 + unbroken ≡ next = omega (arith, is) in
    ap (λ n. range_with_len 1 n ++ rest) as_suc
    ∙ ap (λ xs. xs ++ rest) (range_with_len-suc 1 unbroken)
    ∙ append_assoc (range_with_len 1 unbroken) ((1 + unbroken) ∷ []) rest
    ∙ ap (λ n. range_with_len 1 unbroken ++ n ∷ rest) last

-- ---- numbers that ascend

pub Ascends-weaker : (low lower : ℕ) (ns : List ℕ) → lower ≤ low → Ascends low ns → Ascends lower ns
Ascends-weaker low lower [] le up = tt
Ascends-weaker low lower (n ∷ ns) le up = (omega (arith, le, up.0), up.1, up.2)

-- each is greater than any number that the first is greater than
pub above : (low : ℕ) (ns : List ℕ) (i : ℕ) → Ascends low ns → i < length ns → low < get_or ns i 0
above low [] i up within = absurd (omega (arith, within))
above low (n ∷ ns) zero up within = up.0
above low (n ∷ ns) (suc i) up within = omega (arith, up.0, above n ns i up.2 (omega (arith, within)))

pub rises : (low : ℕ) (ns : List ℕ) → Ascends low ns → (i j : ℕ) → i ≤ j → j < length ns → get_or ns i 0 ≤ get_or ns j 0
rises low [] up i j le within = absurd (omega (arith, within))
rises low (n ∷ ns) up zero zero le within = omega arith
rises low (n ∷ ns) up zero (suc j) le within = omega (arith, above n ns j up.2 (omega (arith, within)))
rises low (n ∷ ns) up (suc i) zero le within = absurd (omega (arith, le))
rises low (n ∷ ns) up (suc i) (suc j) le within = rises n ns up.2 i j (omega (arith, le)) (omega (arith, within))

-- one more number, between the lesser and the greater ones
pub Ascends-insert : (low n : ℕ) (ns : List ℕ) (i : ℕ) →
    n < 2 ^ 64 →
    low < n →
    i ≤ length ns →
    ((k : ℕ) → k < i → get_or ns k 0 < n) →
    ((k : ℕ) → i ≤ k → k < length ns → n < get_or ns k 0) →
    Ascends low ns →
    Ascends low (insert ns i n)
Ascends-insert low n [] zero fits greater within before after up = (greater, fits, tt)
Ascends-insert low n [] (suc i) fits greater within before after up = absurd (omega (arith, within))
Ascends-insert low n (m ∷ ms) zero fits greater within before after up = (greater, fits, (after 0 (omega arith) (omega arith), up.1, up.2))
Ascends-insert low n (m ∷ ms) (suc i) fits greater within before after up = (
  up.0,
  up.1,
  Ascends-insert m n ms i fits (before 0 (omega arith)) (omega (arith, within))
      (λ k h. before (suc k) (omega (arith, h))) (λ k h j. after (suc k) (omega (arith, h)) (omega (arith, j))) up.2,
)

-- ---- which numbers are there

or_true : (b : Bool) → (b || true) ≡ true
or_true true = refl
or_true false = refl

pub any_at : (ns : List ℕ) (i : ℕ) → i < length ns → list_any (nat_eq (get_or ns i 0)) ns ≡ true
any_at [] i within = absurd (omega (arith, within))
any_at (n ∷ ns) zero within = ap (λ b. b || list_any (nat_eq n) ns) ((unsigned_Decides n n).1 refl)
any_at (n ∷ ns) (suc i) within = ap (λ b. nat_eq (get_or ns i 0) n || b) (any_at ns i (omega (arith, within))) ∙ or_true (nat_eq (get_or ns i 0) n)

-- inserting a number that is already there changes nothing
pub any_again : (n : ℕ) (ns : List ℕ) → list_any (nat_eq n) ns ≡ true → (m : ℕ) → list_any (nat_eq m) ns ≡ (nat_eq m n || list_any (nat_eq m) ns)
any_again n ns there m = go (nat_eq m n) refl
  where
    go : (b : Bool) → nat_eq m n ≡ b → list_any (nat_eq m) ns ≡ (b || list_any (nat_eq m) ns)
    go true same = ap (λ k. list_any (nat_eq k) ns) ((unsigned_Decides m n).0 same) ∙ there
    go false other = refl
