-- The first slices of a woven text.
use Rattle.std.proofs.Common.{◌≡◌, ◌<◌, ◌≤◌, ℕ, List, [], ◌∷◌, ◌++◌, length, take, drop, refl, ap, sym, subst, ◌∙◌, append_assoc, arith}
use Rattle.std.specs.Prelude.{get_or}
use Rattle.std.proofs.lemmas.List.{append-nil, length-append, length-drop}
use Rattle.std.proofs.lemmas.List.Elements.{All-get_or}
use Rattle.wire_node.specs.Weave.{Inset, IsWoven, woven}
use Rattle.wire_node.proofs.Ends.{IsSome}

-- the text before the first inset is there
pub first_within : (text : List ℕ) (insets : List Inset) (tail len : ℕ) (s : Inset) →
    IsWoven text insets tail len →
    0 < length insets →
    s ≡ get_or insets 0 s →
    s.0 ≤ length text
first_within text [] tail len s w some is = absurd (omega arith)
first_within text (x ∷ xs) tail len s w some is = omega (arith, w.within, ap (λ (i : Inset). i.0) is)

-- and that before the second
pub second_within : (text : List ℕ) (insets : List Inset) (tail len : ℕ) (s t : Inset) →
    IsWoven text insets tail len →
    1 < length insets →
    s ≡ get_or insets 0 s →
    t ≡ get_or insets 1 t →
    t.0 ≤ length (drop s.0 text)
second_within text [] tail len s t w some is it = absurd (omega arith)
second_within text (x ∷ []) tail len s t w some is it = absurd (omega arith)
second_within text (x ∷ (y ∷ rest)) tail len s t w some is it =
    omega (arith, w.within, ap (λ (i : Inset). i.0) is, ap (λ (i : Inset). i.0) it, length-drop s.0 text)

no_inset : (text : List ℕ) (insets : List Inset) → length insets ≡ 0 → woven text insets ≡ text
no_inset text [] none = refl
no_inset text (x ∷ xs) none = absurd (omega arith)

one_inset : (text : List ℕ) (insets : List Inset) (s : Inset) →
    length insets ≡ 1 →
    s ≡ get_or insets 0 s →
    woven text insets ≡ take s.0 text ++ (s.1 ++ drop s.0 text)
one_inset text [] s one is = absurd (omega arith)
one_inset text (x ∷ []) s one is = ap (λ (i : Inset). take i.0 text ++ (i.1 ++ drop i.0 text)) (sym is)
one_inset text (x ∷ (y ∷ rest)) s one is = absurd (omega arith)

two_insets : (text : List ℕ) (insets : List Inset) (s t : Inset) → 1 < length insets → s ≡ get_or insets 0 s → t ≡ get_or insets 1 t
    → (rest : List ℕ) × (woven text insets ≡ take s.0 text ++ (s.1 ++ (take t.0 (drop s.0 text) ++ (t.1 ++ rest))))
two_insets text [] s t two is it = absurd (omega arith)
two_insets text (x ∷ []) s t two is it = absurd (omega arith)
two_insets text (x ∷ (y ∷ insets)) s t two is it =
    let rest = woven (drop y.0 (drop x.0 text)) insets in (
      rest,
      ap (λ (i : Inset). take i.0 text ++ (i.1 ++ (take y.0 (drop i.0 text) ++ (y.1 ++ rest)))) (sym is)
          ∙ ap (λ (i : Inset). take s.0 text ++ (s.1 ++ (take i.0 (drop s.0 text) ++ (i.1 ++ rest)))) (sym it),
    )

-- Slices come first, and where there are bytes some are in the slices.
abbrev pub ComeFirst : List ℕ → List ℕ → Type 0
ComeFirst slices all = ((rest : List ℕ) × (slices ++ rest ≡ all)) × (0 < length all → 0 < length slices)

all_first : (slices all : List ℕ) → slices ≡ all → ComeFirst slices all
all_first slices all e = (([], append-nil slices ∙ e), λ some. omega (arith, ap length e, some))

pub first_none : (text : List ℕ) (insets : List Inset) → length insets ≡ 0 → ComeFirst (text ++ []) (woven text insets)
first_none text insets none = all_first (text ++ []) (woven text insets) (append-nil text ∙ sym (no_inset text insets none))

pub first_one : (text : List ℕ) (insets : List Inset) (s : Inset) →
    length insets ≡ 1 →
    s ≡ get_or insets 0 s →
    ComeFirst (take s.0 text ++ (s.1 ++ (drop s.0 text ++ []))) (woven text insets)
first_one text insets s one is =
    all_first (take s.0 text ++ (s.1 ++ (drop s.0 text ++ []))) (woven text insets)
    (ap (λ (t : List ℕ). take s.0 text ++ (s.1 ++ t)) (append-nil (drop s.0 text)) ∙ sym (one_inset text insets s one is))

four : (a b c d r : List ℕ) → (a ++ (b ++ (c ++ (d ++ [])))) ++ r ≡ a ++ (b ++ (c ++ (d ++ r)))
four a b c d r =
    ap (λ (t : List ℕ). (a ++ (b ++ (c ++ t))) ++ r) (append-nil d)
    ∙ append_assoc a (b ++ (c ++ d)) r
    ∙ ap (λ (t : List ℕ). a ++ t) (append_assoc b (c ++ d) r ∙ ap (λ (t : List ℕ). b ++ t) (append_assoc c d r))

pub first_two : (text : List ℕ) (insets : List Inset) (tail len : ℕ) (s t : Inset) →
    IsWoven text insets tail len →
    1 < length insets →
    s ≡ get_or insets 0 s →
    t ≡ get_or insets 1 t
    → ComeFirst (take s.0 text ++ (s.1 ++ (take t.0 (drop s.0 text) ++ (t.1 ++ [])))) (woven text insets)
first_two text insets tail len s t w two is it =
    let found = two_insets text insets s t two is it in
    let a = take s.0 text in
    let c = take t.0 (drop s.0 text) in
    let some : 0 < length s.1 = omega (arith, All-get_or IsSome insets 0 s (omega arith) w.some, ap (λ (i : Inset). length i.1) is) in (
      (found.0, four a s.1 c t.1 found.0 ∙ sym found.1),
      λ _. omega (arith, some, length-append a (s.1 ++ (c ++ (t.1 ++ []))), length-append s.1 (c ++ (t.1 ++ []))),
    )

-- ---- as the slices are

pub none_first : (text : List ℕ) (insets : List Inset) (a : List ℕ) → length insets ≡ 0 → a ≡ text → ComeFirst (a ++ []) (woven text insets)
none_first text insets a none e = subst (λ (t : List ℕ). ComeFirst (t ++ []) (woven text insets)) (sym e) (first_none text insets none)

pub one_first : (text : List ℕ) (insets : List Inset) (s : Inset) (a b c : List ℕ) →
    length insets ≡ 1 →
    s ≡ get_or insets 0 s →
    a ≡ take s.0 text →
    b ≡ s.1 →
    c ≡ drop s.0 text
    → ComeFirst (a ++ (b ++ (c ++ []))) (woven text insets)
one_first text insets s a b c one is ea eb ec =
    subst (λ (t : List ℕ). ComeFirst (t ++ (b ++ (c ++ []))) (woven text insets)) (sym ea)
    (subst (λ (t : List ℕ). ComeFirst (take s.0 text ++ (t ++ (c ++ []))) (woven text insets)) (sym eb)
    (subst (λ (t : List ℕ). ComeFirst (take s.0 text ++ (s.1 ++ (t ++ []))) (woven text insets)) (sym ec) (first_one text insets s one is)))

pub two_first : (text : List ℕ) (insets : List Inset) (tail len : ℕ) (s t : Inset) (a b c d : List ℕ) →
    IsWoven text insets tail len →
    1 < length insets →
    s ≡ get_or insets 0 s →
    t ≡ get_or insets 1 t
    → a ≡ take s.0 text → b ≡ s.1 → c ≡ take t.0 (drop s.0 text) → d ≡ t.1
    → ComeFirst (a ++ (b ++ (c ++ (d ++ [])))) (woven text insets)
two_first text insets tail len s t a b c d w two is it ea eb ec ed =
    subst (λ (x : List ℕ). ComeFirst (x ++ (b ++ (c ++ (d ++ [])))) (woven text insets)) (sym ea)
    (subst (λ (x : List ℕ). ComeFirst (take s.0 text ++ (x ++ (c ++ (d ++ [])))) (woven text insets)) (sym eb)
    (subst (λ (x : List ℕ). ComeFirst (take s.0 text ++ (s.1 ++ (x ++ (d ++ [])))) (woven text insets)) (sym ec)
    (subst (λ (x : List ℕ). ComeFirst (take s.0 text ++ (s.1 ++ (take t.0 (drop s.0 text) ++ (x ++ [])))) (woven text insets))
    (sym ed) (first_two text insets tail len s t w two is it))))
