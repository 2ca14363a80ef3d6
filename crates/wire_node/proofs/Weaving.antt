-- What becomes of a woven text at its two ends.
use Rattle.std.proofs.Common.{◌≡◌, ◌≤◌, ◌+◌, ◌-◌, ℕ, List, [], ◌∷◌, ◌++◌, length, take, drop, refl, ap, sym, ◌∙◌, append_assoc, arith}
use Rattle.std.proofs.lemmas.List.{append-nil, drop-append-le, drop-drop, drop-take, length-append}
use Rattle.std.proofs.lemmas.List.{length-drop, length-take, take-append-le, take_all, drop_at, drop_all}
use Rattle.wire_node.specs.Weave.{Inset, before_last, woven}

-- the text is part of it
pub longer : (text : List ℕ) (insets : List Inset) → length text ≤ length (woven text insets)
longer text [] = omega arith
longer text (inset ∷ insets) =
    let rest = woven (drop inset.0 text) insets in
    omega (
      arith,
      length-append (take inset.0 text) (inset.1 ++ rest),
      length-append inset.1 rest,
      length-take inset.0 text,
      length-drop inset.0 text,
      longer (drop inset.0 text) insets,
    )

-- more text
pub woven_more : (text more : List ℕ) (insets : List Inset) → before_last insets ≤ length text → woven (text ++ more) insets ≡ woven text insets ++ more
woven_more text more [] h = refl
woven_more text more (inset ∷ insets) h =
    let front : inset.0 ≤ length text = omega (arith, h) in
    let left : before_last insets ≤ length (drop inset.0 text) = omega (arith, h, length-drop inset.0 text) in
    let rest = woven (drop inset.0 text) insets in
    ap (λ t. t ++ (inset.1 ++ woven (drop inset.0 (text ++ more)) insets)) (take-append-le inset.0 text more front)
    ∙ ap (λ t. take inset.0 text ++ (inset.1 ++ woven t insets)) (drop-append-le inset.0 text more front)
    ∙ ap (λ t. take inset.0 text ++ (inset.1 ++ t)) (woven_more (drop inset.0 text) more insets left)
    ∙ ap (λ t. take inset.0 text ++ t) (sym (append_assoc inset.1 rest more))
    ∙ sym (append_assoc (take inset.0 text) (inset.1 ++ rest) more)

-- one more inset, behind all of the text
pub woven_last : (text : List ℕ) (insets : List Inset) (before : ℕ) (last : List ℕ) →
    before_last insets + before ≡ length text →
    woven text (insets ++ (before, last) ∷ []) ≡ woven text insets ++ last
woven_last text [] before last h =
    ap (λ t. t ++ (last ++ drop before text)) (take_all before text (omega (arith, h)))
    ∙ ap (λ t. text ++ (last ++ t)) (drop_all before text (omega (arith, h)))
    ∙ ap (λ t. text ++ t) (append-nil last)
woven_last text (inset ∷ insets) before last h =
    let left : before_last insets + before ≡ length (drop inset.0 text) = omega (arith, h, length-drop inset.0 text) in
    let rest = woven (drop inset.0 text) insets in
    ap (λ t. take inset.0 text ++ (inset.1 ++ t)) (woven_last (drop inset.0 text) insets before last left)
    ∙ ap (λ t. take inset.0 text ++ t) (sym (append_assoc inset.1 rest last))
    ∙ sym (append_assoc (take inset.0 text) (inset.1 ++ rest) last)

-- so much text comes before the last of one more inset
pub before_more : (insets : List Inset) (before : ℕ) (last : List ℕ) → before_last (insets ++ (before, last) ∷ []) ≡ before_last insets + before
before_more [] before last = omega arith
before_more (inset ∷ insets) before last = omega (arith, before_more insets before last)

-- less text before the first inset
pub woven_text_goes : (text : List ℕ) (n before : ℕ) (first : List ℕ) (insets : List Inset) → n ≤ before → before ≤ length text
    → woven (drop n text) ((before - n, first) ∷ insets) ≡ drop n (woven text ((before, first) ∷ insets))
woven_text_goes text n before first insets few within =
    let rest = first ++ woven (drop before text) insets in
    let parts : n + (before - n) ≡ before = omega (arith, few) in
    let size : n ≤ length (take before text) = omega (arith, length-take before text, few, within) in
    ap (λ (t : List ℕ). t ++ (first ++ woven (drop (before - n) (drop n text)) insets))
    (sym (drop-take n (before - n) text) ∙ ap (λ (m : ℕ). drop n (take m text)) parts)
    ∙ ap (λ (t : List ℕ). drop n (take before text) ++ (first ++ woven t insets)) (drop-drop (before - n) n text ∙ ap (λ (m : ℕ). drop m text) parts)
    ∙ sym (drop-append-le n (take before text) rest size)

-- less of the first inset, where no text comes before it
pub woven_inset_goes : (text : List ℕ) (n : ℕ) (first : List ℕ) (insets : List Inset) → n ≤ length first
    → woven text ((0, drop n first) ∷ insets) ≡ drop n (woven text ((0, first) ∷ insets))
woven_inset_goes text n first insets few = sym (drop-append-le n first (woven text insets) few)

-- the first inset is all gone
pub woven_inset_gone : (text : List ℕ) (n : ℕ) (first : List ℕ) (insets : List Inset) → n ≡ length first
    → woven text insets ≡ drop n (woven text ((0, first) ∷ insets))
woven_inset_gone text n first insets all = sym (drop_at first (woven text insets) n (sym all))
