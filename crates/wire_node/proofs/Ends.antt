-- What is put to the ends of a woven text, and what goes from them.
use Rattle.std.proofs.Common.{◌≡◌, ◌<◌, ◌≤◌, ◌+◌, ◌-◌, ℕ, List, [], ◌∷◌, ◌++◌, length, take, drop, ap, sym, subst, ◌∙◌, append_assoc, arith}
use Rattle.std.specs.Prelude.{All, Some, min}
use Rattle.std.proofs.Math.Nat.{min-le_left, min-le_right}
use Rattle.std.proofs.lemmas.List.{length-append, length-drop, take-append-drop, take_at}
use Rattle.std.proofs.lemmas.List.Elements.{All-cons, All-head, All-nil, All-pop, All-push, All-same, All-tail}
use Rattle.wire_node.specs.Weave.{Inset, IsWoven, before_last, woven}
use Rattle.wire_node.proofs.Weaving.{before_more, woven_inset_goes, woven_inset_gone, woven_last, woven_more, woven_text_goes}

abbrev pub IsSome : Inset → Type 0
IsSome inset = 0 < length inset.1

-- What was woven, and is woven now.
abbrev pub Leads : (List ℕ) → (List Inset) → ℕ → ℕ → List ℕ → Type 0
Leads text insets tail len now = IsWoven text insets tail len × (woven text insets ≡ now)

-- the lesser of two numbers
pub least : (a b c : ℕ) → c ≡ min a b → (c ≤ a) × (c ≤ b)
least a b c e = (subst (λ n. n ≤ a) (sym e) (min-le_left a b), subst (λ n. n ≤ b) (sym e) (min-le_right a b))

-- a text at the end
pub copied : (text more new : List ℕ) (insets : List Inset) (tail len tail' len' : ℕ) →
    IsWoven text insets tail len →
    new ≡ text ++ more →
    tail' ≡ tail + length more →
    len' ≡ len + length more
    → Leads new insets tail' len' (woven text insets ++ more)
copied text more new insets tail len tail' len' w e t l =
    let same : woven new insets ≡ woven text insets ++ more = ap (λ s. woven s insets) e ∙ woven_more text more insets (omega (arith, w.within)) in (
      record {
        within = omega (arith, ap length e, length-append text more, w.within, t);
        some = w.some;
        whole = omega (arith, ap length same, length-append (woven text insets) more, w.whole, l);
      },
      same,
    )

-- an inset at the end
pub set_in : (text : List ℕ) (insets new : List Inset) (tail len len' : ℕ) (more : List ℕ) →
    IsWoven text insets tail len →
    new ≡ insets ++ (tail, more) ∷ [] →
    0 < length more →
    len' ≡ len + length more
    → Leads text new 0 len' (woven text insets ++ more)
set_in text insets new tail len len' more w e h l =
    let same : woven text new ≡ woven text insets ++ more = ap (woven text) e ∙ woven_last text insets tail more w.within in (
      record {
        within = omega (arith, ap before_last e, before_more insets tail more, w.within);
        some = All-same IsSome new (insets ++ (tail, more) ∷ []) e (All-push IsSome insets (tail, more) w.some h);
        whole = omega (arith, ap length same, length-append (woven text insets) more, w.whole, l);
      },
      same,
    )

-- a list without its last part
front_of : (all front back : List ℕ) (cut : ℕ) → all ≡ front ++ back → length back ≡ cut → front ≡ take (length all - cut) all
front_of all front back cut e n =
    let size : length front ≡ length all - cut = omega (arith, ap length e, length-append front back, n) in
    sym (take_at front back (length all - cut) size) ∙ ap (take (length all - cut)) (sym e)

-- the last bytes of a list
back_of : (bytes new : List ℕ) (cut : ℕ) → new ≡ take (length bytes - cut) bytes → bytes ≡ new ++ drop (length bytes - cut) bytes
back_of bytes new cut e = sym (take-append-drop (length bytes - cut) bytes) ∙ ap (λ t. t ++ drop (length bytes - cut) bytes) (sym e)

-- text goes from the end
pub text_cut : (text new : List ℕ) (insets : List Inset) (tail len cut at : ℕ) →
    IsWoven text insets tail len →
    cut ≤ tail →
    at ≡ length text →
    new ≡ take (at - cut) text
    → Leads new insets (tail - cut) (len - cut) (take (length (woven text insets) - cut) (woven text insets))
text_cut text new insets tail len cut at w few here taken =
    let e : new ≡ take (length text - cut) text = taken ∙ ap (λ n. take (n - cut) text) here in
    let back = drop (length text - cut) text in
    let size : length back ≡ cut = omega (arith, length-drop (length text - cut) text, w.within, few) in
    let long : length new ≡ length text - cut = omega (arith, ap length (back_of text new cut e), length-append new back, size) in
    let whole : woven text insets ≡ woven new insets ++ back =
    ap (λ t. woven t insets) (back_of text new cut e) ∙ woven_more new back insets (omega (arith, w.within, few, long)) in (
      record {
        within = omega (arith, w.within, few, long);
        some = w.some;
        whole = omega (arith, ap length whole, length-append (woven new insets) back, size, w.whole);
      },
      front_of (woven text insets) (woven new insets) back cut whole size,
    )

-- a part of the last inset goes
pub inset_cut : (text : List ℕ) (insets rest new : List Inset) (before : ℕ) (last last' : List ℕ) (tail len cut at : ℕ) →
    IsWoven text insets tail len →
    tail ≡ 0 →
    insets ≡ rest ++ (before, last) ∷ [] →
    cut < length last
    → at ≡ length last → last' ≡ take (at - cut) last → new ≡ rest ++ (before, last') ∷ []
    → Leads text new tail (len - cut) (take (length (woven text insets) - cut) (woven text insets))
inset_cut text insets rest new before last last' tail len cut at w none e part here taken n =
    let l : last' ≡ take (length last - cut) last = taken ∙ ap (λ n. take (n - cut) last) here in
    let back = drop (length last - cut) last in
    let size : length back ≡ cut = omega (arith, length-drop (length last - cut) last, part) in
    let long : length last' ≡ length last - cut = omega (arith, ap length (back_of last last' cut l), length-append last' back, size) in
    let place : before_last rest + before ≡ length text = omega (arith, w.within, none, ap before_last e, before_more rest before last) in
    let whole : woven text insets ≡ woven text new ++ back =
    ap (woven text) e ∙ woven_last text rest before last place ∙ ap (λ t. woven text rest ++ t) (back_of last last' cut l)
    ∙ sym (append_assoc (woven text rest) last' back) ∙ ap (λ t. t ++ back) (sym (ap (woven text) n ∙ woven_last text rest before last' place)) in (
      record {
        within = omega (arith, place, none, ap before_last n, before_more rest before last');
        some =
            All-same IsSome new (rest ++ (before, last') ∷ []) n
            (All-push IsSome rest (before, last') (All-pop IsSome insets rest (Some (before, last)) e w.some).0 (omega (arith, long, part)));
        whole = omega (arith, ap length whole, length-append (woven text new) back, size, w.whole);
      },
      front_of (woven text insets) (woven text new) back cut whole size,
    )

-- the last inset goes
pub inset_gone : (text : List ℕ) (insets rest : List Inset) (before : ℕ) (last : List ℕ) (tail len cut : ℕ) →
    IsWoven text insets tail len →
    tail ≡ 0 →
    insets ≡ rest ++ (before, last) ∷ [] →
    cut ≡ length last
    → Leads text rest before (len - cut) (take (length (woven text insets) - cut) (woven text insets))
inset_gone text insets rest before last tail len cut w none e all =
    let place : before_last rest + before ≡ length text = omega (arith, w.within, none, ap before_last e, before_more rest before last) in
    let whole : woven text insets ≡ woven text rest ++ last = ap (woven text) e ∙ woven_last text rest before last place in (
      record {
        within = place;
        some = (All-pop IsSome insets rest (Some (before, last)) e w.some).0;
        whole = omega (arith, ap length whole, length-append (woven text rest) last, all, w.whole);
      },
      front_of (woven text insets) (woven text rest) last cut whole (sym all),
    )

-- with no inset and no text behind the last nothing is left
pub none_left : (text : List ℕ) (insets : List Inset) (tail len : ℕ) → IsWoven text insets tail len → insets ≡ [] → tail ≡ 0 → length (woven text insets) ≡ 0
none_left text insets tail len w e none =
    omega (arith, ap (λ i. length (woven text i)) e, ap before_last e, w.within, none)

-- text goes from the front, where there are no insets
pub text_goes :
    (text new : List ℕ) (insets left : List Inset) (tail len n : ℕ) → IsWoven text insets tail len → insets ≡ [] → left ≡ [] → n ≤ tail → new ≡ drop n text
    → Leads new left (tail - n) (len - n) (drop n (woven text insets))
text_goes text new insets left tail len n w e f few d = (
  record {
    within = omega (arith, ap before_last e, ap before_last f, w.within, ap length d, length-drop n text, few);
    some = All-same IsSome left [] f (All-nil IsSome);
    whole = omega (arith, ap (λ i. length (woven new i)) f, ap (λ i. length (woven text i)) e, ap length d, length-drop n text, w.whole);
  },
  ap (woven new) f ∙ d ∙ ap (λ i. drop n (woven text i)) (sym e),
)

-- text before the first inset goes
pub text_before_goes : (text new : List ℕ) (insets rest left : List Inset) (before : ℕ) (first : List ℕ) (tail len n : ℕ) →
    IsWoven text insets tail len →
    insets ≡ (before, first) ∷ rest →
    n ≤ before
    → new ≡ drop n text → left ≡ (before - n, first) ∷ rest
    → Leads new left tail (len - n) (drop n (woven text insets))
text_before_goes text new insets rest left before first tail len n w e few d l =
    let within : before ≤ length text = omega (arith, w.within, ap before_last e) in
    let same : woven new left ≡ drop n (woven text insets) =
    ap (λ t. woven t left) d ∙ ap (woven (drop n text)) l ∙ woven_text_goes text n before first rest few within ∙ ap (λ i. drop n (woven text i)) (sym e) in
    let all : All IsSome ((before, first) ∷ rest) = All-same IsSome ((before, first) ∷ rest) insets (sym e) w.some in (
      record {
        within = omega (arith, w.within, ap before_last e, ap before_last l, ap length d, length-drop n text, few);
        some =
            All-same IsSome left ((before - n, first) ∷ rest) l
            (All-cons IsSome (before - n, first) rest (All-head IsSome (before, first) rest all) (All-tail IsSome (before, first) rest all));
        whole = omega (arith, ap length same, length-drop n (woven text insets), w.whole);
      },
      same,
    )

-- a part of the first inset goes
pub inset_goes : (text : List ℕ) (insets rest left : List Inset) (before : ℕ) (first first' : List ℕ) (tail len n : ℕ) →
    IsWoven text insets tail len →
    insets ≡ (before, first) ∷ rest →
    before ≡ 0 →
    n < length first
    → first' ≡ drop n first → left ≡ (0, first') ∷ rest
    → Leads text left tail (len - n) (drop n (woven text insets))
inset_goes text insets rest left before first first' tail len n w e zero few d l =
    let at : insets ≡ (0, first) ∷ rest = e ∙ ap (λ b. (b, first) ∷ rest) zero in
    let there : left ≡ (0, drop n first) ∷ rest = l ∙ ap (λ f. (0, f) ∷ rest) d in
    let same : woven text left ≡ drop n (woven text insets) =
    ap (woven text) there ∙ woven_inset_goes text n first rest (omega (arith, few)) ∙ ap (λ i. drop n (woven text i)) (sym at) in
    let all : All IsSome ((0, first) ∷ rest) = All-same IsSome ((0, first) ∷ rest) insets (sym at) w.some in
    let some : 0 < length (drop n first) = omega (arith, length-drop n first, few) in (
      record {
        within = omega (arith, w.within, ap before_last at, ap before_last there);
        some = All-same IsSome left ((0, drop n first) ∷ rest) there (All-cons IsSome (0, drop n first) rest some (All-tail IsSome (0, first) rest all));
        whole = omega (arith, ap length same, length-drop n (woven text insets), w.whole);
      },
      same,
    )

-- the first inset goes
pub inset_went : (text : List ℕ) (insets rest : List Inset) (before : ℕ) (first : List ℕ) (tail len n : ℕ) →
    IsWoven text insets tail len →
    insets ≡ (before, first) ∷ rest →
    before ≡ 0 →
    n ≡ length first
    → Leads text rest tail (len - n) (drop n (woven text insets))
inset_went text insets rest before first tail len n w e zero all' =
    let at : insets ≡ (0, first) ∷ rest = e ∙ ap (λ b. (b, first) ∷ rest) zero in
    let same : woven text rest ≡ drop n (woven text insets) = woven_inset_gone text n first rest all' ∙ ap (λ i. drop n (woven text i)) (sym at) in
    let all : All IsSome ((0, first) ∷ rest) = All-same IsSome ((0, first) ∷ rest) insets (sym at) w.some in (
      record {
        within = omega (arith, w.within, ap before_last at);
        some = All-tail IsSome (0, first) rest all;
        whole = omega (arith, ap length same, length-drop n (woven text insets), w.whole);
      },
      same,
    )
