-- How much is left to be played falls.
use Rattle.std.proofs.Common.{◌≡◌, ◌+◌, ◌<◌, ℕ, List, [], ◌∷◌, ap, arith, length, set, subst, suc, zero}
use Rattle.std.specs.Prelude.{Option, Some, None, slice_get}
use Rattle.protocol.specs.Trace.{Trace}
use Rattle.frames.specs.Frame.{Frame}
use Rattle.trace_merge.specs.Merging.{left, place_at, remaining}

-- where less is left of one trace, less is left of all
pub remaining_falls : (traces : List (Trace Frame)) (places : List (Option ℕ)) (at k : ℕ) (t : Trace Frame) →
    slice_get traces at ≡ Some t →
    at < length places →
    left t (Some k) < left t (place_at places at) →
    remaining traces (set places at (Some k)) < remaining traces places
remaining_falls [] places at k t listed within less = let none : None ≡ Some t = listed in cc
remaining_falls (u ∷ traces) [] at k t listed within less = absurd (omega arith)
remaining_falls (u ∷ traces) (p ∷ places) zero k t listed within less =
    let same : Some u ≡ Some t = listed in
    let its : t ≡ u = cc in
    let fewer : left u (Some k) < left u p = subst (λ (v : Trace Frame). left v (Some k) < left v p) its less in
    add_less (left u (Some k)) (left u p) (remaining traces places) fewer
  where
    add_less : (a b c : ℕ) → a < b → a + c < b + c
    add_less a b c lt = omega arith
remaining_falls (u ∷ traces) (p ∷ places) (suc at) k t listed within less =
    let inside : at < length places = omega arith in
    add_more (left u p) (remaining traces (set places at (Some k))) (remaining traces places) (remaining_falls traces places at k t listed inside less)
  where
    add_more : (c a b : ℕ) → a < b → c + a < c + b
    add_more c a b lt = omega arith

-- less is left of a trace that is started
pub left_of_start : (t : Trace Frame) → left t (Some 0) < left t None
left_of_start t = omega arith

-- and of one that is played a step further
pub left_of_step : (t : Trace Frame) (k : ℕ) → k < length t.steps → left t (Some (suc k)) < left t (Some k)
left_of_step t k within = omega arith

-- as much is left where the places are the same
pub remaining_same : (traces : List (Trace Frame)) (places others : List (Option ℕ)) → others ≡ places → remaining traces others ≡ remaining traces places
remaining_same traces places others same = ap (remaining traces) same
