-- One trace more is played out; one is not; and all of them are.
use Rattle.std.proofs.Common.{◌≡◌, ◌∙◌, ◌<◌, ℕ, ap, arith, inl, inr, length, refl, subst, sym}
use Rattle.std.specs.Prelude.{◌⊎◌, None, Option, Some, unwrap_or}
use Rattle.std.proofs.lemmas.Bool.{false≢true}
use Rattle.std.proofs.lemmas.Option.{slice_get_read, slice_get_within}
use Rattle.protocol.specs.Trace.{Trace}
use Rattle.frames.specs.Frame.{Frame}
use Rattle.trace_merge.specs.Merging.{IsOut, place_at}
use Rattle.trace_merge.proofs.PassedLemmas.{passed_more}
use Rattle.trace_merge.proofs.stuck.first_left.Goals as goal

pub loop-at-preserved : goal.loop-at-preserved
loop-at-preserved g c =
    let trace : Trace Frame = c.index-traces-at.result in
    passed_more (λ i t. IsOut t (place_at c.args.places.now i)) c.args.traces.now c.loop-at.at trace c.index-traces-at.is c.loop-at.invariant
    (subst (λ (p : Option ℕ). IsOut trace p) c.place_at-place.ensures (c.is_out.ensures.0 c.if-not-is_out.false))

pub returns-clause-out : goal.returns-clause-out
returns-clause-out g c = λ i t listed.
    let within : i < length c.args.traces.now = slice_get_within c.args.traces.now i t listed in
    let passed : i < c.loop-at.at = omega arith in
    c.loop-at.invariant i t passed listed

-- a place that is read as 0 where there is none
stands_as : (p q : Option ℕ) (n : ℕ) → p ≡ q → n ≡ unwrap_or p 0 → (q ≡ Some n) ⊎ ((q ≡ None) × (n ≡ 0))
stands_as None q n same is = inr (sym same, is)
stands_as (Some k) q n same is = inl (sym same ∙ ap Some (sym is))

pub returns-then-not-is_out-clause-stuck : goal.returns-then-not-is_out-clause-stuck
returns-then-not-is_out-clause-stuck g c = λ held.
    let trace : Trace Frame = c.index-traces-at.result in
    record {
      places = c.args.places.now;
      held = held;
      at = c.loop-at.at;
      first = trace;
      listed = slice_get_read c.args.traces.now (length c.args.traces.now) c.loop-at.at trace refl c.loop-at-test.true c.index-traces-at.is;
      its = sym c.origin.ensures;
      stands = stands_as c.place_at-place.result (place_at c.args.places.now c.loop-at.at) c.unwrap_or.result c.place_at-place.ensures c.unwrap_or.ensures;
      left = λ out. false≢true (sym c.if-not-is_out.true ∙ c.is_out.ensures.1 (subst (λ (p : Option ℕ). IsOut trace p) (sym c.place_at-place.ensures) out));
      others = λ i t before listed. c.loop-at.invariant i t before listed;
    }
