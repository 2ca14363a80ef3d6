-- What comes next is played, or must wait.
use Rattle.std.proofs.Common.{◌≡◌, ◌∙◌, ◌<◌, ◌≤◌, ℕ, suc, List, ap, arith, get_or, inl, inr, length, refl, subst, sym}
use Rattle.std.specs.Prelude.{Some, None, slice_get}
use Rattle.std.specs.Option.{option_copied}
use Rattle.std.proofs.lemmas.Option.{slice_get_cases, slice_get_read, slice_get_within}
use Rattle.node_names.specs.Limits.{Limits}
use Rattle.protocol.specs.Trace.{Trace}
use Rattle.world.specs.Group.{Logged}
use Rattle.frames.specs.Frame.{Frame}
use Rattle.node_core.specs.Plum.{Plum}
use Rattle.trace_merge.specs.Merging.{IsHeld, Merge, Stands, left, place_at, remaining}
use Rattle.trace_merge.specs.Steps.{Advances, GoesOn}
use Rattle.trace_merge.proofs.RemainingLemmas.{left_of_start, left_of_step, remaining_falls}
use Rattle.trace_merge.proofs.merging.Merging.play_one.Goals as goal

-- what goes on leaves less
advances : (traces : List (Trace Frame)) (at k : ℕ) (t : Trace Frame) (old new : Merge) →
    slice_get traces at ≡ Some t →
    length old.places ≡ length traces →
    left t (Some k) < left t (place_at old.places at) →
    GoesOn traces at k old new →
    Advances traces old new
advances traces at k t old new listed counted less on =
    let within : at < length traces = slice_get_within traces at t listed in
    record {
      limits = on.limits;
      merging = on.merging;
      falls =
          subst (λ places. remaining traces places < remaining traces old.places) (sym on.places)
          (remaining_falls traces old.places at k t listed (subst (λ n. at < n) (sym counted) within) less);
    }

-- what stands at a place of the list is the trace there
stands_there : (traces : List (Trace Frame)) (at : ℕ) (t : Trace Frame) → at < length traces → t ≡ get_or traces at t → slice_get traces at ≡ Some t
stands_there traces at t within is = slice_get_read traces (length traces) at t refl within is

-- where a step is missing the steps end
ends_there : (limits : Limits) (world : Logged Plum Frame) (t : Trace Frame) (k : ℕ) →
    Stands limits world t (Some k) →
    None ≡ slice_get t.steps k →
    k ≡ length t.steps
ends_there limits world t k stands none =
    elim (slice_get_cases t.steps k).1 [
      | inl here ↦ (let no : None ≡ Some here.0 = none ∙ here.2 in cc)
      | inr past ↦ (let low : k ≤ length t.steps = stands.0 in omega (arith, low, past.0))
    ]

pub returns-in_default-clause-played : goal.returns-in_default-clause-played
returns-in_default-clause-played g c it =
    let m : Merge = c.args.self.now in
    let t : Trace Frame = c.index-traces-at.result in
    let listed : slice_get c.args.traces.now c.args.at ≡ Some t = stands_there c.args.traces.now c.args.at t c.requires.within c.index-traces-at.is in
    let was : c.place_at.result ≡ place_at m.places c.args.at =
    c.place_at.ensures ∙ ap (λ ps. place_at ps c.args.at) (c.deref.ensures.value ∙ ap (λ (n : Merge). n.places) c.self.view_is) in
    let placed : place_at m.places c.args.at ≡ None = sym was ∙ c.in_default.is in
    advances c.args.traces.now c.args.at 0 t m c.start_ready.new.self listed c.requires.merging.counted
    (subst (λ p. left t (Some 0) < left t p) (sym placed) (left_of_start t)) (c.start_ready.ensures.played it)

pub returns-in_default-clause-waits : goal.returns-in_default-clause-waits
returns-in_default-clause-waits g c it =
    let m : Merge = c.args.self.now in
    let t : Trace Frame = c.index-traces-at.result in
    let listed : slice_get c.args.traces.now c.args.at ≡ Some t = stands_there c.args.traces.now c.args.at t c.requires.within c.index-traces-at.is in
    let was : c.place_at.result ≡ place_at m.places c.args.at =
    c.place_at.ensures ∙ ap (λ ps. place_at ps c.args.at) (c.deref.ensures.value ∙ ap (λ (n : Merge). n.places) c.self.view_is) in
    let placed : place_at m.places c.args.at ≡ None = sym was ∙ c.in_default.is in
    record {
      same = c.start_ready.ensures.same it;
      held = λ u at_u.
          let e : Some t ≡ Some u = sym listed ∙ at_u in
          let same : t ≡ u = cc in
          subst (λ (v : Trace Frame). IsHeld c.args.traces.now m.places v (place_at m.places c.args.at)) same
          (subst (IsHeld c.args.traces.now m.places t) (sym placed) (c.start_ready.ensures.waits it));
    }

pub take_next-requires-clause-listed : goal.take_next-requires-clause-listed
take_next-requires-clause-listed g c = stands_there c.args.traces.now c.args.at c.index-traces-at.result c.requires.within c.index-traces-at.is

pub returns-in-Some-step-clause-played : goal.returns-in-Some-step-clause-played
returns-in-Some-step-clause-played g c it =
    let m : Merge = c.args.self.now in
    let t : Trace Frame = c.index-traces-at.result in
    let listed : slice_get c.args.traces.now c.args.at ≡ Some t = stands_there c.args.traces.now c.args.at t c.requires.within c.index-traces-at.is in
    let was : c.place_at.result ≡ place_at m.places c.args.at =
    c.place_at.ensures ∙ ap (λ ps. place_at ps c.args.at) (c.deref.ensures.value ∙ ap (λ (n : Merge). n.places) c.self.view_is) in
    let placed : place_at m.places c.args.at ≡ Some c.in-Some.place = sym was ∙ c.in-Some.is in
    let step : slice_get t.steps c.in-Some.place ≡ Some c.in-Some-step.step.now = sym c.step.ensures ∙ ap option_copied c.in-Some-step.is in
    advances c.args.traces.now c.args.at (suc c.in-Some.place) t m c.take_next.new.self listed c.requires.merging.counted
    (subst (λ p. left t (Some (suc c.in-Some.place)) < left t p) (sym placed)
    (left_of_step t c.in-Some.place (slice_get_within t.steps c.in-Some.place c.in-Some-step.step.now step)))
    (c.take_next.ensures.played it)

pub returns-in-Some-step-clause-waits : goal.returns-in-Some-step-clause-waits
returns-in-Some-step-clause-waits g c it =
    let m : Merge = c.args.self.now in
    let t : Trace Frame = c.index-traces-at.result in
    let listed : slice_get c.args.traces.now c.args.at ≡ Some t = stands_there c.args.traces.now c.args.at t c.requires.within c.index-traces-at.is in
    let was : c.place_at.result ≡ place_at m.places c.args.at =
    c.place_at.ensures ∙ ap (λ ps. place_at ps c.args.at) (c.deref.ensures.value ∙ ap (λ (n : Merge). n.places) c.self.view_is) in
    let placed : place_at m.places c.args.at ≡ Some c.in-Some.place = sym was ∙ c.in-Some.is in
    let step : slice_get t.steps c.in-Some.place ≡ Some c.in-Some-step.step.now = sym c.step.ensures ∙ ap option_copied c.in-Some-step.is in
    record {
      same = c.take_next.ensures.same it;
      held = λ u at_u.
          let e : Some t ≡ Some u = sym listed ∙ at_u in
          let same : t ≡ u = cc in
          subst (λ (v : Trace Frame). IsHeld c.args.traces.now m.places v (place_at m.places c.args.at)) same
          (subst (IsHeld c.args.traces.now m.places t) (sym placed) (inr (c.in-Some-step.step.now, step, c.take_next.ensures.waits it)));
    }

pub returns-in-None-clause-waits : goal.returns-in-None-clause-waits
returns-in-None-clause-waits g c it =
    let m : Merge = c.args.self.now in
    let t : Trace Frame = c.index-traces-at.result in
    let listed : slice_get c.args.traces.now c.args.at ≡ Some t = stands_there c.args.traces.now c.args.at t c.requires.within c.index-traces-at.is in
    let was : c.place_at.result ≡ place_at m.places c.args.at =
    c.place_at.ensures ∙ ap (λ ps. place_at ps c.args.at) (c.deref.ensures.value ∙ ap (λ (n : Merge). n.places) c.self.view_is) in
    let placed : place_at m.places c.args.at ≡ Some c.in-Some.place = sym was ∙ c.in-Some.is in
    let stood : Stands m.world.limits m.world t (Some c.in-Some.place) =
    subst (Stands m.world.limits m.world t) placed (c.requires.merging.stands c.args.at t listed) in
    let end : c.in-Some.place ≡ length t.steps =
    ends_there m.world.limits m.world t c.in-Some.place stood (sym (ap option_copied c.in-None.is) ∙ c.step.ensures) in
    record {
      same = refl;
      held = λ u at_u.
          let e : Some t ≡ Some u = sym listed ∙ at_u in
          let same : t ≡ u = cc in
          subst (λ (v : Trace Frame). IsHeld c.args.traces.now m.places v (place_at m.places c.args.at)) same
          (subst (IsHeld c.args.traces.now m.places t) (sym placed) (inl end));
    }
