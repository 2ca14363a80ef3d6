-- The opening, one more step, and all of them.
use Rattle.std.proofs.Common.{◌≡◌, ◌∙◌, ◌+◌, ◌<◌, ℕ, suc, ap, arith, get_or, inl, inr, length, subst, sym}
use Rattle.std.specs.Prelude.{Option, Some, IfSome, slice_get}
use Rattle.std.proofs.lemmas.List.{append-nil}
use Rattle.std.proofs.lemmas.Option.{slice_get-get_or}
use Rattle.protocol.specs.Lists.{IsOneOf}
use Rattle.protocol.specs.Output.{Output}
use Rattle.protocol.specs.Trace.{Step, Trace}
use Rattle.protocol.specs.declared.stimulus.StimulusOf.TheVariants.{Flush}
use Rattle.frames.specs.Frame.{Frame}
use Rattle.trace_merge.specs.Merging.{sent_within}
use Rattle.trace_merge.specs.Numbers.{AreShort}
use Rattle.trace_merge.proofs.ListLemmas.{one_of-append}
use Rattle.trace_merge.proofs.PlaceLemmas.{sent_within-suc}
use Rattle.trace_merge.proofs.stepping.tell_all.Goals as goal

pub loop-at-init : goal.loop-at-init
loop-at-init g c send one =
    c.tell_opening.ensures send
    (subst (IsOneOf send) (append-nil c.args.trace.now.opening.sends ∙ ap (λ (o : Output Frame). o.sends) (sym c.opening.ensures)) one)

-- one step more
further : (t : Trace Frame) (k : ℕ) (s : Step Frame) →
    slice_get t.steps k ≡ Some s →
    AreShort (sent_within k t) →
    AreShort s.out.sends →
    AreShort (sent_within (k + 1) t)
further t k s at before here send one =
    let next : k + 1 ≡ suc k = omega arith in
    elim (one_of-append send (sent_within k t) s.out.sends
    (subst (IsOneOf send) (sent_within-suc t k s at) (subst (λ n. IsOneOf send (sent_within n t)) next one)))
    [ inl old ↦ before send old | inr new ↦ here send new ]

pub loop-at-preserved : goal.loop-at-preserved
loop-at-preserved g c =
    let t : Trace Frame = c.args.trace.now in
    let within : c.loop-at.at < length t.steps = omega (arith, c.loop-at-test.true, c.requires) in
    let s : Step Frame = get_or t.steps c.loop-at.at (record { stimulus = Flush; out = t.opening }) in
    let at : slice_get t.steps c.loop-at.at ≡ Some s = slice_get-get_or t.steps c.loop-at.at (record { stimulus = Flush; out = t.opening }) within in
    further t c.loop-at.at s at c.loop-at.invariant (subst (λ (o : Option (Step Frame)). IfSome o (λ step. AreShort step.out.sends)) at c.tell_step.ensures)

pub returns : goal.returns
returns g c =
    let all : c.loop-at.at ≡ c.args.count = omega (arith, c.loop-at-test.false) in
    subst (λ n. AreShort (sent_within n c.args.trace.now)) all c.loop-at.invariant
