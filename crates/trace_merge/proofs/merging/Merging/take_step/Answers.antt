-- A step that is refused or comes out otherwise is none; any other is one.
use Rattle.std.proofs.Common.{◌≡◌, ◌∙◌, ◌<◌, List, ap, arith, inl, inr, length, set, subst, suc, sym}
use Rattle.std.specs.Prelude.{Some, drop, map}
use Rattle.std.proofs.lemmas.Bool.{false≢true}
use Rattle.std.proofs.lemmas.Option.{slice_get_within}
use Rattle.world.specs.declared.packet.Packet.{Packet}
use Rattle.frames.specs.Frame.{Frame}
use Rattle.trace_merge.specs.Merging.{IsMerging, Merge, Plays, Refuses, sent_within}
use Rattle.trace_merge.specs.Numbers.{AreShort}
use Rattle.trace_merge.specs.Projection.{said}
use Rattle.trace_merge.proofs.RefusalLemmas.{fault_is, no_run}
use Rattle.trace_merge.proofs.StepLemmas.{steps_on}
use Rattle.trace_merge.proofs.StepRefusals.{replayed, step_differs, step_refused, told_by}
use Rattle.trace_merge.proofs.merging.Merging.take_step.Goals as goal

pub after-next-requires : goal.after-next-requires
after-next-requires g c = slice_get_within c.args.trace.now.steps c.args.place c.args.step.now c.requires.taken

pub tell_all-requires : goal.tell_all-requires
tell_all-requires g c =
    let within : c.args.place < length c.args.trace.now.steps = slice_get_within c.args.trace.now.steps c.args.place c.args.step.now c.requires.taken in
    let next : c.after-next.result ≡ suc c.args.place = c.after-next.ensures in
    omega (arith, within, next)

pub returns-in-Err-clause-err : goal.returns-in-Err-clause-err
returns-in-Err-clause-err g c =
    let limits = c.args.self.now.world.limits in
    let short : AreShort (sent_within (suc c.args.place) c.args.trace.now) =
    subst (λ n. AreShort (sent_within n c.args.trace.now)) c.after-next.ensures c.tell_all.ensures in
    subst (λ f. Refuses limits c.args.traces.now f) (sym c.fault_of.ensures)
    (fault_is limits c.args.traces.now c.origin-origin.result c.args.place c.in-Err.error c.requires.distinct
    (λ other. no_run limits c.args.traces.now c.args.at c.args.place c.args.trace.now c.origin-origin.result c.requires.listed c.origin-origin.ensures
    (inr (replayed limits c.args.traces.now c.args.self.now c.requires.merging c.args.at c.args.place
    c.args.trace.now c.args.step.now c.requires.listed c.requires.placed c.requires.taken))
    (step_refused limits c.args.traces.now c.args.self.now c.requires.merging c.args.at c.args.place c.args.trace.now
    c.args.step.now c.requires.listed c.requires.placed c.requires.taken c.args.event c.in-Err.error other c.requires.tells
    (elim c.in-Err.ensures.refused [ inl memory ↦ absurd (other memory) | inr is ↦ is ]) short c.tell_delivered.ensures)))

pub returns-then-not-is_done-clause-err : goal.returns-then-not-is_done-clause-err
returns-then-not-is_done-clause-err g c =
    let limits = c.args.self.now.world.limits in
    let before : List (Packet Frame) = c.args.self.now.world.group.sent in
    let after : List (Packet Frame) = c.play.new.self.world.group.sent in
    let plays : Plays c.args.event c.args.self.now c.play.new.self = c.in_default.ensures.ok in
    let first : c.sent-first.result.now ≡ before = c.sent-first.ensures ∙ ap (λ (m : Merge). m.world.group.sent) c.self.view_is in
    let since : c.sent_since.result.now ≡ drop (length before) after = c.sent_since.ensures ∙ ap (λ xs. drop (length xs) after) first in
    let gave : c.last_given-given.result.now ≡ plays.applied.entry.given =
    c.last_given-given.ensures c.args.self.now.world.log plays.applied.entry
    (c.log.ensures ∙ ap (λ (m : Merge). m.world.log) c.self-2.view_is ∙ plays.applied.logged) in (
      c.requires.distinct,
      no_run limits c.args.traces.now c.args.at c.args.place c.args.trace.now c.origin-origin.result c.requires.listed c.origin-origin.ensures
          (inr (replayed limits c.args.traces.now c.args.self.now c.requires.merging c.args.at c.args.place
          c.args.trace.now c.args.step.now c.requires.listed c.requires.placed c.requires.taken))
          (step_differs limits c.args.traces.now c.args.self.now c.requires.merging c.args.at c.args.place c.args.trace.now c.args.step.now
          c.requires.listed c.requires.placed c.requires.taken c.args.event c.play.new.self.world plays.given plays.applied c.requires.tells
          (λ both. false≢true (sym c.if-not-is_done.true ∙ c.is_done.ensures.1 (ap (map said) since ∙ both.0, gave ∙ both.1)))),
    )

pub stand-requires : goal.stand-requires
stand-requires g c =
    let short : c.args.at < length c.args.traces.now = slice_get_within c.args.traces.now c.args.at c.args.trace.now c.requires.listed in
    let plays : Plays c.args.event c.args.self.now c.play.new.self = c.in_default.ensures.ok in
    subst (λ n. c.args.at < n) (sym (ap length plays.places ∙ c.requires.merging.counted)) short

pub returns-clause-places : goal.returns-clause-places
returns-clause-places g c =
    let plays : Plays c.args.event c.args.self.now c.play.new.self = c.in_default.ensures.ok in
    ap (λ (m : Merge). m.places) c.stand.ensures ∙ (λ i. set (plays.places i) c.args.at (Some (c.after-next.ensures i)))

pub returns-clause-ok : goal.returns-clause-ok
returns-clause-ok g c =
    let limits = c.args.self.now.world.limits in
    let before : List (Packet Frame) = c.args.self.now.world.group.sent in
    let after : List (Packet Frame) = c.play.new.self.world.group.sent in
    let plays : Plays c.args.event c.args.self.now c.play.new.self = c.in_default.ensures.ok in
    let first : c.sent-first.result.now ≡ before = c.sent-first.ensures ∙ ap (λ (m : Merge). m.world.group.sent) c.self.view_is in
    let since : c.sent_since.result.now ≡ drop (length before) after = c.sent_since.ensures ∙ ap (λ xs. drop (length xs) after) first in
    let gave : c.last_given-given.result.now ≡ plays.applied.entry.given =
    c.last_given-given.ensures c.args.self.now.world.log plays.applied.entry
    (c.log.ensures ∙ ap (λ (m : Merge). m.world.log) c.self-2.view_is ∙ plays.applied.logged) in
    let both = c.is_done.ensures.0 c.if-not-is_done.false in
    let told =
    told_by limits c.args.event plays.given c.args.self.now.world c.play.new.self.world c.args.trace.now.origin.name
    c.args.step.now.stimulus c.requires.merging.same_limits plays.applied c.requires.tells in
    subst (IsMerging limits c.args.traces.now)
    (sym (c.stand.ensures ∙ (λ i. record {
      world = c.play.new.self.world;
      events = plays.pushed i;
      places = set (plays.places i) c.args.at (Some (c.after-next.ensures i));
      frames = c.play.new.self.frames;
    })))
    (steps_on limits c.args.traces.now c.requires.distinct c.args.self.now c.requires.merging c.play.new.self.world c.args.event plays.given
    plays.applied c.args.at c.args.place c.args.trace.now c.args.step.now c.requires.listed c.requires.placed c.requires.taken told.named told.tells
    (sym (ap (map said) since) ∙ both.0)
    (sym gave ∙ both.1)
    c.requires.tells.kept
    c.play.new.self.frames plays.found)
