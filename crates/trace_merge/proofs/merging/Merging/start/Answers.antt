-- A start that is refused or sends something else is none; any other is one.
use Rattle.std.proofs.Common.{◌≡◌, ◌∙◌, ◌<◌, List, ap, inl, inr, length, refl, set, subst, sym}
use Rattle.std.proofs.lemmas.Bool.{false≢true}
use Rattle.std.specs.Prelude.{◌⊎◌, Some, drop, map}
use Rattle.std.proofs.lemmas.Option.{slice_get_within}
use Rattle.world.specs.Event.{Event}
use Rattle.world.specs.Refusals.{IsRefusal}
use Rattle.world.specs.declared.error.WorldError.TheVariants.{OutOfMemory}
use Rattle.frames.specs.Frame.{Frame}
use Rattle.node_core.specs.Steps.{PlumIsSpent}
use Rattle.world.specs.declared.packet.Packet.{Packet}
use Rattle.trace_merge.specs.Merging.{IsMerging, Merge, Plays, Refuses, start_of}
use Rattle.trace_merge.specs.Projection.{said}
use Rattle.trace_merge.proofs.RefusalLemmas.{fault_is, no_run, start_differs, start_refused}
use Rattle.trace_merge.proofs.StartLemmas.{starts_on}
use Rattle.trace_merge.proofs.merging.Merging.start.Goals as goal

pub returns-in-Err : goal.returns-in-Err
returns-in-Err g c =
    let limits = c.args.self.now.world.limits in
    let refused : (c.in-Err.error ≡ OutOfMemory) ⊎ IsRefusal PlumIsSpent limits c.args.self.now.world.group (start_of c.args.trace.now) c.in-Err.error =
    subst (λ (e : Event). (c.in-Err.error ≡ OutOfMemory) ⊎ IsRefusal PlumIsSpent limits c.args.self.now.world.group e c.in-Err.error)
    c.in_ok-start_of.ensures c.in-Err.ensures.refused
    in
    record {
      limits = tt;
      places = tt;
      ok = tt;
      err = subst (λ f. Refuses limits c.args.traces.now f) (sym c.fault_of.ensures)
          (fault_is limits c.args.traces.now c.origin-origin.result 0 c.in-Err.error c.requires.distinct
          (λ other. no_run limits c.args.traces.now c.args.at 0 c.args.trace.now c.origin-origin.result c.requires.listed c.origin-origin.ensures (inl refl)
          (start_refused limits c.args.traces.now c.args.self.now c.requires.merging
          c.args.at c.args.trace.now c.requires.listed c.requires.placed c.in-Err.error other
          (elim refused [ inl memory ↦ absurd (other memory) | inr is ↦ is ]))));
    }

-- what the group did, the event being the start
played : (event : Event) (start : Event) (old new : Merge) → event ≡ start → Plays event old new → Plays start old new
played event start old new is plays = subst (λ e. Plays e old new) is plays

pub returns-then-not-is_opening-clause-err : goal.returns-then-not-is_opening-clause-err
returns-then-not-is_opening-clause-err g c =
    let limits = c.args.self.now.world.limits in
    let before : List (Packet Frame) = c.args.self.now.world.group.sent in
    let after : List (Packet Frame) = c.play.new.self.world.group.sent in
    let plays : Plays (start_of c.args.trace.now) c.args.self.now c.play.new.self =
    played _ (start_of c.args.trace.now) c.args.self.now c.play.new.self c.in_ok-start_of.ensures c.in_default.ensures.ok in
    let first : c.sent-first.result.now ≡ before = c.sent-first.ensures ∙ ap (λ (m : Merge). m.world.group.sent) c.self.view_is in
    let since : c.sent_since.result.now ≡ drop (length before) after = c.sent_since.ensures ∙ ap (λ xs. drop (length xs) after) first in (
      c.requires.distinct,
      no_run limits c.args.traces.now c.args.at 0 c.args.trace.now c.origin-origin.result c.requires.listed c.origin-origin.ensures (inl refl)
          (start_differs limits c.args.traces.now c.args.self.now c.requires.merging c.args.at
          c.args.trace.now c.requires.listed c.requires.placed c.play.new.self.world plays.given plays.applied
          (λ both. false≢true (sym c.if-not-is_opening.true ∙ c.is_opening.ensures.1 (
            ap (map said) since ∙ both.0 ∙ ap (λ o. o.sends) (sym c.opening.ensures),
            ap (λ o. o.deliveries) c.opening.ensures ∙ both.1,
          )))),
    )

pub stand-requires : goal.stand-requires
stand-requires g c =
    let short : c.args.at < length c.args.traces.now = slice_get_within c.args.traces.now c.args.at c.args.trace.now c.requires.listed in
    let plays : Plays _ c.args.self.now c.play.new.self = c.in_default.ensures.ok in
    subst (λ n. c.args.at < n) (sym (ap length plays.places ∙ c.requires.merging.counted)) short

pub returns-clause-ok : goal.returns-clause-ok
returns-clause-ok g c =
    let limits = c.args.self.now.world.limits in
    let before : List (Packet Frame) = c.args.self.now.world.group.sent in
    let after : List (Packet Frame) = c.play.new.self.world.group.sent in
    let plays : Plays (start_of c.args.trace.now) c.args.self.now c.play.new.self =
    played _ (start_of c.args.trace.now) c.args.self.now c.play.new.self c.in_ok-start_of.ensures c.in_default.ensures.ok in
    let first : c.sent-first.result.now ≡ before = c.sent-first.ensures ∙ ap (λ (m : Merge). m.world.group.sent) c.self.view_is in
    let since : c.sent_since.result.now ≡ drop (length before) after = c.sent_since.ensures ∙ ap (λ xs. drop (length xs) after) first in
    let opens = c.is_opening.ensures.0 c.if-not-is_opening.false in
    subst (IsMerging limits c.args.traces.now)
    (sym (c.stand.ensures ∙ (λ i. record {
      world = c.play.new.self.world;
      events = plays.pushed i;
      places = set (plays.places i) c.args.at (Some 0);
      frames = c.play.new.self.frames;
    })))
    (starts_on limits c.args.traces.now c.requires.distinct c.args.self.now c.requires.merging c.play.new.self.world
    c.args.at c.args.trace.now plays.given plays.applied c.requires.listed c.requires.placed c.requires.ready
    (sym (ap (map said) since) ∙ opens.0 ∙ ap (λ o. o.sends) c.opening.ensures)
    (sym (ap (λ o. o.deliveries) c.opening.ensures) ∙ opens.1)
    c.play.new.self.frames plays.found)
