-- One entry more is taken.
use Rattle.std.proofs.Common.{◌∙◌, ◌++◌, ◌∷◌, [], ap, subst}
use Rattle.std.specs.Prelude.{Option}
use Rattle.protocol.specs.Trace.{Trace}
use Rattle.frames.specs.Frame.{Frame}
use Rattle.step_records.specs.declared.reader.Entry.{Entry}
use Rattle.record_merge.specs.Replaying.{Gives, stimuli_of}
use Rattle.record_merge.proofs.Telling.{given_more, told_more}
use Rattle.record_merge.proofs.steps.take_all.Goals as goal

pub entries-preserved : goal.entries-preserved
entries-preserved g c =
    let so_far = c.entries.invariant.1 in
    let gives =
    subst (λ (found : Option Entry). Gives c.entries.entries found c.next.new.self) c.in-Some.is c.in_ok-entry.ensures.gives in (
      λ limits replays. c.in_ok-take_entry.ensures.replays limits (c.entries.invariant.0 limits replays),
      (
        so_far.0 ++ c.in-Some.entry ∷ [],
        given_more so_far.0 c.args.entries.now c.entries.entries c.next.new.self c.in-Some.entry so_far.1 gives,
        told_more so_far.0 c.in-Some.entry (stimuli_of c.args.trace.now.steps) (stimuli_of c.entries.trace.steps)
            (stimuli_of c.take_entry.new.trace.steps) so_far.2 c.in_ok-take_entry.ensures.told,
      ),
      c.in_ok-take_entry.ensures.start ∙ ap (λ (t : Trace Frame). record t { steps = c.take_entry.new.trace.steps }) c.entries.invariant.2,
    )
