use Rattle.std.proofs.Common.{◌∙◌, ◌++◌, ◌∷◌, [], ap, append_assoc, arith, subst, sym}
use Rattle.std.proofs.lemmas.List.{length-append}
use Rattle.node_threads.specs.Taking.{TakesFrames}
use Rattle.node_threads.proofs.TakingFrames.{frames_taken, front_of}
use Rattle.node_threads.proofs.cell.taking.take_frames.Goals as goal

pub loop-note-preserved : goal.loop-note-preserved
loop-note-preserved g c =
    let yielded = c.loop-note.yielded in
    let note = c.in-Some.note in
    let count = c.loop-note.invariant.3 in (
      tt,
      tt,
      append_assoc yielded (note ∷ []) c.next.new.self.rest.items ∙ ap (λ left. yielded ++ left) (sym c.in-Some.ensures.steps.0) ∙ c.loop-note.invariant.2,
      omega (arith, length-append yielded (note ∷ [])),
      frames_taken g.C.NodeCore.state g.C.NodeCore.steps g.C.NodeCore.is_spent
          (g.R.Rng.stream c.args.generator.now)
          c.args.cell.now c.args.learnt.now yielded c.loop-note.cell c.loop-note.learnt
          (g.R.Rng.stream c.loop-note.generator)
          note c.take_frame.new.cell c.take_frame.new.learnt
          (g.R.Rng.stream c.take_frame.new.generator)
          c.loop-note.invariant.4 c.in_default.ensures.taken,
    )

pub returns-in-Err-clause-taken : goal.returns-in-Err-clause-taken
returns-in-Err-clause-taken g c =
    let left = g.R.Rng.stream c.loop-note.generator in
    let front =
    front_of c.args.frames.items c.loop-note.yielded c.loop-note.note-iterator.rest.items c.loop-note.taken c.loop-note.invariant.2 c.loop-note.invariant.3 in
    let same = c.in-Err.ensures.err in (
      left,
      subst (λ frames. TakesFrames g.C.NodeCore.state g.C.NodeCore.steps g.C.NodeCore.is_spent
          (g.R.Rng.stream c.args.generator.now) c.args.cell.now c.args.learnt.now frames c.take_frame.new.cell c.take_frame.new.learnt left)
          (sym front)
          (subst (λ cell. TakesFrames g.C.NodeCore.state g.C.NodeCore.steps g.C.NodeCore.is_spent
          (g.R.Rng.stream c.args.generator.now) c.args.cell.now c.args.learnt.now c.loop-note.yielded cell c.take_frame.new.learnt left) (sym same.0)
          (subst (λ learnt. TakesFrames g.C.NodeCore.state g.C.NodeCore.steps g.C.NodeCore.is_spent
          (g.R.Rng.stream c.args.generator.now) c.args.cell.now c.args.learnt.now c.loop-note.yielded c.loop-note.cell learnt left)
          (sym same.1) c.loop-note.invariant.4)),
    )

pub returns-clause-taken : goal.returns-clause-taken
returns-clause-taken g c =
    let left = g.R.Rng.stream c.loop-note.generator in
    let front =
    front_of c.args.frames.items c.loop-note.yielded c.loop-note.note-iterator.rest.items c.loop-note.taken c.loop-note.invariant.2 c.loop-note.invariant.3 in (
      left,
      subst (λ frames. TakesFrames g.C.NodeCore.state g.C.NodeCore.steps g.C.NodeCore.is_spent
          (g.R.Rng.stream c.args.generator.now) c.args.cell.now c.args.learnt.now frames c.loop-note.cell c.loop-note.learnt left)
          (sym front) c.loop-note.invariant.4,
    )
