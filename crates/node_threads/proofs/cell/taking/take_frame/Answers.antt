use Rattle.node_threads.proofs.TakingFrames.{frame_taken}
use Rattle.node_threads.proofs.cell.taking.take_frame.Goals as goal

pub returns-clause-taken : goal.returns-clause-taken
returns-clause-taken g c =
    let applied = c.in_ok-apply_drawing.field-0 in
    frame_taken g.C.NodeCore.state g.C.NodeCore.steps g.C.NodeCore.is_spent
    (g.R.Rng.stream c.args.generator.now)
    c.args.cell.now c.args.learnt.now c.args.note c.apply_drawing.new.self c.apply_drawing.new.learnt
    (g.R.Rng.stream c.apply_drawing.new.generator)
    c.sender-sender.result c.draw-dice.result (g.R.Rng.stream c.draw-dice.new.rng) applied.id applied.place applied.full applied.unlinked
    c.sender-sender.ensures.value c.draw-dice.ensures.words c.draw-dice.ensures.left c.in_ok-apply_drawing.ensures.applied
