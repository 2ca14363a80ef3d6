use Rattle.std.proofs.Common.{subst}
use Rattle.node_threads.specs.Downs.{TakesDrawnDowns}
use Rattle.node_threads.proofs.cell.NodeCell.apply_drawing.Goals as goal

pub returns-clause-applied : goal.returns-clause-applied
returns-clause-applied g c =
    let made = c.apply_opening.new in
    let full = c.take_drawn_downs.new in
    let last = c.take_drawn_downs-2.new in
    record {
      answered = made.cell;
      learnt_answered = made.learnt;
      told_full = full.cell;
      learnt_full = full.learnt;
      stream_full = g.R.Rng.stream full.generator;
      applies = c.in_ok-applied.ensures.applied;
      downs_full =
          subst (λ names. TakesDrawnDowns g.C.NodeCore.state g.C.NodeCore.steps g.C.NodeCore.is_spent
          (g.R.Rng.stream c.args.generator.now) made.cell made.learnt names full.cell full.learnt (g.R.Rng.stream full.generator))
          c.as_slice.ensures c.take_drawn_downs.ensures;
      downs_left =
          subst (λ names. TakesDrawnDowns g.C.NodeCore.state g.C.NodeCore.steps g.C.NodeCore.is_spent
          (g.R.Rng.stream full.generator) full.cell full.learnt names last.cell last.learnt (g.R.Rng.stream last.generator))
          c.as_slice-2.ensures c.take_drawn_downs-2.ensures;
    }
