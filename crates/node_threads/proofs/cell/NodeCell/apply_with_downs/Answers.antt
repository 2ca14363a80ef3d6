use Rattle.std.proofs.Common.{rules}
use Rattle.node_threads.proofs.cell.NodeCell.apply_with_downs.Goals as goal

pub returns-clause-applied : goal.returns-clause-applied
returns-clause-applied g c =
    record {
      answered = c.apply_opening.new.cell;
      learnt_answered = c.apply_opening.new.learnt;
      told_full = c.take_downs.new.cell;
      learnt_full = c.take_downs.new.learnt;
      applies = c.in_ok-applied.ensures.applied;
      downs_full = search (rules, c.as_slice.ensures, c.take_downs.ensures);
      downs_left = search (rules, c.as_slice-2.ensures, c.take_downs-2.ensures);
    }
