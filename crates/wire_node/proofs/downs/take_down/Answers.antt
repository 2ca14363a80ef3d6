use Rattle.std.proofs.Common.{List, ap, subst, sym}
use Rattle.wire_node.specs.Acting.{AreSettled, machine}
use Rattle.wire_node.specs.Waiting.{Waiting}
use Rattle.wire_node.proofs.Stepping.{settled_without}
use Rattle.wire_node.proofs.downs.take_down.Goals as goal

pub returns-clause-down : goal.returns-clause-down
returns-clause-down g c =
    let told = c.make_step-told.new in
    let noted = g.R.Record.noted told.notes in
    record {
      told = machine told.core told.entries.items told.pending noted told.telling;
      acts = c.in_default.ensures.acts;
      dropped = ap (λ (ws : List Waiting). machine told.core ws told.pending noted told.telling) c.forget.ensures;
    }

pub returns-clause-settled : goal.returns-clause-settled
returns-clause-settled g c =
    subst AreSettled (sym c.forget.ensures) (settled_without c.args.name c.make_step-told.new.entries.items c.make_step-told.ensures.settled)
