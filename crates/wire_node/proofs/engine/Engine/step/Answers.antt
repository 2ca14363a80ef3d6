use Rattle.std.proofs.Common.{refl, subst}
use Rattle.wire_node.specs.Acting.{machine}
use Rattle.wire_node.specs.Moving.{Engine, Moves}
use Rattle.wire_node.proofs.engine.Engine.step.Goals as goal

pub returns-clause-ok : goal.returns-clause-ok
returns-clause-ok g c =
    let noted = g.R.Record.noted in
    let after : Engine = record {
      machine =
          machine c.relieve-is_behind.new.core c.relieve-is_behind.new.entries.items c.relieve-is_behind.new.pending
          (noted c.relieve-is_behind.new.notes) c.relieve-is_behind.new.telling;
      lost = c.relieve-is_behind.new.lost;
      limit = c.self.inside.limit;
      is_behind = c.relieve-is_behind.result;
    } in
    subst (λ (n : Engine). Moves n c.args.stimulus.now c.args.dice.now after) c.self.view_is
    (record {
      stepped = machine c.make_step.new.core c.make_step.new.entries.items c.make_step.new.pending (noted c.make_step.new.notes) c.make_step.new.telling;
      acts = c.in_ok-make_step.ensures.acts;
      relieves = c.relieve-is_behind.ensures.relieved;
      same = refl;
    })
