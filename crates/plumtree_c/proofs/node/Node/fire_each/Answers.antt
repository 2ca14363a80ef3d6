use Rattle.std.proofs.Common.{map, subst, sym, take}
use Rattle.protocol.specs.declared.stimulus.StimulusOf.TheVariants.{Fire}
use Rattle.plumtree_c.specs.State.{NodeState, Runs}
use Rattle.wire_node.proofs.Stepping.{on_err}
use Rattle.plumtree_c.proofs.Runs.{fires_on}
use Rattle.plumtree_c.proofs.node.Node.fire_each.Goals as goal

pub loop-id-preserved : goal.loop-id-preserved
loop-id-preserved c =
    fires_on c.args.self.now c.args.ids.now c.loop-id.id-index c.id-item.result c.loop-id.self
    c.fire.new.self c.loop-id-test.true c.id-item.is c.loop-id.invariant c.in_ok-fire.ensures.ok

pub returns-in_err-fire-clause-err : goal.returns-in_err-fire-clause-err
returns-in_err-fire-clause-err c = on_err _ c.from_residual.result (
  c.loop-id.id-index,
  subst (λ (n : NodeState). Runs c.args.self.now (map Fire (take c.loop-id.id-index c.args.ids.now)) n) (sym c.in_err-fire.ensures.err) c.loop-id.invariant,
)
