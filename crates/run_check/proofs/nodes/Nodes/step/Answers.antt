-- The node is written back, with its core as it is then.
use Rattle.std.proofs.Common.{◌≡◌, ◌∙◌, ap, refl, rules, subst, sym}
use Rattle.std.specs.Option.{IsSome, option_copied_mut}
use Rattle.std.specs.Prelude.{Some}
use Rattle.protocol.specs.Stimulus.{lent}
use Rattle.world.specs.declared.node_state.NodeState.{NodeState}
use Rattle.run_check.proofs.Stepping.{stepped, unstepped, unwritten}
use Rattle.run_check.proofs.nodes.Nodes.step.Goals as goal

pub returns-then-ne-clause-err : goal.returns-then-ne-clause-err
returns-then-ne-clause-err g c =
    let known = sym c.get_mut.ensures.value ∙ ap option_copied_mut c.in-Some.is in
    unwritten c.args.run.now.name c.args.self.now.map.entries _ c.in-Some.node.now known (c.get_mut.follows.holds c.in-Some.node.now).0

pub returns-in_default-core-clause-err : goal.returns-in_default-core-clause-err
returns-in_default-core-clause-err g c =
    let known = sym c.get_mut.ensures.value ∙ ap option_copied_mut c.in-Some.is in
    unwritten c.args.run.now.name c.args.self.now.map.entries _ c.in-Some.node.now known (c.get_mut.follows.holds c.in-Some.node.now).0

pub returns-clause-err : goal.returns-clause-err
returns-clause-err g c =
    let known = sym c.get_mut.ensures.value ∙ ap option_copied_mut c.in-Some.is in
    let node : NodeState g.row.C.Denot = record { name = c.in-Some.node.now.name; highest = c.in-Some.node.now.highest; core = Some c.step_core.new.core } in
    unstepped c.step_core.result c.args.run.now.name c.args.self.now.map.entries _ c.in-Some.node.now _ c.step_core.new.core known c.in-Some-core.is
    (c.get_mut.follows.holds node).0 c.step_core.ensures.err

pub returns-clause-steps : goal.returns-clause-steps
returns-clause-steps g c =
    let known = sym c.get_mut.ensures.value ∙ ap option_copied_mut c.in-Some.is in
    let node : NodeState g.row.C.Denot = record { name = c.in-Some.node.now.name; highest = c.in-Some.node.now.highest; core = Some c.step_core.new.core } in
    stepped g.C.Core.state g.C.Core.starts g.C.Core.steps c.step_core.result c.args.self.now.map.entries _ c.args.run.now
    (lent c.args.stimulus.now) c.in-Some.node.now _ c.step_core.new.core known
    (search rules) c.in-Some-core.is c.step_core.ensures.stepped c.step_core.ensures.moves
    ((c.get_mut.follows.holds node).3 (subst IsSome (sym known) refl)).0
