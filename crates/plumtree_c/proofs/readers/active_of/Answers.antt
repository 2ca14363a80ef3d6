use Rattle.std.proofs.Common.{◌≡◌, ◌∙◌, arith, rules}
use Rattle.node_core.specs.Plum.{plum_state}
use Rattle.plumtree_c.specs.Kept.{core_in}
use Rattle.plumtree_c.proofs.readers.active_of.Goals as goal

pub returns-clause-done : goal.returns-clause-done
returns-clause-done g c done =
    let kept = g.T.Lodger.kept c.in-Ok.node.value in
    let view : c.active.result.now.keys ≡ (plum_state (core_in kept)).active = search rules in
    record {
      kept = kept;
      has = c.in-Ok.ensures.ok;
      holds = c.put_names.ensures.names (omega (arith, c.if-length-room.false, c.put_names.ensures.length)) ∙ c.as_slice-names.ensures.keys ∙ view;
    }
