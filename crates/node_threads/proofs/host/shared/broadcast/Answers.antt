use Rattle.std.proofs.Common.{◌≡◌, Some, rules, subst}
use Rattle.protocol.specs.declared.stimulus.StimulusOf.TheVariants.{Broadcast}
use Rattle.node_threads.specs.Applying.{Applies}
use Rattle.node_threads.proofs.host.shared.broadcast.Goals as goal

pub returns-clause-made : goal.returns-clause-made
returns-clause-made g c =
    let made = c.in_ok-id.field-0 in
    let all = c.in_ok-id.ensures.applied in
    let is : made.id ≡ Some c.in-Some.id = search rules in
    record {
      old = c.args.kept.now.cell;
      new = all.applies.stepped;
      full = made.full;
      lacking = all.applies.lacking;
      applies =
          subst (λ id. Applies g.C.NodeCore.state g.C.NodeCore.steps c.args.kept.now.cell
          (Broadcast c.args.payload) all.applies.stepped id made.place made.full all.applies.lacking)
          is all.applies.applies;
    }
