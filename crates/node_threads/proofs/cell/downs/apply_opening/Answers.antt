use Rattle.std.proofs.Common.{◌≡◌, rules, subst, sym}
use Rattle.node_threads.specs.Learning.{Opens}
use Rattle.node_threads.proofs.LinkOpenings.{its_own_place}
use Rattle.node_threads.proofs.cell.downs.apply_opening.Goals as goal

pub returns-clause-applied : goal.returns-clause-applied
returns-clause-applied g c =
    let made = c.in_ok-id.field-0 in
    let stepped = c.apply.new.self in
    let learnt = c.args.learnt.now in
    let last = c.open_unlinked-left.new in
    let names : c.into_vec.result.items ≡ c.in_ok-id.field-0.unlinked = search rules in
    let left : c.open_unlinked-left.result.items ≡ c.from_vec.result = sym c.from_vec.ensures in
    record {
      stepped = stepped;
      lacking = made.unlinked;
      applies = c.in_ok-id.ensures.applied;
      opens =
          subst (λ lacking. Opens made.place stepped learnt lacking last.cell last.learnt c.from_vec.result) names
          (subst (λ lacking. Opens made.place stepped learnt c.into_vec.result.items last.cell last.learnt lacking) left c.open_unlinked-left.ensures.opens);
    }

pub open_unlinked-left-requires : goal.open_unlinked-left-requires
open_unlinked-left-requires g c =
    let made = c.in_ok-id.field-0 in
    its_own_place g.C.NodeCore.state g.C.NodeCore.steps c.args.cell.now c.args.stimulus
    c.apply.new.self made.id made.place made.full made.unlinked c.in_ok-id.ensures.applied
