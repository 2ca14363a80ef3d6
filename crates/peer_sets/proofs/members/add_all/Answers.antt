-- One more name.
use Rattle.std.proofs.Common.{sym, ap, ◌∙◌, get_or}
use Rattle.peer_sets.specs.Members.{with_member}
use Rattle.peer_sets.proofs.TakenLemmas.{with_members-take}
use Rattle.peer_sets.proofs.members.add_all.Goals as goal

pub loop-name-preserved : goal.loop-name-preserved
loop-name-preserved g c =
    c.in_ok-add.ensures.ok
    ∙ ap (λ name. with_member name c.loop-name.members.items) c.name-item.is
    ∙ ap (λ members. with_member (get_or c.args.names.now c.loop-name.name-index c.name-item.result) members) c.loop-name.invariant
    ∙ sym (with_members-take c.args.names.now c.loop-name.name-index c.name-item.result c.args.members.now.items c.loop-name-test.true)
