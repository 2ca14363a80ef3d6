-- One more name.
use Rattle.std.proofs.Common.{sym, ap, ◌∙◌, get_or}
use Rattle.peer_sets.specs.Members.{without_member}
use Rattle.peer_sets.proofs.TakenLemmas.{without_members-take}
use Rattle.peer_sets.proofs.members.remove_all.Goals as goal

pub loop-name-preserved : goal.loop-name-preserved
loop-name-preserved g c =
    c.remove.ensures
    ∙ ap (λ name. without_member name c.loop-name.members.items) c.name-item.is
    ∙ ap (λ members. without_member (get_or c.args.names.now c.loop-name.name-index c.name-item.result) members) c.loop-name.invariant
    ∙ sym (without_members-take c.args.names.now c.loop-name.name-index c.name-item.result c.args.members.now.items c.loop-name-test.true)
