-- One more member is changed.
use Rattle.std.proofs.Common.{ap, sym, ◌∙◌, if◌then◌else◌}
use Rattle.std.specs.Prelude.{slice_set}
use Rattle.std.proofs.lemmas.List.Edits.{map_over_more}
use Rattle.node_names.specs.NodeName.{Name}
use Rattle.node_names.specs.Same.{same_name}
use Rattle.peer_sets.specs.declared.members.PeerKind.{PeerKind}
use Rattle.peer_sets.proofs.members.set_kind_in.Goals as goal

pub loop-member-preserved : goal.loop-member-preserved
loop-member-preserved c =
    let f = λ (m : Name × PeerKind). if same_name c.args.name.now m.0 then (m.0, c.args.kind) else m in
    ap (λ m. slice_set c.loop-member.member-items c.loop-member.member-index m) (c.kind_after-member.ensures ∙ ap f (sym c.member-item.is))
    ∙ map_over_more f c.args.members.now c.loop-member.member-items c.loop-member.member-index
    c.member-item.result c.loop-member-test.true c.loop-member.invariant c.member-item.is
