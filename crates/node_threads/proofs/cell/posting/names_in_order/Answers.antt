use Rattle.std.proofs.Common.{◌∙◌, ◌++◌, ◌∷◌, [], List, ap, append_assoc, arith, sym, take}
use Rattle.std.specs.List.{filter}
use Rattle.node_names.specs.NodeName.{Name}
use Rattle.node_names.specs.Same.{has_name}
use Rattle.node_threads.specs.Cell.{peers_of}
use Rattle.node_threads.proofs.Lettering.{blocked_on}
use Rattle.node_threads.proofs.cell.posting.names_in_order.Goals as goal

pub loop-link-preserved : goal.loop-link-preserved
loop-link-preserved g c =
    let room = c.add_blocked.ensures.room in
    let before = c.loop-link.invariant.1 in
    let b = c.args.blocked.now in
    let so_far : List Name = filter (has_name b) (peers_of (take c.loop-link.link-index c.args.links.now)) in
    let this : List Name = filter (has_name b) (c.link-item.result.peer ∷ []) in (
      c.add_blocked.ensures.full
          ∙ ap (λ peer. c.loop-link.full.items ++ filter (has_name b) (peer ∷ [])) c.peer.ensures
          ∙ ap (λ names. names ++ this) c.loop-link.invariant.0
          ∙ append_assoc c.args.full.now.items so_far this
          ∙ ap (λ names. c.args.full.now.items ++ names)
          (sym (blocked_on b c.args.links.now c.loop-link.link-index c.link-item.result c.loop-link-test.true c.link-item.is)),
      omega arith,
    )
