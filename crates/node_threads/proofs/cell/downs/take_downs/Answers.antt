use Rattle.std.proofs.Common.{◌∙◌, ◌∷◌, ◌+◌, ap, drop, sym}
use Rattle.std.proofs.lemmas.List.{drop_all, drop_more}
use Rattle.node_threads.proofs.DownSteps.{downs_end, downs_on}
use Rattle.node_threads.proofs.cell.downs.take_downs.Goals as goal

pub loop-peer-preserved : goal.loop-peer-preserved
loop-peer-preserved g c =
    let peers = c.args.peers.now in
    let i = c.loop-peer.peer-index in
    let peer = c.peer-item.result in
    let next = drop_more peers i peer c.loop-peer-test.true ∙ ap (λ it. it ∷ drop (i + 1) peers) (sym c.peer-item.is) in
    downs_on g.C.NodeCore.state g.C.NodeCore.steps g.C.NodeCore.is_spent c.args.cell.now c.args.learnt.now c.args.peers.now
    c.loop-peer.cell c.loop-peer.learnt _ _ _ c.take_down.new.cell c.take_down.new.learnt next c.loop-peer.invariant c.take_down.ensures

pub returns : goal.returns
returns g c =
    downs_end g.C.NodeCore.state g.C.NodeCore.steps g.C.NodeCore.is_spent c.before.args.cell.now
    c.before.args.learnt.now c.before.args.peers.now c.before.loop-peer.cell c.before.loop-peer.learnt _
    (drop_all c.before.loop-peer.peer-index c.before.args.peers.now c.loop-peer-test.false) c.before.loop-peer.invariant
