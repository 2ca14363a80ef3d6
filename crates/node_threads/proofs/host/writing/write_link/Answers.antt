use Rattle.std.proofs.Common.{subst, sym}
use Rattle.node_threads.specs.Leaving.{LeavesTo, outlets_in}
use Rattle.node_threads.proofs.host.writing.write_link.Goals as goal

-- The thread returns what `write_to_end` does, which leaves the outlets of links to the outlet's peer.
pub start_promised-requires-clause-keeps : goal.start_promised-requires-clause-keeps
start_promised-requires-clause-keeps g c κs within left ended =
    let said = ended.said-raw.1.1.1.1 in
    let leaves = subst (λ peer. LeavesTo peer (outlets_in said.0.result)) (sym c.peer-peer.ensures) said.0.ensures in
    subst (λ outlets. LeavesTo c.peer-peer.result (outlets_in outlets)) (sym said.1.1.1) leaves
