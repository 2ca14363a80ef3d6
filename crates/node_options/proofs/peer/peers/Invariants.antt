use Rattle.std.proofs.Common.{◌≡◌, vec_len}
use Rattle.node_options.specs.Peers.{AreApart}
use Rattle.node_options.proofs.peer.peers.Given as goal

-- there is a peer for each value so far, and no two have the same name
abbrev pub invariant-loop-given : goal.invariant-loop-given
invariant-loop-given l = AreApart l.peers.items × (vec_len l.peers ≡ l.given-index)
