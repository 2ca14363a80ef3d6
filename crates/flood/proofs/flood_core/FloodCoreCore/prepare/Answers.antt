-- Firings, flushes and ticks do nothing, and a failed link takes its peer out.
use Rattle.std.proofs.Common.{ap, ◌∙◌}
use Rattle.node_names.specs.Same.{has_name}
use Rattle.protocol.specs.Stimulus.{lent}
use Rattle.flood.proofs.FloodMoves.{loses_peer, moves_by_peer, stays_idle}
use Rattle.flood.proofs.flood_core.FloodCoreCore.prepare.Goals as goal

pub returns-in-Down-clause-stepped : goal.returns-in-Down-clause-stepped
returns-in-Down-clause-stepped g c = loses_peer c.args.self.now c.in-Down.peer c.in-Down.dice (lent c.args.stimulus.now) c.args.out.now (ap lent c.in-Down.is)

pub returns-in-Down-clause-moved : goal.returns-in-Down-clause-moved
returns-in-Down-clause-moved g c = rw (← c.self.view_is)
    (moves_by_peer (record { me = c.self.inside.me; peers = c.self.inside.peers.keys; held = c.self.inside.held.entries; count = c.self.inside.count })
    c.in-Down.peer c.in-Down.dice (lent c.args.stimulus.now) c.has_name.result c.as_slice.ensures.unique
    (c.has_name.ensures ∙ ap (λ names. has_name names c.in-Down.peer) c.as_slice.ensures.keys) (ap lent c.in-Down.is))

pub returns-in-Fire-clause-stepped : goal.returns-in-Fire-clause-stepped
returns-in-Fire-clause-stepped g c = stays_idle c.args.self.now c.args.stimulus.now c.args.out.now c.in-Fire.is
