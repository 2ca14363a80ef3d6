-- The peers that a node may start with are distinct.
use Rattle.protocol.specs.impl_proofs.NameLists.{distinct_peers}
use Rattle.flood.proofs.flood_core.FloodCoreCore.start.Goals as goal

pub set_of-requires : goal.set_of-requires
set_of-requires g c = distinct_peers c.args.limits c.args.me.name c.args.peers.now c.args.contact c.requires
