-- An event as the definitions see it, with its names as a plain list.
use denote.Ref.{Bor}
use Rattle.std.specs.Prelude.{List}
use Rattle.node_names.specs.NodeName.{Name}
use Rattle.membership.specs.declared.event.EventOf.{EventOf}
use Rattle.membership.specs.declared.event.EventOf.TheVariants.{Joins, Join, ForwardJoin, Neighbor, Reply, Disconnect, Shuffle, ShuffleReply, Down, Tick}

-- The node is to join through a contact, a message of HyParView came from a sender, the link to a peer failed, or the
-- tick has come.
abbrev pub Event : Type 0
Event = EventOf (List Name)

-- the event with its borrowed names as a plain list
abbrev pub lent : EventOf (Bor (List Name)) → Event
lent (Joins contact) = Joins contact
lent (Join sender) = Join sender
lent (ForwardJoin sender new ttl) = ForwardJoin sender new ttl
lent (Neighbor sender high) = Neighbor sender high
lent (Reply sender accepted) = Reply sender accepted
lent (Disconnect sender) = Disconnect sender
lent (Shuffle sender origin ttl names) = Shuffle sender origin ttl names.now
lent (ShuffleReply sender names) = ShuffleReply sender names.now
lent (Down peer) = Down peer
lent Tick = Tick
