-- The rows of the table, as what is left of a call that was decided.
use Rattle.std.specs.Prelude.{◌≡◌, ◌≢◌, ◌-◌, ◌^◌, ◌<◌, ℕ, false, List, [], Option, None, Some}
use Rattle.std.specs.FinSet as set
use Rattle.node_names.specs.NodeName.{Name}
use Rattle.node_names.specs.declared.ids.MsgId.{MsgId}
use Rattle.missing.specs.Missing.{announced_all, taken_first}
use Rattle.peer_sets.specs.declared.members.PeerKind.TheVariants as kind
use Rattle.gossip_core.specs.State.{GossipState}
use Rattle.gossip_core.specs.Table.{first_copy, outcome, swapped, with_peer}
use Rattle.gossip_core.specs.declared.call.CallOf.TheVariants as call
use Rattle.gossip_core.specs.declared.row.RowOf.{RowOf}
use Rattle.gossip_core.specs.declared.row.RowOf.TheVariants as row

-- a row of the table, with what its change needs
abbrev pub Row : Type 0
Row = RowOf (List ℕ) (List (MsgId × ℕ))

-- the state after the peer, if there is one, was made eager
abbrev pub with_asked : Option Name → GossipState → GossipState
with_asked None g = g
with_asked (Some peer) g = with_peer peer kind.Eager g

-- the state after the row's change
abbrev pub changed : Row → GossipState → GossipState
changed (row.Broadcast payload) g = (outcome g (call.Broadcast payload)).state
changed (row.FirstCopy sender id round payload announcer) g = (swapped sender announcer (first_copy sender id round payload g)).state
changed (row.Announced sender news) g = record g { missing = announced_all sender news g.missing }
changed (row.Fired id asked) g = with_asked asked (record g { missing = taken_first id g.missing })
changed (row.Eager peer) g = with_peer peer kind.Eager g
changed (row.Lazy peer) g = with_peer peer kind.Lazy g
changed row.Flushed g = record g { peers = record g.peers { queued = [] } }
changed (row.Up peer) g = (outcome g (call.Up peer)).state
changed (row.Down peer) g = (outcome g (call.Down peer)).state
changed row.Nothing g = g

-- A number is left for a broadcast, and a first copy is of a message that the node neither knows nor broadcast.
abbrev pub CanChange : GossipState → Row → Type 0
CanChange g (row.Broadcast payload) = g.spent < 2 ^ 64 - 1
CanChange g (row.FirstCopy sender id round payload announcer) = (set.contains g.known id ≡ false) × (id.origin ≢ g.me)
CanChange g (row.Announced sender news) = Unit {0}
CanChange g (row.Fired id asked) = Unit {0}
CanChange g (row.Eager peer) = Unit {0}
CanChange g (row.Lazy peer) = Unit {0}
CanChange g row.Flushed = Unit {0}
CanChange g (row.Up peer) = Unit {0}
CanChange g (row.Down peer) = Unit {0}
CanChange g row.Nothing = Unit {0}

-- The row's change can be made, and leads to this state.
abbrev pub Leads : GossipState → GossipState → Row → Type 0
Leads g next decided = CanChange g decided × (changed decided g ≡ next)
