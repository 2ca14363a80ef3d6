-- The state of a node's gossip, as contracts see it.
use Rattle.std.specs.Prelude.{◌≡◌, ℕ, ◌<◌, ◌≤◌, true, List, is_some}
use Rattle.std.specs.FinSet as set
use Rattle.std.specs.Map.{lookup}
use Rattle.node_names.specs.Order.{id_cmp}
use Rattle.node_names.specs.Same.{same_id}
use Rattle.node_names.specs.declared.ids.Origin.{Origin}
use Rattle.node_names.specs.declared.ids.MsgId.{MsgId}
use Rattle.missing.specs.Missing.{Missing}
use Rattle.peer_sets.specs.PeerSets.{PeerSets}

-- The node and its run; the threshold, by how many links at least a message's path must be longer than that of its
-- first announcement for the announcer to take the sender's place (0 for never); how many of the messages that it
-- delivered last it holds (0 for all); how many messages the node has broadcast; its eager and lazy peers with the
-- announcements that are queued for them; the announcements and timers of messages that it lacks; the ids that it
-- knows; and the messages that it holds, in order of delivery.
pub record GossipState : Type 0 where
  pub me : Origin
  pub threshold : ℕ
  pub keep : ℕ
  pub spent : ℕ
  pub peers : PeerSets
  pub missing : Missing
  pub known : set.FinSet id_cmp
  pub held : List (MsgId × List ℕ)

-- What always holds: of its own messages the node knows only those that it has broadcast, and it knows all that it
-- holds.
pub record IsSound (gossip : GossipState) : Type 0 where
  pub counted : (id : MsgId) → set.contains gossip.known id ≡ true → id.origin ≡ gossip.me → (0 < id.seq) × (id.seq ≤ gossip.spent)
  pub held_is_known : (id : MsgId) → is_some (lookup (same_id id) gossip.held) ≡ true → set.contains gossip.known id ≡ true
