-- What holds of every group of lawful cores, whatever was played in it.
use Rattle.std.specs.Prelude.{◌≢◌, reverse}
use Rattle.node_names.specs.NodeName.{Name}
use Rattle.node_names.specs.declared.ids.MsgId.{MsgId}
use Rattle.protocol.specs.Content.{Content}
use Rattle.protocol.specs.CoreState.{CoreState}
use Rattle.world.specs.Group.{Logged}
use Rattle.world.specs.Honest.{HasOnePayload, Honest, Once}
use Rattle.world.specs.Links.{ViewsAreSound}
use Rattle.world.specs.Parents.{HaveParents}
use Rattle.world.specs.Rest.{IsDeliveredInReach, IsUndisturbed}
use Rattle.world.specs.Traffic.{CrossesOnce, IsUnrepeated}
use Rattle.world.specs.UnderWay.{IsCarriedOn}

-- Each delivery is of a message that was said by then, with the payload that was said; a message is said with one
-- payload alone; no run of a node delivers a message twice; and no view of a running node exceeds its bound, names a
-- node twice or names its owner. Each delivery is its origin's own, or came from a node that had delivered the message
-- before. If the group stayed undisturbed since a message was said, the message is carried on between every two linked
-- nodes. If no packet was repeated either, then from any node to any other at most one copy and one announcement of it
-- were sent, and at most one request for it was sent back. If the group was undisturbed and is at rest for the message,
-- every node in reach of its origin has delivered it.
pub record Headline {C N : Type 0} (state : C → CoreState) (content : N → Content) (world : Logged C N) : Type 0 where
  pub honest : Honest (reverse world.log)
  pub agreed : HasOnePayload (reverse world.log)
  pub once : Once (reverse world.log)
  pub views : ViewsAreSound state world.limits world.group
  pub parents : HaveParents world.group.sent (reverse world.log)
  pub carried : (id : MsgId) → IsUndisturbed state world.limits.keep (reverse world.log) world.group id → IsCarriedOn state content world.group id
  pub traffic : (id : MsgId) →
      IsUndisturbed state world.limits.keep (reverse world.log) world.group id →
      IsUnrepeated (reverse world.log) id →
      (name peer : Name) →
      name ≢ peer →
      CrossesOnce content world.group.sent id name peer
  pub delivered : IsDeliveredInReach state content world.limits.keep (reverse world.log) world.group
