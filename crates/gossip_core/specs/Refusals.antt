-- Which calls of a node's gossip are refused, and which it can take.
use Rattle.std.specs.Prelude.{◌≡◌, ◌-◌, ◌^◌, ◌<◌, ◌≤◌, length}
use Rattle.protocol.specs.declared.TheConstants.{MAX_PAYLOAD}
use Rattle.gossip_core.specs.State.{GossipState}
use Rattle.gossip_core.specs.Table.{Call}
use Rattle.gossip_core.specs.declared.call.CallOf.TheVariants.{Broadcast, OnGossip, OnIHave, Fire, OnGraft, OnGraftPeer, OnPrune, Flush, Up, Down}

-- The payload of a broadcast is longer than payloads may be.
abbrev pub IsTooLong : Call → Type 0
IsTooLong (Broadcast payload) = MAX_PAYLOAD < length payload
IsTooLong (OnGossip sender id round payload) = ⊥
IsTooLong (OnIHave sender entries) = ⊥
IsTooLong (Fire id) = ⊥
IsTooLong (OnGraft sender id round) = ⊥
IsTooLong (OnGraftPeer sender) = ⊥
IsTooLong (OnPrune sender) = ⊥
IsTooLong Flush = ⊥
IsTooLong (Up peer) = ⊥
IsTooLong (Down peer) = ⊥

-- A payload of allowed length is broadcast although the numbers of this run's messages are used up.
abbrev pub IsSpent : GossipState → Call → Type 0
IsSpent g (Broadcast payload) = (length payload ≤ MAX_PAYLOAD) × (g.spent ≡ 2 ^ 64 - 1)
IsSpent g (OnGossip sender id round payload) = ⊥
IsSpent g (OnIHave sender entries) = ⊥
IsSpent g (Fire id) = ⊥
IsSpent g (OnGraft sender id round) = ⊥
IsSpent g (OnGraftPeer sender) = ⊥
IsSpent g (OnPrune sender) = ⊥
IsSpent g Flush = ⊥
IsSpent g (Up peer) = ⊥
IsSpent g (Down peer) = ⊥

-- A number is left for the message, if the call broadcasts one.
abbrev pub CanTake : GossipState → Call → Type 0
CanTake g (Broadcast payload) = g.spent < 2 ^ 64 - 1
CanTake g (OnGossip sender id round payload) = Unit {0}
CanTake g (OnIHave sender entries) = Unit {0}
CanTake g (Fire id) = Unit {0}
CanTake g (OnGraft sender id round) = Unit {0}
CanTake g (OnGraftPeer sender) = Unit {0}
CanTake g (OnPrune sender) = Unit {0}
CanTake g Flush = Unit {0}
CanTake g (Up peer) = Unit {0}
CanTake g (Down peer) = Unit {0}
