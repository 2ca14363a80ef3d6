-- What a node's gossip does, call by call: the broadcast tree by eager pushes, with lazy announcements to repair it.
use Rattle.std.specs.Prelude.{◌≡◌, ℕ, ◌+◌, ◌-◌, ◌^◌, ◌&&◌, ◌==◌, Bool, not, List, [], ◌∷◌, ◌++◌, Option, None, Some, min, nat_le, map, filter, if◌then◌else◌}
use denote.Ref.{Bor}
use Rattle.std.specs.FinSet as set
use Rattle.std.specs.Map.{lookup}
use Rattle.node_names.specs.NodeName.{Name}
use Rattle.node_names.specs.Same.{same_id, same_name, same_origin, has_id}
use Rattle.node_names.specs.declared.ids.MsgId.{MsgId}
use Rattle.frames.specs.Body.{Body}
use Rattle.frames.specs.declared.body.BodyOf.TheVariants.{Gossip, Graft, GraftPeer, Prune}
use Rattle.known_messages.specs.Held.{kept_last}
use Rattle.missing.specs.Missing.{announced_all, taken_first, got, without}
use Rattle.missing.specs.Wants.{first_want}
use Rattle.peer_sets.specs.Members.{is_member, eager_but, lazy_but, with_member, without_member, with_kind}
use Rattle.peer_sets.specs.Queue.{with_entries, without_entries}
use Rattle.peer_sets.specs.declared.members.PeerKind.{PeerKind}
use Rattle.peer_sets.specs.declared.members.PeerKind.TheVariants.{Eager, Lazy}
use Rattle.gossip_core.specs.declared.call.CallOf.{CallOf}
use Rattle.gossip_core.specs.declared.call.CallOf.TheVariants.{Broadcast, OnGossip, OnIHave, Fire, OnGraft, OnGraftPeer, OnPrune, Flush, Up, Down}
use Rattle.gossip_core.specs.Announcements.{announcements}
use Rattle.gossip_core.specs.Effects.{Effects}
use Rattle.gossip_core.specs.State.{GossipState}

-- A call of a node's gossip: the application broadcasts, a packet comes, a timer fires, the queued announcements are
-- to be sent, or a link comes up or goes down.
abbrev pub Call : Type 0
Call = CallOf (List ℕ) (List (MsgId × ℕ))

-- the call whose payload and announcements are borrowed, as a call that owns them
abbrev pub lent : CallOf (Bor (List ℕ)) (Bor (List (MsgId × ℕ))) → Call
lent (Broadcast payload) = Broadcast payload.now
lent (OnGossip sender id round payload) = OnGossip sender id round payload.now
lent (OnIHave sender entries) = OnIHave sender entries.now
lent (Fire id) = Fire id
lent (OnGraft sender id round) = OnGraft sender id round
lent (OnGraftPeer sender) = OnGraftPeer sender
lent (OnPrune sender) = OnPrune sender
lent Flush = Flush
lent (Up peer) = Up peer
lent (Down peer) = Down peer

-- The state after a call, what it sends and what it delivers.
pub record Outcome : Type 0 where
  pub state : GossipState
  pub sends : List (Name × Body)
  pub delivered : Option (MsgId × List ℕ)

-- The call leaves this state, and sends and delivers nothing.
abbrev pub quiet : GossipState → Outcome
quiet g = record { state = g; sends = []; delivered = None }

-- the state after the peer, if it is a member, was made eager or lazy
abbrev pub with_peer : Name → PeerKind → GossipState → GossipState
with_peer name kind g = record g { peers = record g.peers { members = with_kind name kind g.peers.members } }

-- the packet that carries the message to the peer
abbrev pub gossip_to : MsgId → ℕ → List ℕ → Name → Name × Body
gossip_to id round payload peer = (peer, Gossip id round payload)

-- The message is delivered and known, sent to the eager members and queued for the lazy ones, except for `left_out`.
-- Of the messages that were delivered the last `keep` are held.
abbrev pub spread : Option Name → MsgId → ℕ → List ℕ → GossipState → Outcome
spread left_out id round payload g =
    record {
      state =
          record g {
            peers = record g.peers { queued = with_entries (lazy_but left_out g.peers.members) id round g.peers.queued };
            known = set.insert g.known id;
            held = kept_last g.keep (g.held ++ (id, payload) ∷ []);
          };
      sends = map (gossip_to id round payload) (eager_but left_out g.peers.members);
      delivered = Some (id, payload);
    }

-- the id of the next broadcast
abbrev pub next_id : GossipState → MsgId
next_id g = record { origin = g.me; seq = g.spent + 1 }

-- the next round; the greatest round stays as it is
abbrev pub next_round : ℕ → ℕ
next_round round = min (round + 1) (2 ^ 32 - 1)

-- whether the node lacks the message, and did not broadcast it itself in this run
abbrev pub is_news : GossipState → MsgId → Bool
is_news g id = not (set.contains g.known id) && not (same_origin id.origin g.me)

-- A message that is known comes again: if its sender is a member, the sender is told to announce from now on.
abbrev pub repeated : Name → GossipState → Outcome
repeated sender g =
    if is_member g.peers.members sender
    then record { state = with_peer sender Lazy g; sends = (sender, Prune) ∷ []; delivered = None }
    else quiet g

-- A message comes for the first time: its announcements and its timer are dropped, and its sender becomes eager.
abbrev pub first_copy : Name → MsgId → ℕ → List ℕ → GossipState → Outcome
first_copy sender id round payload g =
    let done = spread (Some sender) id (next_round round) payload (record g { missing = got id g.missing }) in
    record done { state = with_peer sender Eager done.state }

-- The announcer of a message, if it is not the sender and its path is shorter than the sender's by the threshold or
-- more.
abbrev pub passed_by : ℕ → Name → ℕ → Option (Name × ℕ) → Option Name
passed_by threshold sender round None = None
passed_by threshold sender round (Some first) =
    if not (same_name first.0 sender) && nat_le (first.1 + threshold) round then Some first.0 else None

-- The nearer announcer that takes the sender's place when a member sends the first copy of a message: the peer that
-- announced the message first, if a threshold is set and its path was shorter by that much.
abbrev pub shortcut : GossipState → Name → MsgId → ℕ → Option Name
shortcut g sender id round =
    if g.threshold == 0 then None
    else if is_member g.peers.members sender then passed_by g.threshold sender round (first_want id g.missing.wants)
    else None

-- The announcer, if there is one, takes the sender's place in the tree: the announcer is asked for messages from now
-- on, the sender for announcements.
abbrev pub swapped : Name → Option Name → Outcome → Outcome
swapped sender None done = done
swapped sender (Some peer) done =
    record {
      state = with_peer sender Lazy (with_peer peer Eager done.state);
      sends = done.sends ++ (peer, GraftPeer) ∷ (sender, Prune) ∷ [];
      delivered = done.delivered;
    }

-- The timer fires: the peer that announced the message first is asked for it, and becomes eager.
abbrev pub asked : MsgId → Option (Name × ℕ) → GossipState → Outcome
asked id None g = quiet g
asked id (Some first) g = record { state = with_peer first.0 Eager g; sends = (first.0, Graft id first.1) ∷ []; delivered = None }

-- the answer to a peer that asks for a message: its payload, if it is held
abbrev pub answer : Name → MsgId → ℕ → Option (List ℕ) → List (Name × Body)
answer peer id round None = []
answer peer id round (Some payload) = gossip_to id round payload peer ∷ []

-- What each call does.
abbrev pub outcome : GossipState → Call → Outcome
outcome g (Broadcast payload) = spread None (next_id g) 0 payload (record g { spent = g.spent + 1 })
outcome g (OnGossip sender id round payload) =
    if set.contains g.known id then repeated sender g
    else if is_news g id then swapped sender (shortcut g sender id round) (first_copy sender id round payload g)
    else quiet g
outcome g (OnIHave sender entries) =
    if is_member g.peers.members sender
    then quiet (record g { missing = announced_all sender (filter (λ entry. is_news g entry.0) entries) g.missing })
    else quiet g
outcome g (Fire id) =
    if has_id g.missing.timers id
    then asked id (first_want id g.missing.wants) (record g { missing = taken_first id g.missing })
    else quiet g
outcome g (OnGraft sender id round) = record { state = with_peer sender Eager g; sends = answer sender id round (lookup (same_id id) g.held); delivered = None }
outcome g (OnGraftPeer sender) = quiet (with_peer sender Eager g)
outcome g (OnPrune sender) = quiet (with_peer sender Lazy g)
outcome g Flush = record { state = record g { peers = record g.peers { queued = [] } }; sends = announcements g.peers.queued; delivered = None }
outcome g (Up peer) = quiet (record g { peers = record g.peers { members = with_member peer g.peers.members } })
outcome g (Down peer) =
    quiet (record g {
      peers = record { members = without_member peer g.peers.members; queued = without_entries peer g.peers.queued };
      missing = without peer g.missing;
    })

-- the state after the links to these peers went down
abbrev pub after_downs : List Name → GossipState → GossipState
after_downs [] g = g
after_downs (name ∷ names) g = after_downs names (outcome g (Down name)).state

-- the state after the links to these peers came up
abbrev pub after_ups : List Name → GossipState → GossipState
after_ups [] g = g
after_ups (name ∷ names) g = after_ups names (outcome g (Up name)).state

-- the delivery after a call: the call's own, or else the earlier one
abbrev pub latest : Option (MsgId × List ℕ) → Option (MsgId × List ℕ) → Option (MsgId × List ℕ)
latest before None = before
latest before (Some delivered) = Some delivered

-- The outcome leads from the state before to the one after, and its packets and its delivery are appended.
pub record Gives (done : Outcome) (before : Effects) (new : GossipState) (after : Effects) : Type 0 where
  pub leaves : new ≡ done.state
  pub sent : after.sends ≡ before.sends ++ done.sends
  pub delivers : after.delivered ≡ latest before.delivered done.delivered

-- The call does what the table says.
abbrev pub Does : Call → GossipState → Effects → GossipState → Effects → Type 0
Does call old before new after = Gives (outcome old call) before new after
