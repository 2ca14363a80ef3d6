-- What a call that was decided sends and delivers.
use Rattle.std.specs.Prelude.{ℕ, List, [], ◌∷◌, ◌++◌, Option, None, Some, map}
use denote.Ref.{Bor}
use Rattle.node_names.specs.NodeName.{Name}
use Rattle.frames.specs.Body.{Body}
use Rattle.frames.specs.declared.body.BodyOf.TheVariants.{GraftPeer, Prune}
use Rattle.peer_sets.specs.Members.{eager_but}
use Rattle.peer_sets.specs.declared.members.PeerKind.{PeerKind}
use Rattle.gossip_core.specs.Effects.{Effects}
use Rattle.gossip_core.specs.Table.{gossip_to}
use Rattle.gossip_core.specs.declared.answer.AnswerOf.{AnswerOf}
use Rattle.gossip_core.specs.declared.answer.AnswerOf.TheVariants.{Nothing, Packet, Packets, Message}
use Rattle.gossip_core.specs.declared.answer.SpreadOf.{SpreadOf}

-- a message that goes on, with its payload and the members borrowed
abbrev pub Spread : Type 0
Spread = SpreadOf (Bor (List (Name × PeerKind))) (Bor (List ℕ))

-- what a call sends and delivers
abbrev pub Answer : Type 0
Answer = AnswerOf Body (List (Name × Body)) Spread

-- the packets by which the announcer, if there is one, takes the sender's place
abbrev pub swap_packets : Name → Option Name → List (Name × Body)
swap_packets sender None = []
swap_packets sender (Some announcer) = (announcer, GraftPeer) ∷ (sender, Prune) ∷ []

-- the packets that carry the message
abbrev pub pushes : Spread → List (Name × Body)
pushes s = map (gossip_to s.id s.round s.payload.now) (eager_but s.left_out s.members.now)

-- what the answer sends and delivers
abbrev pub effects_of : Answer → Effects
effects_of Nothing = record { sends = []; delivered = None }
effects_of (Packet to body) = record { sends = (to, body) ∷ []; delivered = None }
effects_of (Packets sends) = record { sends = sends; delivered = None }
effects_of (Message s others) = record { sends = pushes s ++ others; delivered = Some (s.id, s.payload.now) }
