-- What a core holds and receives fits frames, and therefore so does what it sends.
use Rattle.std.specs.Prelude.{◌≡◌, ◌<◌, ◌≤◌, true, List, length}
use Rattle.std.specs.List.{AllByRecursion as Each}
use Rattle.node_names.specs.NodeName.{Name}
use Rattle.protocol.specs.Stimulus.{Stimulus}
use Rattle.protocol.specs.declared.TheConstants.{MAX_PAYLOAD}
use Rattle.protocol.specs.declared.stimulus.StimulusOf.TheVariants.{Broadcast, Arrive, Fire, Flush, Down, Shuffle, Join}
use Rattle.frames.specs.Body.{Body}
use Rattle.frames.specs.Frame.{Frame, has_good_fields, has_good_counts}
use Rattle.gossip_core.specs.State.{GossipState}

-- The messages that are held, queued or wanted are numbered from 1, and no held payload is longer than payloads may be.
pub record FitsFrames (g : GossipState) : Type 0 where
  pub held : Each (λ message. (0 < message.0.seq) × (length message.1 ≤ MAX_PAYLOAD)) g.held
  pub queued : Each (λ entry. 0 < entry.1.seq) g.peers.queued
  pub wants : Each (λ entry. 0 < entry.0.seq) g.missing.wants

-- The body fits a frame.
abbrev pub IsFit : Body → Type 0
IsFit body = (has_good_fields body ≡ true) × (has_good_counts body ≡ true)

-- All these bodies fit frames.
abbrev pub AreFit : List (Name × Body) → Type 0
AreFit sends = Each (λ send. IsFit send.1) sends

-- What comes fits: a payload is no longer than payloads may be, and a packet is a frame.
abbrev pub ComesFit : Stimulus Frame → Type 0
ComesFit (Broadcast payload) = length payload ≤ MAX_PAYLOAD
ComesFit (Arrive sender frame dice) = IsFit frame.body
ComesFit (Fire id) = Unit {0}
ComesFit Flush = Unit {0}
ComesFit (Down peer dice) = Unit {0}
ComesFit (Shuffle dice) = Unit {0}
ComesFit (Join contact) = Unit {0}
