-- What `==` computes for frame ids.
use Rattle.std.specs.Prelude.{◌≡◌, ◌&&◌, ℕ, Bool, List, Some, IsSome, nat_eq, slice_get}
use Rattle.std.specs.Map.{lookup}
use Rattle.std.specs.Bool.{Decides}
use Rattle.std.specs.Cmp.{unsigned_Decides}
use Rattle.std.proofs.Common.{ap}
use Rattle.std.proofs.lemmas.Bool.Decides.{Decides-like, Decides-and}
use Rattle.node_names.specs.Same.{same_origin, same_origin-Decides}
use Rattle.protocol.specs.Lists.{IsOneOf}
use Rattle.world.specs.declared.packet.Packet.{Packet}
use Rattle.frames.specs.Frame.{Frame}
use Rattle.trace_merge.specs.declared.frame_index.FrameId.{FrameId}

-- whether two frame ids have the same sender and number
abbrev pub same_frame_id : FrameId → FrameId → Bool
same_frame_id a b = same_origin a.sender b.sender && nat_eq a.number b.number

pub same_frame_id-Decides : (a b : FrameId) → Decides (same_frame_id a b) (a ≡ b)
same_frame_id-Decides a b =
    Decides-like (same_frame_id a b)
    (λ e i. record { sender = e.0 i; number = e.1 i })
    (λ e. (ap (λ (id : FrameId). id.sender) e, ap (λ (id : FrameId). id.number) e))
    (Decides-and _ _ (same_origin-Decides a.sender b.sender) (unsigned_Decides a.number b.number))

-- the frame id of a packet
abbrev pub id_of : Packet Frame → FrameId
id_of packet = record { sender = packet.sender; number = packet.note.number }

-- The frames of all these packets are found, and the number that is found is that of the packet with the frame.
pub record AreFound (sent : List (Packet Frame)) (numbers : List (FrameId × ℕ)) : Type 0 where
  pub found : (packet : Packet Frame) → IsOneOf packet sent → IsSome (lookup (same_frame_id (id_of packet)) numbers)
  pub told : (id : FrameId) (n : ℕ) →
      lookup (same_frame_id id) numbers ≡ Some n →
      (packet : Packet Frame) × (slice_get sent n ≡ Some packet) × (id_of packet ≡ id)
