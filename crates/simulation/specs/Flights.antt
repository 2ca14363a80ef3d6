-- The packets in flight that are about a message.
use Rattle.std.specs.Prelude.{ℕ, List, [], ◌∷◌, ◌++◌, slice_get, unwrap_or, if◌then◌else◌}
use Rattle.std.specs.Map.{lookup}
use Rattle.std.specs.Option.{option_map_or}
use Rattle.frames.specs.Content.{frame_content}
use Rattle.frames.specs.Frame.{Frame}
use Rattle.node_names.specs.Same.{same_id}
use Rattle.node_names.specs.declared.ids.MsgId.{MsgId}
use Rattle.world.specs.declared.packet.Packet.{Packet}
use Rattle.at_rest.specs.Silence.{is_silent}

-- the numbers that are listed for the message
abbrev pub numbers_at : MsgId → List (MsgId × List ℕ) → List ℕ
numbers_at id flights = unwrap_or (lookup (same_id id) flights) []

-- the number of a packet, if it carries, announces or asks for the message
abbrev pub number_if : MsgId → ℕ → Packet Frame → List ℕ
number_if id number packet = if is_silent id (frame_content packet.note) then [] else number ∷ []

-- the number, if the packet that was sent with it is about the message
abbrev pub about_at : MsgId → List (Packet Frame) → ℕ → List ℕ
about_at id sent number = option_map_or (λ (packet : Packet Frame). number_if id number packet) (slice_get sent number) []

-- those of the numbers whose packets are about the message, in their order
abbrev pub about : MsgId → List (Packet Frame) → List ℕ → List ℕ
about id sent [] = []
about id sent (number ∷ numbers) = about_at id sent number ++ about id sent numbers
