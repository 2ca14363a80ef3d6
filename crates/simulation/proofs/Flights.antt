-- The arrows of the packets that are about a message are those of all packets in flight.
use Rattle.std.proofs.Common.{◌≡◌, ◌∙◌, ℕ, List, [], ◌∷◌, ◌++◌, true, false, ap, refl, if◌then◌else◌}
use Rattle.std.specs.Option.{option_map_or}
use Rattle.std.specs.Prelude.{Bool, None, Option, Some, option_map, slice_get}
use Rattle.node_names.specs.declared.ids.MsgId.{MsgId}
use Rattle.world.specs.Group.{Group, node_of, origin_of}
use Rattle.world.specs.declared.packet.Packet.{Packet}
use Rattle.frames.specs.Content.{frame_content}
use Rattle.frames.specs.Frame.{Frame}
use Rattle.node_core.specs.Plum.{Plum}
use Rattle.at_rest.specs.Silence.{is_silent}
use Rattle.simulation.specs.Flights.{about, number_if}
use Rattle.simulation.specs.Graph.{flying_arrow, flying_at, flying_line, flying_lines}

pub drawn : (id : MsgId) (group : Group Plum Frame) (numbers : List ℕ) → flying_lines id group (about id group.sent numbers) ≡ flying_lines id group numbers
drawn id group [] = refl
drawn id group (number ∷ numbers) = go (drawn id group numbers) (slice_get group.sent number) refl
  where
    go : flying_lines id group (about id group.sent numbers) ≡ flying_lines id group numbers →
        (found : Option (Packet Frame)) →
        slice_get group.sent number ≡ found →
        flying_lines id group (option_map_or (λ (packet : Packet Frame). number_if id number packet) found [] ++ about id group.sent numbers)
        ≡ flying_line id group.nodes number found ++ flying_lines id group numbers
    go later None e = later
    go later (Some packet) e = silent (is_silent id (frame_content packet.note)) refl
      where
        silent : (b : Bool) →
            is_silent id (frame_content packet.note) ≡ b →
            flying_lines id group ((if b then [] else number ∷ []) ++ about id group.sent numbers)
            ≡ (if b then [] else flying_arrow id number packet.sender (option_map origin_of (node_of packet.to group.nodes))) ++ flying_lines id group numbers
        silent true is = later
        silent false is =
            ap (λ (rest : List ℕ). flying_at id group number ++ rest) later
            ∙ ap (λ (line : List ℕ). line ++ flying_lines id group numbers)
            (ap (flying_line id group.nodes number) e
            ∙ ap (λ (b : Bool). if b then [] else flying_arrow id number packet.sender (option_map origin_of (node_of packet.to group.nodes))) is)
