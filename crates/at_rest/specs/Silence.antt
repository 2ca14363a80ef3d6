-- Tests of whether packets and cores mention a message.
use Rattle.std.specs.Prelude.{ℕ, Bool, true, false, not, ◌&&◌, List, Option, Some, None, slice_get}
use Rattle.std.specs.List.{list_all, list_any}
use Rattle.std.specs.Option.{option_map_or}
use Rattle.node_names.specs.NodeName.{Name}
use Rattle.node_names.specs.Same.{has_id, same_id}
use Rattle.node_names.specs.declared.ids.MsgId.{MsgId}
use Rattle.protocol.specs.Content.{Content}
use Rattle.protocol.specs.CoreState.{CoreState}
use Rattle.protocol.specs.SpreadLaw.{is_carried}
use Rattle.world.specs.Group.{core_of}
use Rattle.world.specs.declared.node_state.NodeState.{NodeState}
use Rattle.world.specs.declared.packet.Packet.{Packet}

-- whether an announcement is of the message
abbrev pub is_announced : MsgId → List (MsgId × ℕ) → Bool
is_announced id announced = list_any (λ entry. same_id id entry.0) announced

-- whether the message is asked for
abbrev pub is_asked : MsgId → Option MsgId → Bool
is_asked id None = false
is_asked id (Some asked) = same_id id asked

-- whether a packet with this content does not mention the message
unfoldable pub is_silent : MsgId → Content → Bool
is_silent id content = not (is_carried id content.carried) && (not (is_announced id content.announced) && not (is_asked id content.asked))

-- whether the packet of this number, if there is one, does not mention the message
abbrev pub is_silent_at : {N : Type 0} → (N → Content) → MsgId → List (Packet N) → ℕ → Bool
is_silent_at {N} content id sent number = option_map_or (λ (packet : Packet N). is_silent id (content packet.note)) (slice_get sent number) true

-- whether no packet in flight mentions the message
abbrev pub is_silent_flight : {N : Type 0} → (N → Content) → MsgId → List (Packet N) → List ℕ → Bool
is_silent_flight content id sent flight = list_all (λ number. is_silent_at content id sent number) flight

-- whether an announcement of the message is queued
abbrev pub is_queued : MsgId → List (Name × MsgId × ℕ) → Bool
is_queued id queued = list_any (λ entry. same_id id entry.1) queued

-- whether a core has no announcement of the message queued and no timer for it
unfoldable pub is_quiet : MsgId → CoreState → Bool
is_quiet id core = not (is_queued id core.queued) && not (has_id core.timers id)

-- whether the core under the name, if one runs, is quiet
abbrev pub is_quiet_at : {C : Type 0} → (C → CoreState) → MsgId → List (NodeState C) → Name → Bool
is_quiet_at {C} state id nodes name = option_map_or (λ (core : C). is_quiet id (state core)) (core_of name nodes) true

-- whether all cores are quiet
abbrev pub are_quiet : {C : Type 0} → (C → CoreState) → MsgId → List (NodeState C) → Bool
are_quiet {C} state id nodes = list_all (λ (node : NodeState C). is_quiet_at state id nodes node.name) nodes
