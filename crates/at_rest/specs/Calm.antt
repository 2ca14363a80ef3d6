-- When a group is calm: only broadcasting is under way in it, between nodes that run.
use Rattle.std.specs.Prelude.{◌≡◌, ◌≢◌, ◌&&◌, ◌||◌, Bool, Option, Some, None, true, false, is_none, is_some, not, slice_get}
use Rattle.std.specs.List.{AllByRecursion as Each, list_all}
use Rattle.std.specs.Option.{IfSome}
use Rattle.node_names.specs.NodeName.{Name}
use Rattle.protocol.specs.Content.{Content}
use Rattle.protocol.specs.CoreState.{CoreState}
use Rattle.world.specs.Group.{Group, core_of}
use Rattle.world.specs.Links.{IsRunning, IsSymmetric}
use Rattle.world.specs.declared.packet.Packet.{Packet}

-- The packet is not about membership and goes to a running node, and if it asks for a message, and so is answered, it
-- also comes from a running node.
pub record IsCalmPacket {C N : Type 0} (content : N → Content) (group : Group C N) (packet : Packet N) : Type 0 where
  pub broadcasts : (content packet.note).is_membership ≡ false
  pub arrives : IsRunning group packet.to
  pub is_answered : (content packet.note).asked ≢ None → IsRunning group packet.sender.name

-- Each packet in flight is calm, links go both ways, and every active member of a running node runs.
pub record IsCalm {C N : Type 0} (state : C → CoreState) (content : N → Content) (group : Group C N) : Type 0 where
  pub packets : Each (λ number. IfSome (slice_get group.sent number) (λ packet. IsCalmPacket content group packet)) group.flight
  pub symmetric : IsSymmetric state group

-- whether some core runs under the name
abbrev pub runs : {C N : Type 0} → Group C N → Name → Bool
runs group name = is_some (core_of name group.nodes)

-- whether the packet is calm
abbrev pub is_calm_packet : {C N : Type 0} → (N → Content) → Group C N → Packet N → Bool
is_calm_packet content group packet =
    not (content packet.note).is_membership && (runs group packet.to && (is_none (content packet.note).asked || runs group packet.sender.name))

-- whether the packet that was sent under this number, if one was, is calm
abbrev pub flies_calm : {C N : Type 0} → (N → Content) → Group C N → Option (Packet N) → Bool
flies_calm content group None = true
flies_calm content group (Some packet) = is_calm_packet content group packet

-- whether all packets in flight are calm
abbrev pub all_fly_calm : {C N : Type 0} → (N → Content) → Group C N → Bool
all_fly_calm content group = list_all (λ number. flies_calm content group (slice_get group.sent number)) group.flight
