-- The test of calm tells what the definition says.
use Rattle.std.proofs.Common.{◌≡◌, ◌∙◌, ℕ, List, [], ◌∷◌, true, false, sym, ap, refl}
use Rattle.std.specs.List.{AllByRecursion as Each, list_all}
use Rattle.std.specs.Option.{IfSome}
use Rattle.std.specs.Prelude.{◌&&◌, ◌||◌, Bool, Option, Some, None, is_none, is_some, not, slice_get}
use Rattle.std.proofs.lemmas.Bool.{false≢true}
use Rattle.node_names.specs.NodeName.{Name}
use Rattle.node_names.specs.declared.ids.MsgId.{MsgId}
use Rattle.protocol.specs.Content.{Content}
use Rattle.protocol.specs.CoreState.{CoreState}
use Rattle.world.specs.Group.{Group, core_in, node_of}
use Rattle.world.specs.Links.{IsRunning, IsSymmetric}
use Rattle.world.specs.declared.node_state.NodeState.{NodeState}
use Rattle.world.specs.declared.packet.Packet.{Packet}
use Rattle.at_rest.specs.Calm.{IsCalm, IsCalmPacket, all_fly_calm, flies_calm, is_calm_packet, runs}

and_both : (a b : Bool) → (a && b) ≡ true → (a ≡ true) × (b ≡ true)
and_both true b h = (refl, h)
and_both false b h = absurd (false≢true h)

both_and : (a b : Bool) → a ≡ true → b ≡ true → (a && b) ≡ true
both_and true b x y = y
both_and false b x y = absurd (false≢true x)

not_true : (a : Bool) → not a ≡ true → a ≡ false
not_true false h = refl
not_true true h = absurd (false≢true h)

false_not : (a : Bool) → a ≡ false → not a ≡ true
false_not a h = ap not h

module _ {C N : Type 0} (state : C → CoreState) (content : N → Content) (group : Group C N) where
  -- the test of a running node
  runs_is : (name : Name) → runs group name ≡ true → IsRunning group name
  runs_is name h = go (node_of name group.nodes) refl h
    where
      at : (node : NodeState C) → node_of name group.nodes ≡ Some node → (o : Option C) → node.core ≡ o → is_some o ≡ true → IsRunning group name
      at node known (Some core) running some = (core, (node, known, running))
      at node known None running none = absurd (false≢true none)

      go : (o : Option (NodeState C)) → node_of name group.nodes ≡ o → is_some (core_in o) ≡ true → IsRunning group name
      go (Some node) known some = at node known node.core refl some
      go None known none = absurd (false≢true none)

  is_runs : (name : Name) → IsRunning group name → runs group name ≡ true
  is_runs name running = ap (λ (o : Option (NodeState C)). is_some (core_in o)) running.1.1 ∙ ap is_some running.1.2

  -- the test of a packet
  packet_is : (packet : Packet N) → is_calm_packet content group packet ≡ true → IsCalmPacket content group packet
  packet_is packet h =
      let first =
      and_both (not (content packet.note).is_membership) (runs group packet.to && (is_none (content packet.note).asked || runs group packet.sender.name)) h in
      let second = and_both (runs group packet.to) (is_none (content packet.note).asked || runs group packet.sender.name) first.1 in
      record {
        broadcasts = not_true (content packet.note).is_membership first.0;
        arrives = runs_is packet.to second.0;
        is_answered = λ asks. answered (content packet.note).asked refl second.1 asks;
      }
    where
      answered : (o : Option MsgId) →
          (content packet.note).asked ≡ o →
          (is_none o || runs group packet.sender.name) ≡ true →
          ((content packet.note).asked ≡ None → ⊥) →
          IsRunning group packet.sender.name
      answered None at h asks = absurd (asks at)
      answered (Some id) at h asks = runs_is packet.sender.name h

  is_packet : (packet : Packet N) → IsCalmPacket content group packet → is_calm_packet content group packet ≡ true
  is_packet packet is =
      both_and (not (content packet.note).is_membership)
      (runs group packet.to && (is_none (content packet.note).asked || runs group packet.sender.name))
      (false_not (content packet.note).is_membership is.broadcasts)
      (both_and (runs group packet.to) (is_none (content packet.note).asked || runs group packet.sender.name)
      (is_runs packet.to is.arrives) (answered (content packet.note).asked refl))
    where
      answered : (o : Option MsgId) → (content packet.note).asked ≡ o → (is_none o || runs group packet.sender.name) ≡ true
      answered None at = refl
      answered (Some id) at = is_runs packet.sender.name (is.is_answered (λ none. let no : Some id ≡ None = sym at ∙ none in cc))

  -- the test of what flies
  flight_is : (flight : List ℕ) →
      list_all (λ number. flies_calm content group (slice_get group.sent number)) flight ≡ true →
      Each (λ number. IfSome (slice_get group.sent number) (λ packet. IsCalmPacket content group packet)) flight
  flight_is [] h = tt
  flight_is (number ∷ flight) h =
      let both =
      and_both (flies_calm content group (slice_get group.sent number)) (list_all (λ n. flies_calm content group (slice_get group.sent n)) flight) h in
      (one (slice_get group.sent number) both.0, flight_is flight both.1)
    where
      one : (o : Option (Packet N)) → flies_calm content group o ≡ true → IfSome o (λ packet. IsCalmPacket content group packet)
      one None h = tt
      one (Some packet) h = packet_is packet h

  is_flight : (flight : List ℕ) →
      Each (λ number. IfSome (slice_get group.sent number) (λ packet. IsCalmPacket content group packet)) flight →
      list_all (λ number. flies_calm content group (slice_get group.sent number)) flight ≡ true
  is_flight [] h = refl
  is_flight (number ∷ flight) h =
      both_and (flies_calm content group (slice_get group.sent number))
      (list_all (λ n. flies_calm content group (slice_get group.sent n)) flight) (one (slice_get group.sent number) h.0) (is_flight flight h.1)
    where
      one : (o : Option (Packet N)) → IfSome o (λ packet. IsCalmPacket content group packet) → flies_calm content group o ≡ true
      one None h = refl
      one (Some packet) h = is_packet packet h

  -- so both tests tell whether the group is calm
  pub calm_is : all_fly_calm content group ≡ true → IsSymmetric state group → IsCalm state content group
  calm_is flies symmetric = record { packets = flight_is group.flight flies; symmetric = symmetric }

  pub is_calm : IsCalm state content group → all_fly_calm content group ≡ true
  is_calm calm = is_flight group.flight calm.packets
