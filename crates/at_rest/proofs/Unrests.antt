-- The ids of packets and cores tell what the tests of silence tell.
use Rattle.std.proofs.Common.{◌≡◌, ◌∙◌, ℕ, List, [], ◌∷◌, ◌++◌, map, true, false, sym, ap, refl}
use Rattle.std.specs.List.{list_all, list_any}
use Rattle.std.specs.Option.{option_map_or}
use Rattle.std.specs.Prelude.{◌↔◌, ◌&&◌, ◌||◌, Bool, Option, Some, None, not, slice_get}
use Rattle.std.proofs.lemmas.List.Folds.{list_any-append}
use Rattle.node_names.specs.NodeName.{Name}
use Rattle.node_names.specs.Same.{has_id, same_id}
use Rattle.node_names.specs.declared.ids.MsgId.{MsgId}
use Rattle.protocol.specs.Content.{Content}
use Rattle.protocol.specs.CoreState.{CoreState}
use Rattle.protocol.specs.SpreadLaw.{is_carried}
use Rattle.world.specs.Group.{Group, core_of}
use Rattle.world.specs.Rest.{IsAtRest}
use Rattle.world.specs.declared.node_state.NodeState.{NodeState}
use Rattle.world.specs.declared.packet.Packet.{Packet}
use Rattle.at_rest.specs.Silence.{are_quiet, is_announced, is_asked, is_quiet, is_quiet_at, is_silent, is_silent_at, is_silent_flight}
use Rattle.at_rest.specs.Unrest.{Adds, asked_ids, carried_ids, content_ids, core_ids, flight_ids, node_ids, nodes_ids, packet_ids}
use Rattle.at_rest.proofs.Silences.{rest_is}

or-false : (a : Bool) → (a || false) ≡ a
or-false true = refl
or-false false = refl

-- neither of two lists has what the two together lack
neither : (id : MsgId) (xs ys : List MsgId) → not (has_id (xs ++ ys) id) ≡ (not (has_id xs id) && not (has_id ys id))
neither id xs ys = ap not (list_any-append (same_id id) xs ys) ∙ go (has_id xs id)
  where
    go : (b : Bool) → not (b || has_id ys id) ≡ (not b && not (has_id ys id))
    go true = refl
    go false = refl

mapped : {X : Type 0} (f : X → MsgId) (xs : List X) (id : MsgId) → has_id (map f xs) id ≡ list_any (λ x. same_id id (f x)) xs
mapped f [] id = refl
mapped f (x ∷ xs) id = ap (λ b. same_id id (f x) || b) (mapped f xs id)

carried_is : (id : MsgId) (carried : Option (MsgId × List ℕ)) → has_id (carried_ids carried) id ≡ is_carried id carried
carried_is id None = refl
carried_is id (Some message) = or-false (same_id id message.0)

asked_is : (id : MsgId) (asked : Option MsgId) → has_id (asked_ids asked) id ≡ is_asked id asked
asked_is id None = refl
asked_is id (Some other) = or-false (same_id id other)

content_is : (id : MsgId) (content : Content) → not (has_id (content_ids content) id) ≡ is_silent id content
unfolding is_silent
content_is id content =
    neither id (carried_ids content.carried) (map (λ (entry : MsgId × ℕ). entry.0) content.announced ++ asked_ids content.asked)
    ∙ ap (λ b. not (has_id (carried_ids content.carried) id) && b)
    (neither id (map (λ (entry : MsgId × ℕ). entry.0) content.announced) (asked_ids content.asked))
    ∙ ap (λ b. not b && (not (has_id (map (λ (entry : MsgId × ℕ). entry.0) content.announced) id) && not (has_id (asked_ids content.asked) id)))
    (carried_is id content.carried)
    ∙ ap (λ b. not (is_carried id content.carried) && (not b && not (has_id (asked_ids content.asked) id)))
    (mapped (λ (entry : MsgId × ℕ). entry.0) content.announced id)
    ∙ ap (λ b. not (is_carried id content.carried) && (not (is_announced id content.announced) && not b)) (asked_is id content.asked)

core_is : (id : MsgId) (core : CoreState) → not (has_id (core_ids core) id) ≡ is_quiet id core
unfolding is_quiet
core_is id core =
    neither id (map (λ (entry : Name × MsgId × ℕ). entry.1) core.queued) core.timers
    ∙ ap (λ b. not b && not (has_id core.timers id)) (mapped (λ (entry : Name × MsgId × ℕ). entry.1) core.queued id)

module _ {C N : Type 0} (state : C → CoreState) (content : N → Content) (id : MsgId) where
  packet_is : (sent : List (Packet N)) (number : ℕ) → not (has_id (packet_ids content sent number) id) ≡ is_silent_at content id sent number
  packet_is sent number = go (slice_get sent number)
    where
      go : (o : Option (Packet N)) →
          not (has_id (option_map_or (λ (packet : Packet N). content_ids (content packet.note)) o []) id)
          ≡ option_map_or (λ (packet : Packet N). is_silent id (content packet.note)) o true
      go None = refl
      go (Some packet) = content_is id (content packet.note)

  flight_is : (sent : List (Packet N)) (flight : List ℕ) → not (has_id (flight_ids content sent flight) id) ≡ is_silent_flight content id sent flight
  flight_is sent [] = refl
  flight_is sent (number ∷ flight) =
      neither id (packet_ids content sent number) (flight_ids content sent flight)
      ∙ ap (λ b. b && not (has_id (flight_ids content sent flight) id)) (packet_is sent number)
      ∙ ap (λ b. is_silent_at content id sent number && b) (flight_is sent flight)

  node_is : (nodes : List (NodeState C)) (name : Name) → not (has_id (node_ids state nodes name) id) ≡ is_quiet_at state id nodes name
  node_is nodes name = go (core_of name nodes)
    where
      go : (o : Option C) →
          not (has_id (option_map_or (λ (core : C). core_ids (state core)) o []) id) ≡ option_map_or (λ (core : C). is_quiet id (state core)) o true
      go None = refl
      go (Some core) = core_is id (state core)

  nodes_are : (nodes others : List (NodeState C)) →
      not (has_id (nodes_ids state nodes others) id) ≡ list_all (λ (node : NodeState C). is_quiet_at state id nodes node.name) others
  nodes_are nodes [] = refl
  nodes_are nodes (node ∷ others) =
      neither id (node_ids state nodes node.name) (nodes_ids state nodes others)
      ∙ ap (λ b. b && not (has_id (nodes_ids state nodes others) id)) (node_is nodes node.name)
      ∙ ap (λ b. is_quiet_at state id nodes node.name && b) (nodes_are nodes others)

  not_false : (b : Bool) → (b ≡ false) → not b ≡ true
  not_false b e = ap not e

  false_of : (b : Bool) → not b ≡ true → b ≡ false
  false_of true e = sym e
  false_of false e = refl

  -- so a list of just these ids lacks those for which the group is at rest
  pub unrest_is : (group : Group C N) (ids : List MsgId) →
      Adds (flight_ids content group.sent group.flight) (nodes_ids state group.nodes group.nodes) ids →
      (has_id ids id ≡ false) ↔ IsAtRest state content group id
  unrest_is group ids adds =
      let tests : not (has_id ids id) ≡ (is_silent_flight content id group.sent group.flight && are_quiet state id group.nodes) =
      ap not (adds id)
      ∙ neither id (flight_ids content group.sent group.flight) (nodes_ids state group.nodes group.nodes)
      ∙ ap (λ b. b && not (has_id (nodes_ids state group.nodes group.nodes) id)) (flight_is group.sent group.flight)
      ∙ ap (λ b. is_silent_flight content id group.sent group.flight && b) (nodes_are group.nodes group.nodes) in
      let rest = rest_is state content group id (not (has_id ids id)) tests in
      (λ e. rest.0 (not_false (has_id ids id) e), λ at_rest. false_of (has_id ids id) (rest.1 at_rest))
