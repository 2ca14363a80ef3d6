-- A step that is made at its place puts the node that it leads to.
use Rattle.std.proofs.Common.{◌≡◌, ◌∙◌, ℕ, List, get_or, sym, ap}
use Rattle.std.proofs.Math.Seq.{map-set_same}
use Rattle.std.proofs.lemmas.List.{set-get_or}
use Rattle.std.proofs.lemmas.Option.{get_or_from_slice_get}
use Rattle.std.specs.Option.{unwrap_or}
use Rattle.std.specs.Prelude.{Option, Some, OnErr, OnOk, option_map, slice_get, slice_set}
use Rattle.std.specs.declared.result.Result.{Result}
use Rattle.std.specs.declared.result.Result.TheVariants.{Ok, Err}
use Rattle.protocol.specs.Stimulus.{Stimulus}
use Rattle.world.specs.Entry.{Entry}
use Rattle.world.specs.Plan.{CanStep, names_of, nodes_after, stepped_node, stimulus_by}
use Rattle.world.specs.declared.node_state.NodeState.{NodeState}
use Rattle.world.specs.declared.packet.Packet.{Packet}
use Rattle.world.proofs.NodeLemmas.{put_node-at}

module _ {C N T : Type 0} (is_turn : C → Stimulus N → T → Type 0) (nodes : List (NodeState C)) (sent : List (Packet N))
    (entry : Entry) (at : ℕ) (turn : T) (can : CanStep is_turn nodes sent entry at turn) where
  -- what stands at the place is the node that can step
  node_is : (node : NodeState C) → node ≡ get_or nodes at node → node ≡ can.node
  node_is node is = is ∙ get_or_from_slice_get nodes at can.node node can.there

  -- the node with another core stands in its place under its name
  pub names_stay : (node : NodeState C) (core : Option C) →
      node ≡ get_or nodes at node →
      names_of (slice_set nodes at (record node { core = core })) ≡ names_of nodes
  names_stay node core is = map-set_same (λ (n : NodeState C). n.name) nodes at (record node { core = core }) node (ap (λ (n : NodeState C). n.name) is)

  -- with the core that it had, nothing changed
  pub stays : {X E : Type 0} (result : Result X E) (node : NodeState C) (core after : C) →
      node ≡ get_or nodes at node →
      node.core ≡ Some core →
      OnErr result (after ≡ core) →
      OnErr result (slice_set nodes at (record node { core = Some after }) ≡ nodes)
  stays (Ok x) node core after is running same = tt
  stays (Err e) node core after is running same =
      let kept : ◌≡◌ {A = NodeState C} (record node { core = Some after }) node = (λ i. record node { core = (ap Some same ∙ sym running) i }) in
      ap (slice_set nodes at) (kept ∙ is) ∙ set-get_or nodes at node

  -- with the core that goes on, the step is made
  steps_on : (go : C → Stimulus N → C) →
      slice_set nodes at (record can.node { core = Some (go can.core can.told) })
      ≡ nodes_after (stepped_node go (slice_get nodes at) (stimulus_by sent entry.event entry.packet)) nodes
  steps_on go =
      put_node-at (record can.node { core = Some (go can.core can.told) }) nodes at can.first
      ∙ sym (
      ap (λ o. nodes_after (stepped_node go o (stimulus_by sent entry.event entry.packet)) nodes) can.there
      ∙ ap (λ o. nodes_after (stepped_node go (Some can.node) o) nodes) can.telling
      ∙ ap (λ o. nodes_after (Some (record can.node { core = option_map (λ core. go core can.told) o })) nodes) can.running
      )

  pub makes : {X E : Type 0} (go : C → Stimulus N → C) (result : Result X E) (node : NodeState C) (core after : C) (told : Stimulus N) →
      node ≡ get_or nodes at node →
      node.core ≡ Some core →
      stimulus_by sent entry.event entry.packet ≡ Some told →
      OnOk result (after ≡ go core told) →
      OnOk result (slice_set nodes at (record node { core = Some after })
      ≡ nodes_after (stepped_node go (slice_get nodes at) (stimulus_by sent entry.event entry.packet)) nodes)
  makes go (Err e) node core after told is running telling goes = tt
  makes go (Ok x) node core after told is running telling goes =
      let same_core : Some core ≡ Some can.core = sym running ∙ ap (λ (n : NodeState C). n.core) (node_is node is) ∙ can.running in
      let same_told : Some told ≡ Some can.told = sym telling ∙ can.telling in
      let core_is : core ≡ can.core = ap (λ o. unwrap_or o core) same_core in
      let told_is : told ≡ can.told = ap (λ o. unwrap_or o told) same_told in
      ap (λ (n : NodeState C). slice_set nodes at (record n { core = Some after })) (node_is node is)
      ∙ ap (λ c. slice_set nodes at (record can.node { core = Some c })) (goes ∙ ap (λ c. go c told) core_is ∙ ap (go can.core) told_is)
      ∙ steps_on go
