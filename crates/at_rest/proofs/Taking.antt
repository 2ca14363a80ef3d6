-- What the next event of a calm group leaves: less load, a calm group, and another state of the node that it steps
-- alone.
use Rattle.std.proofs.Common.{◌≡◌, ◌∙◌, ◌+◌, ◌≤◌, List, [], ◌∷◌, false, sym, ap, subst, inr}
use Rattle.std.specs.List.{IsDistinct, position}
use Rattle.std.specs.Prelude.{Some, None, reverse}
use Rattle.std.proofs.lemmas.List.{reverse-append}
use Rattle.node_names.specs.NodeName.{Name}
use Rattle.node_names.specs.Same.{same_name, same_name-Decides}
use Rattle.node_names.specs.declared.ids.MsgId.{MsgId}
use Rattle.protocol.specs.Delivery.{Delivery}
use Rattle.protocol.specs.Laws.{Laws}
use Rattle.world.specs.Event.{Event}
use Rattle.world.specs.Group.{Group, Logged, node_of, put_node}
use Rattle.world.specs.Honest.{Honest}
use Rattle.world.specs.Plan.{names_of}
use Rattle.world.specs.Refusals.{sent_under}
use Rattle.world.specs.Rest.{SaidAndCalm, IsCalm as IsCalmEvent}
use Rattle.world.specs.Run.{Applied, Effect, Run}
use Rattle.world.specs.declared.event.EventOf.TheVariants.{Start, Broadcast, Arrive, Lose, Again, Fire, Flush, Down, Shuffle, Join, Stop}
use Rattle.world.specs.declared.node_state.NodeState.{NodeState}
use Rattle.world.specs.declared.packet.Packet.{Packet}
use Rattle.world.proofs.FindLemmas.{found_name, put_same}
use Rattle.world.proofs.Places.{node_nowhere}
use Rattle.frames.specs.Content.{frame_content}
use Rattle.frames.specs.Frame.{Frame}
use Rattle.node_core.specs.Plum.{IsSoundPlum, Plum, plum_state}
use Rattle.node_core.specs.Steps.{PlumStarts, PlumSteps}
use Rattle.at_rest.specs.Calm.{IsCalm}
use Rattle.at_rest.specs.Load.{load, said_ids}
use Rattle.at_rest.specs.Next.{StepsNode}
use Rattle.at_rest.specs.Settling.{IsNext}
use Rattle.at_rest.specs.declared.left.Kind.TheVariants.{Announcements}
use Rattle.at_rest.proofs.Fits.{StepsFit}
use Rattle.at_rest.proofs.Settled.{event_settles}
use Rattle.at_rest.proofs.Lefts.{same_names}

-- One node is replaced, and keeps its place.
abbrev pub IsPut : Group Plum Frame → Group Plum Frame → Name → Type 0
IsPut before after name =
    (node : NodeState Plum) × (core : Plum) × (node_of name before.nodes ≡ Some node) × (after.nodes ≡ put_node (record node { core = Some core }) before.nodes)

module _
    (laws : Laws plum_state frame_content IsSoundPlum PlumStarts PlumSteps)
    (steps_fit : StepsFit)
    (old new : Logged Plum Frame)
    (event : Event)
    (given : List Delivery)
    (run : Run plum_state PlumStarts PlumSteps old.limits (reverse old.log) old.group)
    (calm : IsCalm plum_state frame_content old.group)
    (next : IsNext plum_state old.group event)
    (applied : Applied plum_state PlumStarts PlumSteps event given old new)
  where
    abbrev pub longer : reverse new.log ≡ applied.entry ∷ reverse old.log
    longer = ap reverse applied.logged ∙ reverse-append old.log (applied.entry ∷ [])

    effect : Effect plum_state PlumStarts PlumSteps old.limits old.group applied.entry new.group event
    effect = subst (λ e. Effect plum_state PlumStarts PlumSteps old.limits old.group applied.entry new.group e) applied.of_event applied.happened.1

    abbrev pub Taken : Type 0
    Taken =
        (load (said_ids (reverse new.log)) new.group + 1 ≤ load (said_ids (reverse old.log)) old.group)
        × IsCalm plum_state frame_content new.group
        × (applied.entry.moved ≡ false)

    pub taken : Honest (reverse new.log) → Taken
    taken honest =
        let all : Honest (applied.entry ∷ reverse old.log) = subst Honest longer honest in
        let settles =
        event_settles laws steps_fit old.limits (reverse old.log) applied.entry old.group new.group run calm all.0 event applied.of_event next effect in (
          subst (λ history. load (said_ids history) new.group + 1 ≤ load (said_ids (reverse old.log)) old.group) (sym longer) settles.0,
          settles.1,
          settles.2,
        )

    -- whoever was undisturbed stays so
    pub still_undisturbed : Honest (reverse new.log) → (id : MsgId) → SaidAndCalm (reverse old.log) id → SaidAndCalm (reverse new.log) id
    still_undisturbed honest id calm_before =
        subst (λ history. SaidAndCalm history id) (sym longer)
        (inr (subst IsCalmEvent (sym applied.of_event) (harmless event next), (taken honest).2, calm_before))
      where
        harmless : (e : Event) → IsNext plum_state old.group e → IsCalmEvent e
        harmless (Arrive place dice) is = tt
        harmless (Flush other) is = tt
        harmless (Fire other i) is = tt
        harmless (Start other incarnation peers contact) is = absurd is
        harmless (Broadcast other payload) is = absurd is
        harmless (Lose place) is = absurd is
        harmless (Again number) is = absurd is
        harmless (Down other peer dice) is = absurd is
        harmless (Shuffle other dice) is = absurd is
        harmless (Join other contact) is = absurd is
        harmless (Stop other) is = absurd is

    -- the node that it steps
    pub stepped : (name : Name) → StepsNode old.group event name → IsPut old.group new.group name
    stepped name at = go event effect at
      where
        go : (e : Event) →
            Effect plum_state PlumStarts PlumSteps old.limits old.group applied.entry new.group e →
            StepsNode old.group e name →
            IsPut old.group new.group name
        go (Arrive place dice) does at =
            let there : Some at.0 ≡ Some does.packet = sym at.1 ∙ ap (λ n. sent_under old.group.sent n) does.in_flight ∙ does.sent in
            let same : at.0 ≡ does.packet = cc in
            let to : does.packet.to ≡ name = sym (ap (λ (p : Packet Frame). p.to) same) ∙ at.2 in
            (does.acts.node, does.acts.new, subst (λ n. node_of n old.group.nodes ≡ Some does.acts.node) to does.acts.known, does.acts.nodes)
        go (Flush other) does at = (does.1.node, does.1.new, subst (λ n. node_of n old.group.nodes ≡ Some does.1.node) at does.1.known, does.1.nodes)
        go (Fire other id) does at = (does.1.node, does.1.new, subst (λ n. node_of n old.group.nodes ≡ Some does.1.node) at does.1.known, does.1.nodes)
        go (Start other incarnation peers contact) does at = absurd at
        go (Broadcast other payload) does at = absurd at
        go (Lose place) does at = absurd at
        go (Again number) does at = absurd at
        go (Down other peer dice) does at = absurd at
        go (Shuffle other dice) does at = absurd at
        go (Join other contact) does at = absurd at
        go (Stop other) does at = absurd at

-- a node that is put has its name among the names
pub is_named : (before after : Group Plum Frame) (name : Name) →
    IsPut before after name →
    (keys : List Name) →
    keys ≡ names_of after.nodes →
    position (same_name name) keys ≡ None →
    ⊥
is_named before after name put keys named nowhere =
    let node = record put.0 { core = Some put.1 } in
    let same : name ≡ put.0.name = found_name name before.nodes put.0 put.2 in
    let there : node_of name after.nodes ≡ Some node =
    ap (λ (ns : List (NodeState Plum)). node_of name ns) put.3 ∙ put_same name node before.nodes ((same_name-Decides name put.0.name).1 same) in
    let none : None ≡ Some node = sym (node_nowhere name keys after.nodes named nowhere) ∙ there in
    cc

-- the names stay distinct
pub still_distinct : (before after : Group Plum Frame) (name : Name) →
    IsPut before after name →
    IsDistinct same_name (names_of before.nodes) →
    IsDistinct same_name (names_of after.nodes)
still_distinct before after name put distinct =
    subst (IsDistinct same_name) (sym (same_names plum_state Announcements before.nodes after.nodes name put.0 put.1 put.2 put.3 distinct)) distinct
