-- Each event of the settling of a calm group makes its load less, and leaves it calm; so there are no more of them than
-- its load.
use Rattle.std.proofs.Common.{◌≡◌, ◌∙◌, ◌+◌, ◌≤◌, ℕ, List, [], ◌∷◌, ◌++◌, length, true, false, sym, ap, refl, subst, inl, inr, arith}
use Rattle.std.specs.List.{AllByRecursion as Each}
use Rattle.std.specs.Option.{IfSome}
use Rattle.std.specs.Prelude.{◌||◌, Option, Some, None, option_map, slice_get}
use Rattle.node_names.specs.NodeName.{Name}
use Rattle.node_names.specs.Limits.{Limits}
use Rattle.node_names.specs.Same.{has_id, has_name, same_id-Decides}
use Rattle.node_names.specs.declared.dice.Dice.{Dice}
use Rattle.node_names.specs.declared.ids.MsgId.{MsgId}
use Rattle.protocol.specs.Delivery.{Delivery}
use Rattle.protocol.specs.DeliveryLaw.{ids}
use Rattle.protocol.specs.Laws.{Laws}
use Rattle.protocol.specs.Lists.{IsOneOf}
use Rattle.protocol.specs.declared.stimulus.StimulusOf.TheVariants as stimulus
use Rattle.world.specs.Entry.{Entry}
use Rattle.world.specs.Event.{Event}
use Rattle.world.specs.Group.{Group, core_in, core_of}
use Rattle.world.specs.History.{Said, Says}
use Rattle.world.specs.Links.{IsRunning}
use Rattle.world.specs.Run.{Acts, Arrives, Effect, Run}
use Rattle.world.specs.declared.event.EventOf.TheVariants.{Start, Broadcast, Arrive, Lose, Again, Fire, Flush, Down, Shuffle, Join, Stop}
use Rattle.world.specs.declared.node_state.NodeState.{NodeState}
use Rattle.world.specs.declared.packet.Packet.{Packet}
use Rattle.world.proofs.Kept.{Keeps, each-at}
use Rattle.world.proofs.Runs.{run_keeps}
use Rattle.world.proofs.Steps.{arrive_step, fire_step, flush_step}
use Rattle.world.proofs.TrafficRuns.{run_sent}
use Rattle.world.proofs.Weights.{AreSent}
use Rattle.frames.specs.Body.{Body}
use Rattle.frames.specs.Content.{body_content, frame_content}
use Rattle.frames.specs.Frame.{Frame}
use Rattle.node_core.specs.Fits.{IsFit}
use Rattle.node_core.specs.Plum.{IsSoundPlum, Plum, plum_state}
use Rattle.node_core.specs.Steps.{PlumStarts, PlumSteps}
use Rattle.at_rest.specs.Calm.{IsCalm, IsCalmPacket}
use Rattle.at_rest.specs.Load.{body_load, load, said_by, said_ids}
use Rattle.at_rest.specs.Settling.{IsNext, queue_of, timers_of}
use Rattle.at_rest.proofs.Calms.{calm_after, same_active}
use Rattle.at_rest.proofs.Fits.{StepsFit, run_fits}
use Rattle.at_rest.proofs.Loads.{load_less}
use Rattle.at_rest.proofs.Sums.{said_one}
use Rattle.at_rest.proofs.Turning.{asker_of, arrival_lighter, firing_turns, flush_turns}

-- what an event delivers that says nothing was said before
said_before : (past : List Entry) (entry : Entry) →
    ((id : MsgId) (p : List ℕ) → Says entry.event past id p → ⊥) →
    (given : List Delivery) →
    Each (λ (d : Delivery). Said (entry ∷ past) d.id d.payload) given →
    (id : MsgId) →
    IsOneOf id (ids given) →
    IsOneOf id (said_ids past)
said_before past entry silent [] honest id one = absurd one
said_before past entry silent (d ∷ given) honest id one =
    elim one [
      | inl here ↦ elim honest.0 [
        | inl now ↦ absurd (silent d.id d.payload now)
        | inr before ↦ subst (λ i. IsOneOf i (said_ids past)) (sym here) (said_one past d.id d.payload before)
      ]
      | inr later ↦ said_before past entry silent given honest.1 id later
    ]

-- the peer that asks is the sender of the packet, which asks for a message
asker_is : (content_asked : Option MsgId) (sender other : Name) (body : Body) →
    (body_content body).asked ≡ content_asked →
    asker_of sender body ≡ Some other →
    ((body_content body).asked ≡ None → ⊥) × (sender ≡ other)
asker_is None sender other body at is = let no : None ≡ Some other = sym (ap (λ (o : Option MsgId). option_map (λ (id : MsgId). sender) o) at) ∙ is in cc
asker_is (Some id) sender other body at is =
    let same : Some sender ≡ Some other = sym (ap (λ (o : Option MsgId). option_map (λ (i : MsgId). sender) o) at) ∙ is in
    ((λ none. let no : Some id ≡ None = sym at ∙ none in cc), cc)

module _
    (laws : Laws plum_state frame_content IsSoundPlum PlumStarts PlumSteps)
    (steps_fit : StepsFit)
    (limits : Limits)
    (past : List Entry)
    (entry : Entry)
    (before after : Group Plum Frame)
    (run : Run plum_state PlumStarts PlumSteps limits past before)
    (calm : IsCalm plum_state frame_content before)
    (honest : Each (λ (d : Delivery). Said (entry ∷ past) d.id d.payload) entry.given)
  where
    abbrev kept : Keeps plum_state frame_content IsSoundPlum limits past before.nodes before.sent
    kept = run_keeps plum_state frame_content IsSoundPlum PlumStarts PlumSteps laws limits past before run

    abbrev are_sent : AreSent before.sent before.flight
    are_sent = run_sent plum_state frame_content IsSoundPlum PlumStarts PlumSteps laws limits past before run

    -- less is left, the group is calm, and no active view moved
    abbrev pub Settles : Type 0
    Settles = (load (said_ids (entry ∷ past)) after + 1 ≤ load (said_ids past) before) × IsCalm plum_state frame_content after × (entry.moved ≡ false)

    -- an event that says nothing leaves what was said
    same_said : said_by entry.event past ≡ [] → said_ids (entry ∷ past) ≡ said_ids past
    same_said none = ap (λ is. is ++ said_ids past) none

    less : said_by entry.event past ≡ [] →
        load (said_ids past) after + 1 ≤ load (said_ids past) before →
        load (said_ids (entry ∷ past)) after + 1 ≤ load (said_ids past) before
    less none fewer = subst (λ is. load is after + 1 ≤ load (said_ids past) before) (sym (same_said none)) fewer

    -- an arrival
    arrival_settles : (place : ℕ) (dice : Dice) →
        entry.event ≡ Arrive place dice →
        Arrives plum_state PlumSteps before place (λ packet. stimulus.Arrive packet.sender packet.note dice) entry after →
        Settles
    arrival_settles place dice is effect =
        let step = arrive_step plum_state frame_content IsSoundPlum PlumStarts PlumSteps laws limits past entry before after kept place dice effect in
        let flying : IfSome (slice_get before.sent effect.number) (λ packet. IsCalmPacket frame_content before packet) =
        each-at (λ number. IfSome (slice_get before.sent number) (λ packet. IsCalmPacket frame_content before packet))
        before.flight place effect.number calm.packets effect.in_flight in
        let calm_packet : IsCalmPacket frame_content before effect.packet =
        subst (λ o. IfSome o (λ packet. IsCalmPacket frame_content before packet)) effect.sent flying in
        let good =
        each-at (λ (packet : Packet Frame). IsFit packet.note.body) before.sent effect.number effect.packet
        (run_fits laws steps_fit limits past before run).sent effect.sent in
        let turns =
        arrival_lighter step.acts.old.me step.acts.old.membership step.acts.old.gossip
        step.core.sound.whole effect.packet.sender effect.packet.note dice calm_packet.broadcasts good.1 in (
          less (ap (λ (e : Event). said_by e past) is)
              (load_less limits laws past entry before after _ _ step are_sent calm.symmetric (body_load effect.packet.note.body)
              (asker_of effect.packet.sender.name effect.packet.note.body) refl turns (said_ids past)
              (said_before past entry (λ id p says. subst (λ (e : Event). Says e past id p) is says) entry.given honest)),
          calm_after limits laws past entry before after _ _ step are_sent calm
              (body_load effect.packet.note.body) (asker_of effect.packet.sender.name effect.packet.note.body)
              (λ other asks. (
              let who = asker_is (body_content effect.packet.note.body).asked effect.packet.sender.name other effect.packet.note.body refl asks in
              subst (λ n. IsRunning before n) who.1 (calm_packet.is_answered who.0)))
              turns,
          step.acts.moved.1 (λ other. ap (λ names. has_name names other) (sym (same_active limits laws past entry before after _ _ step are_sent calm
              (body_load effect.packet.note.body) (asker_of effect.packet.sender.name effect.packet.note.body)
              (λ other asks. (
              let who = asker_is (body_content effect.packet.note.body).asked effect.packet.sender.name other effect.packet.note.body refl asks in
              subst (λ n. IsRunning before n) who.1 (calm_packet.is_answered who.0)))
              turns))),
        )

    -- nobody asks
    nobody_asks : (other : Name) → None ≡ Some other → IsRunning before other
    nobody_asks other is = let no : None ≡ Some other = is in cc

    -- a flush
    flush_settles : (name : Name) (first : Name × MsgId × ℕ) (others : List (Name × MsgId × ℕ)) →
        queue_of plum_state (core_of name before.nodes) ≡ first ∷ others →
        entry.event ≡ Flush name →
        Acts plum_state PlumSteps before before.flight name stimulus.Flush entry after →
        Settles
    flush_settles name first others waits is acts =
        let step = flush_step plum_state frame_content IsSoundPlum PlumStarts PlumSteps laws limits past entry before after kept name acts in
        let runs : core_of name before.nodes ≡ Some step.acts.old = ap (λ (o : Option (NodeState Plum)). core_in o) step.acts.known ∙ step.acts.running in
        let queued : step.acts.old.gossip.peers.queued ≡ first ∷ others = sym (ap (queue_of plum_state) runs) ∙ waits in
        let some : 1 ≤ length step.acts.old.gossip.peers.queued = subst (λ (q : List (Name × MsgId × ℕ)). 1 ≤ length q) (sym queued) (omega arith) in
        let turns = flush_turns step.acts.old.me step.acts.old.membership step.acts.old.gossip step.core.sound.whole some in (
          less (ap (λ (e : Event). said_by e past) is)
              (load_less limits laws past entry before after _ _ step are_sent calm.symmetric 0 None refl turns (said_ids past)
              (said_before past entry (λ id p says. subst (λ (e : Event). Says e past id p) is says) entry.given honest)),
          calm_after limits laws past entry before after _ _ step are_sent calm 0 None nobody_asks turns,
          step.acts.moved.1 (λ other. ap (λ names. has_name names other)
              (sym (same_active limits laws past entry before after _ _ step are_sent calm 0 None nobody_asks turns))),
        )

    -- a firing
    firing_settles : (name : Name) (id : MsgId) (others : List MsgId) →
        timers_of plum_state (core_of name before.nodes) ≡ id ∷ others →
        entry.event ≡ Fire name id →
        Acts plum_state PlumSteps before before.flight name (stimulus.Fire id) entry after →
        Settles
    firing_settles name id others armed is acts =
        let step = fire_step plum_state frame_content IsSoundPlum PlumStarts PlumSteps laws limits past entry before after kept name id acts in
        let runs : core_of name before.nodes ≡ Some step.acts.old = ap (λ (o : Option (NodeState Plum)). core_in o) step.acts.known ∙ step.acts.running in
        let timers : step.acts.old.gossip.missing.timers ≡ id ∷ others = sym (ap (timers_of plum_state) runs) ∙ armed in
        let has : has_id step.acts.old.gossip.missing.timers id ≡ true =
        ap (λ ts. has_id ts id) timers ∙ ap (λ b. b || has_id others id) ((same_id-Decides id id).1 refl) in
        let turns = firing_turns step.acts.old.me step.acts.old.membership step.acts.old.gossip step.core.sound.whole id has in (
          less (ap (λ (e : Event). said_by e past) is)
              (load_less limits laws past entry before after _ _ step are_sent calm.symmetric 0 None refl turns (said_ids past)
              (said_before past entry (λ i p says. subst (λ (e : Event). Says e past i p) is says) entry.given honest)),
          calm_after limits laws past entry before after _ _ step are_sent calm 0 None nobody_asks turns,
          step.acts.moved.1 (λ other. ap (λ names. has_name names other)
              (sym (same_active limits laws past entry before after _ _ step are_sent calm 0 None nobody_asks turns))),
        )

    -- each event that is the next one
    pub event_settles : (event : Event) →
        entry.event ≡ event →
        IsNext plum_state before event →
        Effect plum_state PlumStarts PlumSteps limits before entry after event →
        Settles
    event_settles (Arrive place dice) is next effect = arrival_settles place dice is effect
    event_settles (Flush name) is next effect = flush_settles name next.1.0 next.1.1.others next.1.1.something is effect.1
    event_settles (Fire name id) is next effect = firing_settles name id next.2.others next.2.something is effect.1
    event_settles (Start name incarnation peers contact) is next effect = absurd next
    event_settles (Broadcast name payload) is next effect = absurd next
    event_settles (Lose place) is next effect = absurd next
    event_settles (Again number) is next effect = absurd next
    event_settles (Down name peer dice) is next effect = absurd next
    event_settles (Shuffle name dice) is next effect = absurd next
    event_settles (Join name contact) is next effect = absurd next
    event_settles (Stop name) is next effect = absurd next
