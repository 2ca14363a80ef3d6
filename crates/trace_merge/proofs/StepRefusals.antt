-- A step that the group refuses, or that comes out otherwise, is none of the trace's node.
use Rattle.std.proofs.Common.{◌≡◌, ◌≢◌, ◌∙◌, ◌≤◌, ℕ, suc, List, ap, drop, inl, inr, length, refl, subst, sym}
use Rattle.std.specs.Prelude.{Option, Some, None, map, nat_le, slice_get, is_some}
use Rattle.std.proofs.Math.Seq.{drop-append_seam}
use Rattle.std.proofs.lemmas.Bool.{le-leb}
use Rattle.std.proofs.lemmas.Option.{slice_get_within}
use Rattle.node_names.specs.NodeName.{Name}
use Rattle.node_names.specs.Limits.{Limits}
use Rattle.protocol.specs.Delivery.{Delivery}
use Rattle.protocol.specs.Replay.{Replays}
use Rattle.protocol.specs.Stimulus.{Stimulus}
use Rattle.protocol.specs.Trace.{Step, Trace}
use Rattle.protocol.specs.declared.TheConstants.{MAX_PAYLOAD}
use Rattle.protocol.specs.declared.stimulus.StimulusOf.TheVariants as stimulus
use Rattle.world.specs.Entry.{Entry}
use Rattle.world.specs.Event.{Event}
use Rattle.world.specs.Group.{Group, Logged, node_of, origin_of, packets}
use Rattle.world.specs.Plan.{arrival, stimulus_by}
use Rattle.world.specs.Refusals.{IsRefusal, IsSpentAt, IsSpentBy, absent, first_of, packet_at, refusal, sent_under, undeliverable, unless}
use Rattle.world.specs.Run.{Acts, Applied, Effect, Happens}
use Rattle.world.specs.declared.error.WorldError.{WorldError}
use Rattle.world.specs.declared.error.WorldError.TheVariants.{NotRunning, OutOfMemory, PayloadTooLong}
use Rattle.world.specs.declared.event.EventOf.TheVariants.{Start, Broadcast, Arrive, Lose, Again, Fire, Flush, Down, Shuffle, Join, Stop}
use Rattle.world.specs.declared.node_state.NodeState.{NodeState}
use Rattle.world.specs.declared.packet.Packet.{Packet}
use Rattle.frames.specs.Frame.{Frame}
use Rattle.node_core.specs.Plum.{Plum, plum_state}
use Rattle.node_core.specs.Steps.{IsAllowed, PlumIsSpent, PlumStarts, PlumSteps}
use Rattle.trace_merge.specs.Merging.{IsMerging, Merge, ReplaysBefore, RunsTo, Stands, Tells, cut, number_in, place_at, sent_within}
use Rattle.trace_merge.specs.Numbers.{AreFew, AreShort}
use Rattle.trace_merge.specs.Projection.{receiver, said, stepped_name}
use Rattle.trace_merge.proofs.Determined.{replays_back, steps_same}
use Rattle.trace_merge.proofs.PlayLemmas.{acts_of}
use Rattle.trace_merge.proofs.SpentLemmas.{never_spent}
use Rattle.trace_merge.proofs.Stable.{said-packets}

-- the number that an entry has is that of the packet which its event names
pub named_in : (limits : Limits) (before : Group Plum Frame) (entry : Entry) (after : Group Plum Frame) (event : Event) →
    Effect plum_state PlumStarts PlumSteps limits before entry after event →
    (stepped_name before.sent event entry.packet ≡ stepped_name before.sent event (number_in before event))
    × (stimulus_by before.sent event entry.packet ≡ stimulus_by before.sent event (number_in before event))
named_in limits before entry after (Arrive place dice) effect =
    let same : entry.packet ≡ slice_get before.flight place = effect.named ∙ sym effect.in_flight in
    (ap (λ n. receiver (sent_under before.sent n)) same, ap (λ n. arrival (sent_under before.sent n) dice) same)
named_in limits before entry after (Start name incarnation peers contact) effect = (refl, refl)
named_in limits before entry after (Broadcast name payload) effect = (refl, refl)
named_in limits before entry after (Lose place) effect = (refl, refl)
named_in limits before entry after (Again number) effect = (refl, refl)
named_in limits before entry after (Fire name id) effect = (refl, refl)
named_in limits before entry after (Flush name) effect = (refl, refl)
named_in limits before entry after (Down name peer dice) effect = (refl, refl)
named_in limits before entry after (Shuffle name dice) effect = (refl, refl)
named_in limits before entry after (Join name contact) effect = (refl, refl)
named_in limits before entry after (Stop name) effect = (refl, refl)

-- What an applied event tells a core.
pub record Told (before : Group Plum Frame) (entry : Entry) (name : Name) (told : Stimulus Frame) : Type 0 where
  pub named : stepped_name before.sent entry.event entry.packet ≡ Some name
  pub tells : stimulus_by before.sent entry.event entry.packet ≡ Some told

-- an event that tells a core something does so once it is applied
pub told_by : (limits : Limits) (event : Event) (given : List Delivery) (old new : Logged Plum Frame) (name : Name) (told : Stimulus Frame) →
    old.limits ≡ limits →
    (applied : Applied plum_state PlumStarts PlumSteps event given old new) →
    Tells old.group event name told →
    Told old.group applied.entry name told
told_by limits event given old new name told same applied tells =
    let effect : Effect plum_state PlumStarts PlumSteps limits old.group applied.entry new.group event =
    subst (λ e. Effect plum_state PlumStarts PlumSteps limits old.group applied.entry new.group e) applied.of_event
    (subst (λ l. Effect plum_state PlumStarts PlumSteps l old.group applied.entry new.group applied.entry.event) same applied.happened.1)
    in
    let names = named_in limits old.group applied.entry new.group event effect in
    record {
      named = ap (λ e. stepped_name old.group.sent e applied.entry.packet) applied.of_event ∙ names.0 ∙ tells.named;
      tells = ap (λ e. stimulus_by old.group.sent e applied.entry.packet) applied.of_event ∙ names.1 ∙ tells.tells;
    }

module _
    (limits : Limits)
    (traces : List (Trace Frame))
    (m : Merge)
    (mm : IsMerging limits traces m)
    (at k : ℕ)
    (t : Trace Frame)
    (s : Step Frame)
    (listed : slice_get traces at ≡ Some t)
    (placed : place_at m.places at ≡ Some k)
    (step : slice_get t.steps k ≡ Some s)
  where
    abbrev runs : RunsTo limits m.world t k
    runs = (subst (Stands limits m.world t) placed (mm.stands at t listed)).2 (slice_get_within t.steps k s step)

    -- the trace replays so far
    pub replayed : ReplaysBefore limits t k
    replayed = record { core = runs.core; replays = runs.replays }

    must : (last : Plum) → Replays PlumStarts PlumSteps limits (cut (suc k) t) last → PlumSteps runs.core s.stimulus s.out.sends s.out.deliveries last
    must last r = replays_back limits t k s runs.core last step runs.replays r

    -- one that comes out otherwise
    pub step_differs : (event : Event) (world : Logged Plum Frame) (given : List Delivery)
        (applied : Applied plum_state PlumStarts PlumSteps event given m.world world) → Tells m.world.group event t.origin.name s.stimulus →
        ((map said (drop (length m.world.group.sent) world.group.sent) ≡ s.out.sends) × (applied.entry.given ≡ s.out.deliveries) → ⊥) →
        (last : Plum) →
        Replays PlumStarts PlumSteps limits (cut (suc k) t) last →
        ⊥
    step_differs event world given applied tells differs last r =
        let told : Told m.world.group applied.entry t.origin.name s.stimulus =
        told_by limits event given m.world world t.origin.name s.stimulus mm.same_limits applied tells in
        let happened : Happens plum_state PlumStarts PlumSteps limits m.world.group applied.entry world.group =
        subst (λ l. Happens plum_state PlumStarts PlumSteps l m.world.group applied.entry world.group) mm.same_limits applied.happened in
        let acted =
        acts_of plum_state PlumStarts PlumSteps limits m.world.group applied.entry world.group
        applied.entry.event t.origin.name s.stimulus happened.1 told.named told.tells in
        let acts : Acts plum_state PlumSteps m.world.group acted.0 t.origin.name s.stimulus applied.entry world.group = acted.1 in
        let e : Some acts.node ≡ Some runs.node = sym acts.known ∙ runs.known in
        let same_node : acts.node ≡ runs.node = cc in
        let f : Some acts.old ≡ Some runs.core = sym acts.running ∙ ap (λ (n : NodeState Plum). n.core) same_node ∙ runs.running in
        let same_core : acts.old ≡ runs.core = cc in
        let done : PlumSteps runs.core s.stimulus acts.sends applied.entry.given acts.new =
        subst (λ c. PlumSteps c s.stimulus acts.sends applied.entry.given acts.new) same_core acts.stepped in
        let same = steps_same runs.core s.stimulus acts.sends s.out.sends applied.entry.given s.out.deliveries acts.new last done (must last r) in
        differs (
          ap (λ ps. map said (drop (length m.world.group.sent) ps)) acts.sending.sent
              ∙ ap (map said) (drop-append_seam m.world.group.sent (packets (origin_of acts.node) acts.sends))
              ∙ said-packets (origin_of acts.node) acts.sends
              ∙ same.sent,
          same.delivers,
        )

    -- the node of the name runs
    present : (name : Name) → Some name ≡ Some t.origin.name → absent (node_of name m.world.group.nodes) ≡ None
    present name is =
        let same : name ≡ t.origin.name = cc in
        ap (λ n. absent (node_of n m.world.group.nodes)) same
        ∙ ap absent runs.known
        ∙ ap (λ (c : Option Plum). unless (is_some c) NotRunning) runs.running

    -- so no event is refused by which its core would take the step
    not_refused : (event : Event) → Tells m.world.group event t.origin.name s.stimulus → IsAllowed s.stimulus → refusal limits m.world.group event ≡ None
    not_refused (Broadcast name payload) tells allowed =
        let e : Some (stimulus.Broadcast payload) ≡ Some s.stimulus = tells.tells in
        let same : stimulus.Broadcast payload ≡ s.stimulus = cc in
        let short : length payload ≤ MAX_PAYLOAD = subst IsAllowed (sym same) allowed in
        ap (λ o. first_of o (unless (nat_le (length payload) MAX_PAYLOAD) PayloadTooLong)) (present name tells.named)
        ∙ ap (λ b. unless b PayloadTooLong) (le-leb (length payload) MAX_PAYLOAD short)
    not_refused (Arrive place dice) tells allowed = go (packet_at m.world.group place) tells.named
      where
        go : (packet : Option (Packet Frame)) → receiver packet ≡ Some t.origin.name → undeliverable m.world.group packet ≡ None
        go None is = let none : None ≡ Some t.origin.name = is in cc
        go (Some packet) is = present packet.to is
    not_refused (Start name incarnation peers contact) tells allowed = let none : None ≡ Some t.origin.name = tells.named in cc
    not_refused (Lose place) tells allowed = let none : None ≡ Some t.origin.name = tells.named in cc
    not_refused (Again number) tells allowed = let none : None ≡ Some t.origin.name = tells.named in cc
    not_refused (Fire name id) tells allowed = present name tells.named
    not_refused (Flush name) tells allowed = present name tells.named
    not_refused (Down name peer dice) tells allowed = present name tells.named
    not_refused (Shuffle name dice) tells allowed = present name tells.named
    not_refused (Join name contact) tells allowed = present name tells.named
    not_refused (Stop name) tells allowed = let none : None ≡ Some t.origin.name = tells.named in cc

    -- a core that is out of numbers at the name is the trace's
    spent_here : (name : Name) (told : Stimulus Frame) →
        IsSpentAt PlumIsSpent m.world.group name told →
        Some name ≡ Some t.origin.name →
        Some told ≡ Some s.stimulus →
        PlumIsSpent runs.core s.stimulus
    spent_here name told spent is by =
        let same : name ≡ t.origin.name = cc in
        let tells : told ≡ s.stimulus = cc in
        let e : Some spent.node ≡ Some runs.node = sym spent.known ∙ ap (λ n. node_of n m.world.group.nodes) same ∙ runs.known in
        let node : spent.node ≡ runs.node = cc in
        let f : Some spent.core ≡ Some runs.core = sym spent.running ∙ ap (λ (n : NodeState Plum). n.core) node ∙ runs.running in
        let core : spent.core ≡ runs.core = cc in
        subst (λ c. PlumIsSpent c s.stimulus) core (subst (λ x. PlumIsSpent spent.core x) tells spent.spent)

    spent_by : (event : Event) →
        Tells m.world.group event t.origin.name s.stimulus →
        IsSpentBy PlumIsSpent m.world.group event →
        PlumIsSpent runs.core s.stimulus
    spent_by (Broadcast name payload) tells spent = spent_here name (stimulus.Broadcast payload) spent tells.named tells.tells
    spent_by (Arrive place dice) tells (packet, at_place, spent) =
        spent_here packet.to (stimulus.Arrive packet.sender packet.note dice) spent
        (sym (ap receiver at_place) ∙ tells.named) (sym (ap (λ p. arrival p dice) at_place) ∙ tells.tells)
    spent_by (Start name incarnation peers contact) tells spent = absurd spent
    spent_by (Lose place) tells spent = absurd spent
    spent_by (Again number) tells spent = absurd spent
    spent_by (Fire name id) tells spent = spent_here name (stimulus.Fire id) spent tells.named tells.tells
    spent_by (Flush name) tells spent = spent_here name stimulus.Flush spent tells.named tells.tells
    spent_by (Down name peer dice) tells spent = spent_here name (stimulus.Down peer dice) spent tells.named tells.tells
    spent_by (Shuffle name dice) tells spent = spent_here name (stimulus.Shuffle dice) spent tells.named tells.tells
    spent_by (Join name contact) tells spent = spent_here name (stimulus.Join contact) spent tells.named tells.tells
    spent_by (Stop name) tells spent = absurd spent

    -- one that is refused
    pub step_refused : (event : Event) (e : WorldError) →
        e ≢ OutOfMemory →
        Tells m.world.group event t.origin.name s.stimulus →
        IsRefusal PlumIsSpent limits m.world.group event e →
        AreShort (sent_within (suc k) t) → AreFew s.out.deliveries → (last : Plum) → Replays PlumStarts PlumSteps limits (cut (suc k) t) last → ⊥
    step_refused event e other tells is short few last r =
        let done : PlumSteps runs.core s.stimulus s.out.sends s.out.deliveries last = must last r in
        let none : refusal limits m.world.group event ≡ None = not_refused event tells done.allowed in
        elim is [
          | inl some ↦ (let no : None ≡ Some e = sym none ∙ some in cc)
          | inr later ↦
              (elim later.1 [
                | inl memory ↦ other memory
                | inr spent ↦ never_spent limits t k s runs.core last step runs.replays done short few (spent_by event tells spent.1)
              ])
        ]
