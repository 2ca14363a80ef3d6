-- What the group refuses, or does otherwise, is no history of a node.
use Rattle.std.proofs.Common.{◌≡◌, ◌≢◌, ◌∙◌, ◌<◌, ℕ, suc, List, [], ap, drop, inl, inr, length, refl, subst, sym}
use Rattle.std.specs.Prelude.{◌⊎◌, Option, Some, None, map, slice_get}
use Rattle.std.proofs.Math.Seq.{drop-append_seam}
use Rattle.std.proofs.lemmas.Bool.Decides.{Decides-ltb}
use Rattle.node_names.specs.Limits.{Limits}
use Rattle.node_names.specs.declared.ids.Origin.{Origin}
use Rattle.protocol.specs.Delivery.{Delivery}
use Rattle.protocol.specs.Peers.{are_peers}
use Rattle.protocol.specs.Replay.{Replays}
use Rattle.protocol.specs.Trace.{Trace}
use Rattle.world.specs.Group.{Logged, node_of, origin_of, packets}
use Rattle.world.specs.Refusals.{IsRefusal, first_of, refusal, stale, unless}
use Rattle.world.specs.Run.{Applied, Effect, Starts}
use Rattle.world.specs.declared.error.WorldError.{WorldError}
use Rattle.world.specs.declared.error.WorldError.TheVariants.{UnknownNode, NotRunning, StaleIncarnation, BadPeers}
use Rattle.world.specs.declared.error.WorldError.TheVariants.{NoPacket, PayloadTooLong, SeqSpent, OutOfMemory}
use Rattle.world.specs.declared.node_state.NodeState.{NodeState}
use Rattle.frames.specs.Frame.{Frame}
use Rattle.node_core.specs.Plum.{Plum, plum_state}
use Rattle.node_core.specs.Steps.{PlumIsSpent, PlumStarts, PlumSteps}
use Rattle.trace_merge.specs.Merging.{AreDistinct, IsMerging, IsNoRun, IsStarted, Merge, Refuses, ReplaysBefore, cut, fault_of, place_at, start_of}
use Rattle.trace_merge.specs.Projection.{said}
use Rattle.trace_merge.proofs.Determined.{starts_same}
use Rattle.trace_merge.proofs.ListLemmas.{found_name, one_of_place}
use Rattle.trace_merge.proofs.Stable.{said-packets}

module _
    (limits : Limits)
    (traces : List (Trace Frame))
    (m : Merge)
    (mm : IsMerging limits traces m)
    (at : ℕ)
    (t : Trace Frame)
    (listed : slice_get traces at ≡ Some t)
    (placed : place_at m.places at ≡ None)
  where
    -- an incarnation that is not started is later than that of its name's node
    fresh : (node : Option (NodeState Plum)) → node_of t.origin.name m.world.group.nodes ≡ node → stale node t.origin.incarnation ≡ None
    fresh None is = refl
    fresh (Some node) is =
        let its : IsStarted traces m.places (origin_of node) = mm.known t.origin.name node is in
        let name : t.origin.name ≡ its.trace.origin.name = found_name t.origin.name m.world.group.nodes node is ∙ ap (λ (o : Origin). o.name) (sym its.its) in
        let lower : its.trace.origin.incarnation.0 < t.origin.incarnation.0 =
        mm.later at its.at its.place t its.trace listed its.listed name placed its.stands in
        let high : node.highest.0 < t.origin.incarnation.0 = subst (λ (o : Origin). o.incarnation.0 < t.origin.incarnation.0) its.its lower in
        ap (λ b. unless b (StaleIncarnation node.highest)) ((Decides-ltb node.highest.0 t.origin.incarnation.0).1 high)

    -- a start that is refused is none
    pub start_refused : (e : WorldError) →
        e ≢ OutOfMemory →
        IsRefusal PlumIsSpent limits m.world.group (start_of t) e →
        (core : Plum) →
        Replays PlumStarts PlumSteps limits (cut 1 t) core →
        ⊥
    start_refused e other is core r =
        let none : refusal limits m.world.group (start_of t) ≡ None =
        ap (λ o. first_of o (unless (are_peers limits t.origin.name t.peers t.contact) BadPeers)) (fresh (node_of t.origin.name m.world.group.nodes) refl)
        ∙ ap (λ b. unless b BadPeers) r.allowed
        in
        elim is [
          | inl some ↦ (let no : None ≡ Some e = sym none ∙ some in cc)
          | inr later ↦ (elim later.1 [ inl memory ↦ other memory | inr spent ↦ spent.1 ])
        ]

    -- one that sends something else is none either
    pub start_differs : (world : Logged Plum Frame) (given : List Delivery) → Applied plum_state PlumStarts PlumSteps (start_of t) given m.world world →
        ((map said (drop (length m.world.group.sent) world.group.sent) ≡ t.opening.sends) × (t.opening.deliveries ≡ []) → ⊥) →
        (core : Plum) →
        Replays PlumStarts PlumSteps limits (cut 1 t) core →
        ⊥
    start_differs world given applied differs core r =
        let starts : Starts PlumStarts limits m.world.group t.origin t.peers t.contact applied.entry world.group =
        (subst (λ e. Effect plum_state PlumStarts PlumSteps limits m.world.group applied.entry world.group e) applied.of_event
        (subst (λ l. Effect plum_state PlumStarts PlumSteps l m.world.group applied.entry world.group applied.entry.event) mm.same_limits applied.happened.1)).1
        in
        let same : starts.sends ≡ t.opening.sends =
        (starts_same t.origin limits t.peers t.contact starts.sends t.opening.sends starts.core r.first starts.started r.started).0 in
        differs (
          ap (λ ps. map said (drop (length m.world.group.sent) ps)) starts.sending.sent
              ∙ ap (map said) (drop-append_seam m.world.group.sent (packets t.origin starts.sends))
              ∙ said-packets t.origin starts.sends
              ∙ same,
          r.silent,
        )

-- what a refusal of the group says is so where the refused step is none
pub fault_is : (limits : Limits) (traces : List (Trace Frame)) (o : Origin) (place : ℕ) (e : WorldError) →
    AreDistinct traces →
    (e ≢ OutOfMemory → IsNoRun limits traces o place) →
    Refuses limits traces (fault_of o place e)
fault_is limits traces o place UnknownNode distinct none = (distinct, none (λ same. let no : UnknownNode ≡ OutOfMemory = same in cc))
fault_is limits traces o place NotRunning distinct none = (distinct, none (λ same. let no : NotRunning ≡ OutOfMemory = same in cc))
fault_is limits traces o place (StaleIncarnation highest) distinct none =
    (distinct, none (λ same. let no : StaleIncarnation highest ≡ OutOfMemory = same in cc))
fault_is limits traces o place BadPeers distinct none = (distinct, none (λ same. let no : BadPeers ≡ OutOfMemory = same in cc))
fault_is limits traces o place NoPacket distinct none = (distinct, none (λ same. let no : NoPacket ≡ OutOfMemory = same in cc))
fault_is limits traces o place PayloadTooLong distinct none = (distinct, none (λ same. let no : PayloadTooLong ≡ OutOfMemory = same in cc))
fault_is limits traces o place SeqSpent distinct none = (distinct, none (λ same. let no : SeqSpent ≡ OutOfMemory = same in cc))
fault_is limits traces o place OutOfMemory distinct none = tt

-- a trace of the list that replays before this place and not so far
pub no_run : (limits : Limits) (traces : List (Trace Frame)) (at place : ℕ) (t : Trace Frame) (o : Origin) →
    slice_get traces at ≡ Some t →
    o ≡ t.origin →
    (place ≡ 0) ⊎ ReplaysBefore limits t place →
    ((core : Plum) → Replays PlumStarts PlumSteps limits (cut (suc place) t) core → ⊥) →
    IsNoRun limits traces o place
no_run limits traces at place t o listed is first fails =
    record { trace = t; listed = one_of_place traces at t listed; its = sym is; first = first; fails = fails }
