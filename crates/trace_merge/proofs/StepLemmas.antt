-- One step of a trace is played.
use Rattle.std.proofs.Common.{◌≡◌, ◌≢◌, ◌∙◌, ◌<◌, ◌≤◌, ◌++◌, ℕ, List, [], ◌∷◌, ap, arith, drop, false, inl, inr, length, refl, set, subst, suc, sym, true}
use Rattle.std.specs.Prelude.{◌&&◌, Bool, Option, Some, None, map, reverse, slice_get}
use Rattle.std.proofs.Math.Seq.{drop-append_seam}
use Rattle.std.proofs.lemmas.Bool.{false≢true}
use Rattle.std.proofs.lemmas.List.{get_or-set_same, length-set, map-append}
use Rattle.std.proofs.lemmas.Option.{slice_get_within}
use Rattle.node_names.specs.NodeName.{Name}
use Rattle.node_names.specs.Limits.{Limits}
use Rattle.node_names.specs.Same.{same_name, same_name-Decides}
use Rattle.node_names.specs.declared.ids.Incarnation.{Incarnation}
use Rattle.node_names.specs.declared.ids.Origin.{Origin}
use Rattle.protocol.specs.Delivery.{Delivery}
use Rattle.protocol.specs.Lists.{IsOneOf}
use Rattle.protocol.specs.Trace.{Step, Trace}
use Rattle.world.specs.Entry.{Entry}
use Rattle.world.specs.Event.{Event}
use Rattle.world.specs.Group.{Logged, node_of, origin_of, packets}
use Rattle.world.specs.History.{incarnation_of, started_by}
use Rattle.world.specs.Plan.{stimulus_by}
use Rattle.world.specs.Run.{Acts, Applied, Happens}
use Rattle.world.specs.declared.event.EventOf.TheVariants.{Start, Broadcast, Arrive, Lose, Again, Fire, Flush, Down, Shuffle, Join, Stop}
use Rattle.world.specs.declared.node_state.NodeState.{NodeState}
use Rattle.world.specs.declared.packet.Packet.{Packet}
use Rattle.frames.specs.Frame.{Frame}
use Rattle.node_core.specs.Plum.{Plum, plum_state}
use Rattle.node_core.specs.Steps.{PlumStarts, PlumSteps}
use Rattle.trace_merge.specs.FrameIds.{AreFound}
use Rattle.trace_merge.specs.Merging.{AreDistinct, HasTrace, IsKept, IsMerging, IsSentBy, IsStartOf}
use Rattle.trace_merge.specs.Merging.{IsStarted, Merge, RunsTo, Stands, cut, place_at, sent_within}
use Rattle.trace_merge.specs.declared.frame_index.FrameId.{FrameId}
use Rattle.trace_merge.specs.Projection.{is_last, is_name, output_of, projection_in, said, sends_between, stepped_name, stepped_on}
use Rattle.trace_merge.proofs.Determined.{replays_on, take_one}
use Rattle.trace_merge.proofs.ListLemmas.{each-append, found_name, made_of-packets, name_is, one_of-append}
use Rattle.trace_merge.proofs.ListLemmas.{one_of-left, one_of-packets, one_of-right, put_other, put_same}
use Rattle.trace_merge.proofs.PlaceLemmas.{at_or_not, sent_stays, sent_within-suc, started_stays}
use Rattle.trace_merge.proofs.PlayLemmas.{acts_of, and-false, is_last-its, is_last-not, name-differs, newest, projected_on, ran_on, starts_none}
use Rattle.trace_merge.proofs.Stable.{Names, names_before, said-packets, sends_between-last}

-- an event that steps a core leaves which runs were started last
pub starts_no : {N : Type 0} (sent : List (Packet N)) (event : Event) (number : Option ℕ) (name other : Name) (last : Option Incarnation) →
    stepped_name sent event number ≡ Some name →
    started_by other event last ≡ last
starts_no sent (Start n incarnation peers contact) number name other last is = let none : None ≡ Some name = is in cc
starts_no sent (Broadcast n payload) number name other last is = refl
starts_no sent (Arrive place dice) number name other last is = refl
starts_no sent (Lose place) number name other last is = refl
starts_no sent (Again again) number name other last is = refl
starts_no sent (Fire n id) number name other last is = refl
starts_no sent (Flush n) number name other last is = refl
starts_no sent (Down n peer dice) number name other last is = refl
starts_no sent (Shuffle n dice) number name other last is = refl
starts_no sent (Join n contact) number name other last is = refl
starts_no sent (Stop n) number name other last is = refl

-- nor is it the start of one
pub is_no_start : {N : Type 0} (sent : List (Packet N)) (event : Event) (number : Option ℕ) (name : Name) (o : Origin) →
    stepped_name sent event number ≡ Some name →
    IsStartOf o event →
    ⊥
is_no_start sent (Start n incarnation peers contact) number name o is started = let none : None ≡ Some name = is in cc
is_no_start sent (Broadcast n payload) number name o is started = started
is_no_start sent (Arrive place dice) number name o is started = started
is_no_start sent (Lose place) number name o is started = started
is_no_start sent (Again again) number name o is started = started
is_no_start sent (Fire n id) number name o is started = started
is_no_start sent (Flush n) number name o is started = started
is_no_start sent (Down n peer dice) number name o is started = started
is_no_start sent (Shuffle n dice) number name o is started = started
is_no_start sent (Join n contact) number name o is started = started
is_no_start sent (Stop n) number name o is started = started

module _
    (limits : Limits)
    (traces : List (Trace Frame))
    (distinct : AreDistinct traces)
    (m : Merge)
    (mm : IsMerging limits traces m)
    (world : Logged Plum Frame)
    (event : Event)
    (given : List Delivery)
    (applied : Applied plum_state PlumStarts PlumSteps event given m.world world)
    (at k : ℕ)
    (t : Trace Frame)
    (s : Step Frame)
    (listed : slice_get traces at ≡ Some t)
    (placed : place_at m.places at ≡ Some k)
    (step : slice_get t.steps k ≡ Some s)
    (named : stepped_name m.world.group.sent applied.entry.event applied.entry.packet ≡ Some t.origin.name)
    (told : stimulus_by m.world.group.sent applied.entry.event applied.entry.packet ≡ Some s.stimulus)
    (sends : map said (drop (length m.world.group.sent) world.group.sent) ≡ s.out.sends)
    (gives : applied.entry.given ≡ s.out.deliveries)
    (kept : IsKept event)
    (frames : List (FrameId × ℕ))
    (found : AreFound world.group.sent frames)
  where
    happened : Happens plum_state PlumStarts PlumSteps limits m.world.group applied.entry world.group
    happened = subst (λ l. Happens plum_state PlumStarts PlumSteps l m.world.group applied.entry world.group) mm.same_limits applied.happened

    within : k < length t.steps
    within = slice_get_within t.steps k s step

    stood : Stands limits m.world t (Some k)
    stood = subst (Stands limits m.world t) placed (mm.stands at t listed)

    runs : RunsTo limits m.world t k
    runs = stood.2 within

    acted : (staying : List ℕ) × Acts plum_state PlumSteps m.world.group staying t.origin.name s.stimulus applied.entry world.group
    acted =
        acts_of plum_state PlumStarts PlumSteps limits m.world.group applied.entry
        world.group applied.entry.event t.origin.name s.stimulus happened.1 named told

    acts : Acts plum_state PlumSteps m.world.group acted.0 t.origin.name s.stimulus applied.entry world.group
    acts = acted.1

    same_node : acts.node ≡ runs.node
    same_node = let e : Some acts.node ≡ Some runs.node = sym acts.known ∙ runs.known in cc

    same_core : acts.old ≡ runs.core
    same_core = let e : Some acts.old ≡ Some runs.core = sym acts.running ∙ ap (λ (n : NodeState Plum). n.core) same_node ∙ runs.running in cc

    node_name : t.origin.name ≡ acts.node.name
    node_name = found_name t.origin.name m.world.group.nodes acts.node acts.known

    origin : origin_of acts.node ≡ t.origin
    origin =
        let high : acts.node.highest ≡ t.origin.incarnation = ap (λ (n : NodeState Plum). n.highest) same_node ∙ runs.highest in
        λ i. record { name = sym node_name i; incarnation = high i }

    sent_is : world.group.sent ≡ m.world.group.sent ++ packets t.origin acts.sends
    sent_is = acts.sending.sent ∙ ap (λ o. m.world.group.sent ++ packets o acts.sends) origin

    sends_are : acts.sends ≡ s.out.sends
    sends_are =
        sym (said-packets t.origin acts.sends)
        ∙ ap (map said) (sym (drop-append_seam m.world.group.sent (packets t.origin acts.sends)))
        ∙ ap (λ ps. map said (drop (length m.world.group.sent) ps)) (sym sent_is)
        ∙ sends

    stepped : PlumSteps runs.core s.stimulus s.out.sends s.out.deliveries acts.new
    stepped =
        subst (λ c. PlumSteps c s.stimulus s.out.sends s.out.deliveries acts.new) same_core
        (subst (λ xs. PlumSteps acts.old s.stimulus xs s.out.deliveries acts.new) sends_are
        (subst (λ xs. PlumSteps acts.old s.stimulus acts.sends xs acts.new) gives acts.stepped))

    names : Names applied.entry.event applied.entry.packet m.world.group.sent
    names = names_before plum_state PlumStarts PlumSteps limits m.world.group applied.entry world.group applied.entry.event happened.1

    named_now : stepped_name world.group.sent applied.entry.event applied.entry.packet ≡ Some t.origin.name
    named_now = ap (λ xs. stepped_name xs applied.entry.event applied.entry.packet) sent_is ∙ (names (packets t.origin acts.sends)).1 ∙ named

    told_now : stimulus_by world.group.sent applied.entry.event applied.entry.packet ≡ Some s.stimulus
    told_now = ap (λ xs. stimulus_by xs applied.entry.event applied.entry.packet) sent_is ∙ (names (packets t.origin acts.sends)).0 ∙ told

    out_is : output_of applied.entry (length world.group.sent) world.group.sent ≡ s.out
    out_is =
        let all : sends_between applied.entry.first_sent (length world.group.sent) world.group.sent ≡ s.out.sends =
        ap (λ n. sends_between n (length world.group.sent) world.group.sent) happened.0
        ∙ ap (λ xs. sends_between (length m.world.group.sent) (length xs) xs) sent_is
        ∙ sends_between-last m.world.group.sent t.origin acts.sends
        ∙ sends_are
        in λ i. record { sends = all i; deliveries = gives i }

    -- what each run did so far: this one has one step more
    projected : (o : Origin) →
        projection_in o world
        ≡ stepped_on (is_last o (incarnation_of o.name (reverse m.world.log)) && same_name o.name t.origin.name)
        (Some s.stimulus) s.out (projection_in o m.world)
    projected o =
        projected_on plum_state PlumStarts PlumSteps limits o event given m.world world applied mm.same_limits mm.ran
        ∙ starts_none o world.group.sent applied.entry.event applied.entry.packet t.origin.name _ _ named_now
        ∙ (λ i. stepped_on (is_last o (incarnation_of o.name (reverse m.world.log)) && is_name o.name (named_now i))
        (told_now i) (out_is i) (projection_in o m.world))

    mine : projection_in t.origin world ≡ Some (cut (suc k) t)
    mine =
        projected t.origin
        ∙ (λ i. stepped_on (is_last-its t.origin (incarnation_of t.origin.name (reverse m.world.log)) runs.last i && name_is t.origin.name i)
        (Some s.stimulus) s.out (stood.1 i))
        ∙ ap (λ steps. Some (record t { steps = steps })) (sym (take_one t k s step))

    others : (o : Origin) → o ≢ t.origin → projection_in o world ≡ projection_in o m.world
    others o differs = projected o ∙ go (same_name o.name t.origin.name) refl
      where
        go : (b : Bool) →
            same_name o.name t.origin.name ≡ b →
            stepped_on (is_last o (incarnation_of o.name (reverse m.world.log)) && same_name o.name t.origin.name)
            (Some s.stimulus) s.out (projection_in o m.world)
            ≡ projection_in o m.world
        go true is =
            let same : o.name ≡ t.origin.name = (same_name-Decides o.name t.origin.name).0 is in
            let not_last : is_last o (incarnation_of o.name (reverse m.world.log)) ≡ false =
            is_last-not o (incarnation_of o.name (reverse m.world.log))
            (λ e. let both : Some o.incarnation ≡ Some t.origin.incarnation = sym e ∙ ap (λ n. incarnation_of n (reverse m.world.log)) same ∙ runs.last in
            let inc : o.incarnation ≡ t.origin.incarnation = cc in
            differs (λ i. record { name = same i; incarnation = inc i }))
            in
            ap (λ b. stepped_on (b && same_name o.name t.origin.name) (Some s.stimulus) s.out (projection_in o m.world)) not_last
        go false is =
            ap (λ b. stepped_on (is_last o (incarnation_of o.name (reverse m.world.log)) && b) (Some s.stimulus) s.out (projection_in o m.world)) is
            ∙ ap (λ b. stepped_on b (Some s.stimulus) s.out (projection_in o m.world)) (and-false (is_last o (incarnation_of o.name (reverse m.world.log))))

    lasts : (name : Name) → incarnation_of name (reverse world.log) ≡ incarnation_of name (reverse m.world.log)
    lasts name =
        ap (incarnation_of name) (ap reverse applied.logged ∙ newest m.world.log applied.entry)
        ∙ starts_no m.world.group.sent applied.entry.event applied.entry.packet t.origin.name name (incarnation_of name (reverse m.world.log)) named

    abbrev now : NodeState Plum
    now = record acts.node { core = Some acts.new }

    found_here : node_of t.origin.name world.group.nodes ≡ Some now
    found_here = ap (λ n. node_of n world.group.nodes) node_name ∙ ap (node_of acts.node.name) acts.nodes ∙ put_same now m.world.group.nodes

    found_there : (name : Name) → name ≢ t.origin.name → node_of name world.group.nodes ≡ node_of name m.world.group.nodes
    found_there name differs =
        ap (node_of name) acts.nodes ∙ put_other name now m.world.group.nodes (name-differs name acts.node.name (λ e. differs (e ∙ sym node_name)))

    runs_on : RunsTo limits world t (suc k)
    runs_on = record {
      last = lasts t.origin.name ∙ runs.last;
      node = now;
      core = acts.new;
      known = found_here;
      highest = ap (λ (o : Origin). o.incarnation) origin;
      running = refl;
      replays = replays_on limits t k s runs.core acts.new step runs.replays stepped;
    }

    in_places : at < length m.places
    in_places = let short : at < length traces = slice_get_within traces at t listed in subst (λ n. at < n) (sym mm.counted) short

    abbrev moved : List (Option ℕ)
    moved = set m.places at (Some (suc k))

    -- a run that may still go on is not of this name, if it is another
    apart : (u : Trace Frame) →
        u.origin ≢ t.origin →
        incarnation_of u.origin.name (reverse m.world.log) ≡ Some u.origin.incarnation →
        u.origin.name ≢ t.origin.name
    apart u differs last same =
        let both : Some u.origin.incarnation ≡ Some t.origin.incarnation = sym last ∙ ap (λ n. incarnation_of n (reverse m.world.log)) same ∙ runs.last in
        let inc : u.origin.incarnation ≡ t.origin.incarnation = cc in
        differs (λ i. record { name = same i; incarnation = inc i })

    stay : (u : Trace Frame) → u.origin ≢ t.origin → (p : Option ℕ) → Stands limits m.world u p → Stands limits world u p
    stay u differs None h = others u.origin differs ∙ h
    stay u differs (Some q) h = (
      h.0,
      others u.origin differs ∙ h.1,
      λ more.
          let r : RunsTo limits m.world u q = h.2 more in
          record {
            last = lasts u.origin.name ∙ r.last;
            node = r.node;
            core = r.core;
            known = found_there u.origin.name (apart u differs r.last) ∙ r.known;
            highest = r.highest;
            running = r.running;
            replays = r.replays;
          },
    )

    stands : (i : ℕ) (u : Trace Frame) → slice_get traces i ≡ Some u → Stands limits world u (place_at moved i)
    stands i u at_i =
        elim (at_or_not m.places at (Some (suc k)) i in_places) [
          | inl here ↦
              (let e : Some t ≡ Some u = sym listed ∙ ap (slice_get traces) (sym here.0) ∙ at_i in
              let it : t ≡ u = cc in
              let bound : suc k ≤ length t.steps = omega (arith, within) in
              subst (Stands limits world u) (sym here.1) (subst (λ v. Stands limits world v (Some (suc k))) it (bound, mine, λ more. runs_on)))
          | inr there ↦
              subst (Stands limits world u) (sym there.1)
              (stay u (λ same. there.0 (distinct i at u t at_i listed same)) (place_at m.places i) (mm.stands i u at_i))
        ]

    later : (i j q : ℕ) (u v : Trace Frame) →
        slice_get traces i ≡ Some u →
        slice_get traces j ≡ Some v →
        u.origin.name ≡ v.origin.name →
        place_at moved i ≡ None →
        place_at moved j ≡ Some q →
        v.origin.incarnation.0 < u.origin.incarnation.0
    later i j q u v at_i at_j same waits goes =
        elim (at_or_not m.places at (Some (suc k)) i in_places) [
          | inl here ↦ (let none : None ≡ Some (suc k) = sym waits ∙ here.1 in cc)
          | inr there ↦
              (let before : place_at m.places i ≡ None = sym there.1 ∙ waits in
              elim (at_or_not m.places at (Some (suc k)) j in_places) [
                | inl this ↦ mm.later i j k u v at_i at_j same before (ap (place_at m.places) this.0 ∙ placed)
                | inr that ↦ mm.later i j q u v at_i at_j same before (sym that.1 ∙ goes)
              ])
        ]

    known : (name : Name) (node : NodeState Plum) → node_of name world.group.nodes ≡ Some node → IsStarted traces moved (origin_of node)
    known name node at_name = go (same_name name t.origin.name) refl
      where
        go : (b : Bool) → same_name name t.origin.name ≡ b → IsStarted traces moved (origin_of node)
        go true is =
            let same : name ≡ t.origin.name = (same_name-Decides name t.origin.name).0 is in
            let e : Some now ≡ Some node = sym found_here ∙ ap (λ n. node_of n world.group.nodes) (sym same) ∙ at_name in
            let it : now ≡ node = cc in
            started_stays traces m.places at k t s in_places listed placed step (origin_of node)
            (record { at = at; place = k; trace = t; listed = listed; its = sym origin ∙ ap (λ (n : NodeState Plum). origin_of n) it; stands = placed })
        go false is =
            let differs : name ≢ t.origin.name = (λ e. false≢true (sym is ∙ (same_name-Decides name t.origin.name).1 e)) in
            started_stays traces m.places at k t s in_places listed placed step (origin_of node) (mm.known name node (sym (found_there name differs) ∙ at_name))

    in_sent : (i q : ℕ) (u : Trace Frame) (send : Name × Frame) →
        slice_get traces i ≡ Some u →
        place_at moved i ≡ Some q →
        IsOneOf send (sent_within q u) →
        IsOneOf (record { sender = u.origin; to = send.0; note = send.1 }) world.group.sent
    in_sent i q u send at_i goes one =
        subst (IsOneOf (record { sender = u.origin; to = send.0; note = send.1 })) (sym sent_is)
        (elim (at_or_not m.places at (Some (suc k)) i in_places) [
          | inl here ↦
              (let e : Some t ≡ Some u = sym listed ∙ ap (slice_get traces) (sym here.0) ∙ at_i in
              let it : t ≡ u = cc in
              let f : Some (suc k) ≡ Some q = sym here.1 ∙ goes in
              let far : suc k ≡ q = cc in
              let its : IsOneOf send (sent_within k t ++ s.out.sends) =
              subst (IsOneOf send) (sent_within-suc t k s step)
              (subst (λ n. IsOneOf send (sent_within n t)) (sym far) (subst (λ v. IsOneOf send (sent_within q v)) (sym it) one)) in
              subst
              (λ (v : Trace Frame). IsOneOf (record { sender = v.origin; to = send.0; note = send.1 }) (m.world.group.sent ++ packets t.origin acts.sends)) it
              (elim (one_of-append send (sent_within k t) s.out.sends its) [
                | inl old ↦ one_of-left _ m.world.group.sent (packets t.origin acts.sends) (mm.in_sent at k t send listed placed old)
                | inr new ↦
                    one_of-right _ m.world.group.sent (packets t.origin acts.sends)
                    (one_of-packets t.origin acts.sends send (subst (IsOneOf send) (sym sends_are) new))
              ]))
          | inr there ↦ one_of-left _ m.world.group.sent (packets t.origin acts.sends) (mm.in_sent i q u send at_i (sym there.1 ∙ goes) one)
        ])

    sent_by : (packet : Packet Frame) → IsOneOf packet world.group.sent → IsSentBy traces moved packet
    sent_by packet one =
        elim (one_of-append packet m.world.group.sent (packets t.origin acts.sends) (subst (IsOneOf packet) sent_is one)) [
          | inl old ↦ sent_stays traces m.places at k t s in_places listed placed step packet (mm.sent_by packet old)
          | inr new ↦
              (let made = made_of-packets t.origin acts.sends packet new in
              record {
                at = at;
                place = suc k;
                trace = t;
                listed = listed;
                its = made.its;
                stands = get_or-set_same m.places at (Some (suc k)) None in_places;
                sends =
                    subst (IsOneOf (packet.to, packet.note)) (sym (sent_within-suc t k s step))
                    (one_of-right (packet.to, packet.note) (sent_within k t) s.out.sends (subst (IsOneOf (packet.to, packet.note)) sends_are made.sends_it));
              })
        ]

    -- the step is played
    pub steps_on : IsMerging limits traces (record { world = world; events = m.events ++ event ∷ []; places = moved; frames = frames })
    steps_on = record {
      same_limits = applied.same_limits ∙ mm.same_limits;
      ran = ran_on plum_state PlumStarts PlumSteps limits event given m.world world applied mm.same_limits mm.ran;
      of_events =
          ap (map (λ (e : Entry). e.event)) applied.logged
          ∙ map-append (λ (e : Entry). e.event) m.world.log (applied.entry ∷ [])
          ∙ (λ i. mm.of_events i ++ applied.of_event i ∷ []);
      kept = each-append IsKept m.events (event ∷ []) mm.kept (kept, tt);
      started = each-append (λ (e : Event). (o : Origin) → IsStartOf o e → HasTrace traces o) m.events (event ∷ []) mm.started (
        subst (λ e. (o : Origin) → IsStartOf o e → HasTrace traces o) applied.of_event
            (λ o started. absurd (is_no_start m.world.group.sent applied.entry.event applied.entry.packet t.origin.name o named started)),
        tt,
      );
      counted = length-set m.places at (Some (suc k)) ∙ mm.counted;
      stands = stands;
      later = later;
      known = known;
      in_sent = in_sent;
      sent_by = sent_by;
      found = found;
    }
