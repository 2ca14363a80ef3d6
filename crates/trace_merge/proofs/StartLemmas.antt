-- A trace is started.
use Rattle.std.proofs.Common.{◌≡◌, ◌≢◌, ◌∙◌, ◌<◌, ◌≤◌, ◌++◌, ℕ, List, [], ◌∷◌, ap, arith, drop, false, inl, inr, length, refl, set, subst, sym, true}
use Rattle.std.specs.Prelude.{◌&&◌, Bool, Option, Some, None, map, reverse, slice_get, if◌then◌else◌}
use Rattle.std.proofs.Math.Seq.{drop-append_seam}
use Rattle.std.proofs.lemmas.Bool.{false≢true}
use Rattle.std.proofs.lemmas.List.{append-nil, get_or-set_same, length-set, map-append}
use Rattle.std.proofs.lemmas.Option.{slice_get_within}
use Rattle.node_names.specs.NodeName.{Name}
use Rattle.node_names.specs.Limits.{Limits}
use Rattle.node_names.specs.Same.{same_name, same_name-Decides, same_origin, same_origin-Decides}
use Rattle.node_names.specs.declared.ids.Origin.{Origin}
use Rattle.protocol.specs.Delivery.{Delivery}
use Rattle.protocol.specs.Lists.{IsOneOf}
use Rattle.protocol.specs.Trace.{Trace}
use Rattle.world.specs.Entry.{Entry}
use Rattle.world.specs.Event.{Event}
use Rattle.world.specs.Group.{Logged, node_of, origin_of, packets}
use Rattle.world.specs.History.{incarnation_of, started_by}
use Rattle.world.specs.Plan.{stimulus_by}
use Rattle.world.specs.Run.{Applied, Effect, Starts}
use Rattle.world.specs.declared.node_state.NodeState.{NodeState}
use Rattle.world.specs.declared.packet.Packet.{Packet}
use Rattle.frames.specs.Frame.{Frame}
use Rattle.node_core.specs.Plum.{Plum, plum_state}
use Rattle.node_core.specs.Steps.{PlumStarts, PlumSteps}
use Rattle.trace_merge.specs.FrameIds.{AreFound}
use Rattle.trace_merge.specs.Merging.{AreDistinct, HasTrace, IsKept, IsMerging, IsOut, IsSentBy, IsReady, IsStartOf}
use Rattle.trace_merge.specs.Merging.{IsStarted, Merge, RunsTo, Stands, cut, place_at, sent_within, start_of}
use Rattle.trace_merge.specs.declared.frame_index.FrameId.{FrameId}
use Rattle.trace_merge.specs.Projection.{is_last, is_name, output_of, projection_in, said, sends_between, started_on, stepped_name, stepped_on}
use Rattle.trace_merge.proofs.ListLemmas.{each-append, made_of-packets, name_is, one_of-append, one_of-left}
use Rattle.trace_merge.proofs.ListLemmas.{one_of-packets, one_of-right, one_of_place, put_other, put_same}
use Rattle.trace_merge.proofs.PlaceLemmas.{at_or_not}
use Rattle.trace_merge.proofs.PlayLemmas.{and-false, name-differs, newest, origin-differs, projected_on, ran_on}
use Rattle.trace_merge.proofs.Stable.{said-packets, sends_between-last}

module _
    (limits : Limits)
    (traces : List (Trace Frame))
    (distinct : AreDistinct traces)
    (m : Merge)
    (mm : IsMerging limits traces m)
    (world : Logged Plum Frame)
    (at : ℕ)
    (t : Trace Frame)
    (given : List Delivery)
    (applied : Applied plum_state PlumStarts PlumSteps (start_of t) given m.world world)
    (listed : slice_get traces at ≡ Some t)
    (placed : place_at m.places at ≡ None)
    (ready : IsReady traces m.places t.origin)
    (sends : map said (drop (length m.world.group.sent) world.group.sent) ≡ t.opening.sends)
    (silent : t.opening.deliveries ≡ [])
    (frames : List (FrameId × ℕ))
    (found : AreFound world.group.sent frames)
  where
    starts : Starts PlumStarts limits m.world.group t.origin t.peers t.contact applied.entry world.group
    starts = (subst (λ e. Effect plum_state PlumStarts PlumSteps limits m.world.group applied.entry world.group e) applied.of_event
        (subst (λ l. Effect plum_state PlumStarts PlumSteps l m.world.group applied.entry world.group applied.entry.event) mm.same_limits applied.happened.1)).1

    sends_are : starts.sends ≡ t.opening.sends
    sends_are =
        sym (said-packets t.origin starts.sends)
        ∙ ap (map said) (sym (drop-append_seam m.world.group.sent (packets t.origin starts.sends)))
        ∙ ap (λ ps. map said (drop (length m.world.group.sent) ps)) (sym starts.sending.sent)
        ∙ sends

    out_is : output_of applied.entry (length world.group.sent) world.group.sent ≡ t.opening
    out_is =
        let all : sends_between applied.entry.first_sent (length world.group.sent) world.group.sent ≡ t.opening.sends =
        ap (λ n. sends_between n (length world.group.sent) world.group.sent) applied.happened.0
        ∙ ap (λ xs. sends_between (length m.world.group.sent) (length xs) xs) starts.sending.sent
        ∙ sends_between-last m.world.group.sent t.origin starts.sends
        ∙ sends_are
        in
        let none : applied.entry.given ≡ t.opening.deliveries = starts.nothing_given ∙ sym silent in
        λ i. record { sends = all i; deliveries = none i }

    -- what each run did so far: this one has started
    projected : (o : Origin) →
        projection_in o world
        ≡ (if same_origin o t.origin
        then Some (record { origin = o; peers = t.peers; contact = t.contact; opening = t.opening; steps = [] })
        else projection_in o m.world)
    projected o =
        projected_on plum_state PlumStarts PlumSteps limits o (start_of t) given m.world world applied mm.same_limits mm.ran
        ∙ (λ i. started_on o (applied.of_event i) (out_is i)
        (stepped_on
        (is_last o (incarnation_of o.name (reverse m.world.log)) && is_name o.name (stepped_name world.group.sent (applied.of_event i) applied.entry.packet))
        (stimulus_by world.group.sent (applied.of_event i) applied.entry.packet) (out_is i) (projection_in o m.world)))
        ∙ ap (λ b. started_on o (start_of t) t.opening (stepped_on b None t.opening (projection_in o m.world)))
        (and-false (is_last o (incarnation_of o.name (reverse m.world.log))))

    mine : projection_in t.origin world ≡ Some (cut 0 t)
    mine = projected t.origin ∙ ap (λ b. if b then Some (cut 0 t) else projection_in t.origin m.world) ((same_origin-Decides t.origin t.origin).1 refl)

    others : (o : Origin) → o ≢ t.origin → projection_in o world ≡ projection_in o m.world
    others o differs =
        projected o
        ∙ ap (λ b. if b then Some (record { origin = o; peers = t.peers; contact = t.contact; opening = t.opening; steps = [] }) else projection_in o m.world)
        (origin-differs o t.origin differs)

    lasts : (name : Name) →
        incarnation_of name (reverse world.log)
        ≡ (if same_name name t.origin.name then Some t.origin.incarnation else incarnation_of name (reverse m.world.log))
    lasts name =
        ap (incarnation_of name) (ap reverse applied.logged ∙ newest m.world.log applied.entry)
        ∙ ap (λ e. started_by name e (incarnation_of name (reverse m.world.log))) applied.of_event

    abbrev now : NodeState Plum
    now = record { name = t.origin.name; highest = t.origin.incarnation; core = Some starts.core }

    found_here : node_of t.origin.name world.group.nodes ≡ Some now
    found_here = ap (node_of t.origin.name) starts.nodes ∙ put_same now m.world.group.nodes

    found_there : (name : Name) → name ≢ t.origin.name → node_of name world.group.nodes ≡ node_of name m.world.group.nodes
    found_there name differs = ap (node_of name) starts.nodes ∙ put_other name now m.world.group.nodes (name-differs name t.origin.name differs)

    runs_on : RunsTo limits world t 0
    runs_on = record {
      last =
          lasts t.origin.name ∙ ap (λ b. if b then Some t.origin.incarnation else incarnation_of t.origin.name (reverse m.world.log)) (name_is t.origin.name);
      node = now;
      core = starts.core;
      known = found_here;
      highest = refl;
      running = refl;
      replays = record {
        first = starts.core;
        allowed = starts.fit;
        started = subst (λ xs. PlumStarts t.origin limits t.peers t.contact xs starts.core) sends_are starts.started;
        silent = silent;
        leads = refl;
      };
    }

    in_places : at < length m.places
    in_places = let short : at < length traces = slice_get_within traces at t listed in subst (λ n. at < n) (sym mm.counted) short

    abbrev moved : List (Option ℕ)
    moved = set m.places at (Some 0)

    -- a run that may still go on is of another name
    apart : (i q : ℕ) (u : Trace Frame) → slice_get traces i ≡ Some u → place_at m.places i ≡ Some q → q < length u.steps → u.origin.name ≢ t.origin.name
    apart i q u at_i goes more same =
        let lower : u.origin.incarnation.0 < t.origin.incarnation.0 = mm.later at i q t u listed at_i (sym same) placed goes in
        let out : q ≡ length u.steps = subst (IsOut u) goes (ready i u at_i same lower) in
        omega (arith, more, out)

    stay : (i : ℕ) (u : Trace Frame) →
        slice_get traces i ≡ Some u →
        u.origin ≢ t.origin →
        (p : Option ℕ) →
        place_at m.places i ≡ p →
        Stands limits m.world u p →
        Stands limits world u p
    stay i u at_i differs None goes h = others u.origin differs ∙ h
    stay i u at_i differs (Some q) goes h = (
      h.0,
      others u.origin differs ∙ h.1,
      λ more.
          let r : RunsTo limits m.world u q = h.2 more in
          let away : u.origin.name ≢ t.origin.name = apart i q u at_i goes more in
          record {
            last =
                lasts u.origin.name
                ∙ ap (λ b. if b then Some t.origin.incarnation else incarnation_of u.origin.name (reverse m.world.log))
                (name-differs u.origin.name t.origin.name away)
                ∙ r.last;
            node = r.node;
            core = r.core;
            known = found_there u.origin.name away ∙ r.known;
            highest = r.highest;
            running = r.running;
            replays = r.replays;
          },
    )

    stands : (i : ℕ) (u : Trace Frame) → slice_get traces i ≡ Some u → Stands limits world u (place_at moved i)
    stands i u at_i =
        elim (at_or_not m.places at (Some 0) i in_places) [
          | inl here ↦
              (let e : Some t ≡ Some u = sym listed ∙ ap (slice_get traces) (sym here.0) ∙ at_i in
              let it : t ≡ u = cc in
              let bound : 0 ≤ length t.steps = omega arith in
              subst (Stands limits world u) (sym here.1) (subst (λ v. Stands limits world v (Some 0)) it (bound, mine, λ more. runs_on)))
          | inr there ↦
              subst (Stands limits world u) (sym there.1)
              (stay i u at_i (λ same. there.0 (distinct i at u t at_i listed same)) (place_at m.places i) refl (mm.stands i u at_i))
        ]

    -- where it stood before it stands now
    still : (i q : ℕ) → place_at m.places i ≡ Some q → place_at moved i ≡ Some q
    still i q goes =
        elim (at_or_not m.places at (Some 0) i in_places) [
          | inl here ↦ (let none : None ≡ Some q = sym placed ∙ ap (place_at m.places) (sym here.0) ∙ goes in cc)
          | inr there ↦ there.1 ∙ goes
        ]

    later : (i j q : ℕ) (u v : Trace Frame) →
        slice_get traces i ≡ Some u →
        slice_get traces j ≡ Some v →
        u.origin.name ≡ v.origin.name →
        place_at moved i ≡ None →
        place_at moved j ≡ Some q →
        v.origin.incarnation.0 < u.origin.incarnation.0
    later i j q u v at_i at_j same waits goes =
        elim (at_or_not m.places at (Some 0) i in_places) [
          | inl here ↦ (let none : None ≡ Some 0 = sym waits ∙ here.1 in cc)
          | inr there ↦
              (let before : place_at m.places i ≡ None = sym there.1 ∙ waits in
              elim (at_or_not m.places at (Some 0) j in_places) [
                | inl this ↦
                    (let e : Some t ≡ Some v = sym listed ∙ ap (slice_get traces) (sym this.0) ∙ at_j in
                    let it : t ≡ v = cc in
                    let name : u.origin.name ≡ t.origin.name = same ∙ ap (λ (w : Trace Frame). w.origin.name) (sym it) in
                    let no : u.origin.incarnation.0 < t.origin.incarnation.0 → ⊥ = (λ low. subst (IsOut u) before (ready i u at_i name low)) in
                    let apart_from : u.origin.incarnation.0 ≡ t.origin.incarnation.0 → ⊥ =
                    (λ eq. there.0 (distinct i at u t at_i listed (λ k. record { name = name k; incarnation = record { 0 = eq k } }))) in
                    subst (λ (w : Trace Frame). w.origin.incarnation.0 < u.origin.incarnation.0) it
                    (higher u.origin.incarnation.0 t.origin.incarnation.0 no apart_from))
                | inr that ↦ mm.later i j q u v at_i at_j same before (sym that.1 ∙ goes)
              ])
        ]
      where
        higher : (a b : ℕ) → (a < b → ⊥) → (a ≡ b → ⊥) → b < a
        higher a b low same = grind (arith, low, same)

    known : (name : Name) (node : NodeState Plum) → node_of name world.group.nodes ≡ Some node → IsStarted traces moved (origin_of node)
    known name node at_name = go (same_name name t.origin.name) refl
      where
        go : (b : Bool) → same_name name t.origin.name ≡ b → IsStarted traces moved (origin_of node)
        go true is =
            let same : name ≡ t.origin.name = (same_name-Decides name t.origin.name).0 is in
            let e : Some now ≡ Some node = sym found_here ∙ ap (λ n. node_of n world.group.nodes) (sym same) ∙ at_name in
            let it : now ≡ node = cc in
            record {
              at = at;
              place = 0;
              trace = t;
              listed = listed;
              its = ap (λ (n : NodeState Plum). origin_of n) it;
              stands = get_or-set_same m.places at (Some 0) None in_places;
            }
        go false is =
            let differs : name ≢ t.origin.name = (λ e. false≢true (sym is ∙ (same_name-Decides name t.origin.name).1 e)) in
            let old : IsStarted traces m.places (origin_of node) = mm.known name node (sym (found_there name differs) ∙ at_name) in
            record { at = old.at; place = old.place; trace = old.trace; listed = old.listed; its = old.its; stands = still old.at old.place old.stands }

    in_sent : (i q : ℕ) (u : Trace Frame) (send : Name × Frame) →
        slice_get traces i ≡ Some u →
        place_at moved i ≡ Some q →
        IsOneOf send (sent_within q u) →
        IsOneOf (record { sender = u.origin; to = send.0; note = send.1 }) world.group.sent
    in_sent i q u send at_i goes one =
        subst (IsOneOf (record { sender = u.origin; to = send.0; note = send.1 })) (sym starts.sending.sent)
        (elim (at_or_not m.places at (Some 0) i in_places) [
          | inl here ↦
              (let e : Some t ≡ Some u = sym listed ∙ ap (slice_get traces) (sym here.0) ∙ at_i in
              let it : t ≡ u = cc in
              let f : Some 0 ≡ Some q = sym here.1 ∙ goes in
              let far : 0 ≡ q = cc in
              let its : IsOneOf send t.opening.sends =
              subst (IsOneOf send) (append-nil t.opening.sends)
              (subst (λ n. IsOneOf send (sent_within n t)) (sym far) (subst (λ v. IsOneOf send (sent_within q v)) (sym it) one)) in
              subst
              (λ (v : Trace Frame). IsOneOf (record { sender = v.origin; to = send.0; note = send.1 }) (m.world.group.sent ++ packets t.origin starts.sends)) it
              (one_of-right _ m.world.group.sent (packets t.origin starts.sends)
              (one_of-packets t.origin starts.sends send (subst (IsOneOf send) (sym sends_are) its))))
          | inr there ↦ one_of-left _ m.world.group.sent (packets t.origin starts.sends) (mm.in_sent i q u send at_i (sym there.1 ∙ goes) one)
        ])

    sent_by : (packet : Packet Frame) → IsOneOf packet world.group.sent → IsSentBy traces moved packet
    sent_by packet one =
        elim (one_of-append packet m.world.group.sent (packets t.origin starts.sends) (subst (IsOneOf packet) starts.sending.sent one)) [
          | inl old ↦
              (let by : IsSentBy traces m.places packet = mm.sent_by packet old in
              record {
                at = by.at;
                place = by.place;
                trace = by.trace;
                listed = by.listed;
                its = by.its;
                stands = still by.at by.place by.stands;
                sends = by.sends;
              })
          | inr new ↦
              (let made = made_of-packets t.origin starts.sends packet new in
              record {
                at = at;
                place = 0;
                trace = t;
                listed = listed;
                its = made.its;
                stands = get_or-set_same m.places at (Some 0) None in_places;
                sends =
                    subst (IsOneOf (packet.to, packet.note)) (sym (append-nil t.opening.sends))
                    (subst (IsOneOf (packet.to, packet.note)) sends_are made.sends_it);
              })
        ]

    starts_its : (o : Origin) → IsStartOf o (start_of t) → HasTrace traces o
    starts_its o is = record { trace = t; listed = one_of_place traces at t listed; its = λ i. record { name = sym is.0 i; incarnation = sym is.1 i } }

    -- the trace is started
    pub starts_on : IsMerging limits traces (record { world = world; events = m.events ++ start_of t ∷ []; places = moved; frames = frames })
    starts_on = record {
      same_limits = applied.same_limits ∙ mm.same_limits;
      ran = ran_on plum_state PlumStarts PlumSteps limits (start_of t) given m.world world applied mm.same_limits mm.ran;
      of_events =
          ap (map (λ (e : Entry). e.event)) applied.logged
          ∙ map-append (λ (e : Entry). e.event) m.world.log (applied.entry ∷ [])
          ∙ (λ i. mm.of_events i ++ applied.of_event i ∷ []);
      kept = each-append IsKept m.events (start_of t ∷ []) mm.kept (tt, tt);
      started = each-append (λ (e : Event). (o : Origin) → IsStartOf o e → HasTrace traces o) m.events (start_of t ∷ []) mm.started (starts_its, tt);
      counted = length-set m.places at (Some 0) ∙ mm.counted;
      stands = stands;
      later = later;
      known = known;
      in_sent = in_sent;
      sent_by = sent_by;
      found = found;
    }
