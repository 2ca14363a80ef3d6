-- A group that is followed goes on as its run does.
use Rattle.std.proofs.Common.{◌≡◌, ◌∙◌, ◌++◌, ◌<◌, ℕ, List, [], ap, false, inl, inr, length, refl, subst, sym, true}
use Rattle.std.specs.Prelude.{Bool, Option, Some, None, IfSome, IsTrue, remove, slice_get, if◌then◌else◌}
use Rattle.std.specs.Map.{lookup}
use Rattle.std.proofs.lemmas.Bool.{false≢true}
use Rattle.node_names.specs.NodeName.{Name}
use Rattle.node_names.specs.Limits.{Limits}
use Rattle.node_names.specs.Same.{same_name, same_name-Decides}
use Rattle.node_names.specs.declared.dice.Dice.{Dice}
use Rattle.node_names.specs.declared.ids.Origin.{Origin}
use Rattle.protocol.specs.CoreState.{CoreState}
use Rattle.protocol.specs.Delivery.{Delivery}
use Rattle.protocol.specs.Lists.{IsOneOf, places}
use Rattle.protocol.specs.Output.{Output}
use Rattle.protocol.specs.Peers.{are_peers}
use Rattle.protocol.specs.Stimulus.{Stimulus}
use Rattle.protocol.specs.declared.stimulus.StimulusOf.TheVariants as stimulus
use Rattle.world.specs.Entry.{Entry}
use Rattle.world.specs.Event.{Event}
use Rattle.world.specs.Group.{Group, node_of, origin_of, packets, put_node}
use Rattle.world.specs.Plan.{arrival, stimulus_by}
use Rattle.world.specs.Run.{Acts, Effect, Happens}
use Rattle.world.specs.declared.event.EventOf.TheVariants.{Start, Broadcast, Arrive, Fire, Flush, Down, Shuffle, Join}
use Rattle.world.specs.declared.node_state.NodeState.{NodeState}
use Rattle.world.specs.declared.packet.Packet.{Packet}
use Rattle.world.proofs.FindLemmas.{found_name, put_other, put_same}
use Rattle.frames.specs.Frame.{Frame}
use Rattle.run_check.specs.Following.{AreFlying, AreNodes, Begins, Flies, Follows, Goes, GoesOn, IsAwaited}
use Rattle.run_check.specs.Following.{Kept, Leaves, Loses, Posts, Puts, Steps, TakesOn, event_of}
use Rattle.run_check.specs.FrameIds.{id_of, same_frame_id, same_frame_id-Decides}
use Rattle.run_check.specs.declared.frame_id.FrameId.{FrameId}
use Rattle.run_check.proofs.Flights.{new_flies, one-left, place_of, stays, still}
use Rattle.run_check.proofs.Aloft.{IsAloft, Remain, aloft_after, none_goes, one_goes}
use Rattle.run_check.proofs.Posting.{found_of}
use Rattle.run_check.specs.Accepting.{ArrivesBy}

-- a node that is put among the nodes of a group is put among those that are kept
puts_node : {C : Type 0} (group : Group C Frame) (old new : List (Name × NodeState C)) (node : NodeState C) →
    AreNodes group old →
    Puts old node new →
    (name : Name) →
    lookup (same_name name) new ≡ node_of name (put_node node group.nodes)
puts_node {C} group old new node are puts name = go (same_name node.name name) refl
  where
    back : (b : Bool) → same_name node.name name ≡ b → same_name name node.name ≡ b
    back true is = (same_name-Decides name node.name).1 (sym ((same_name-Decides node.name name).0 is))
    back false is = other (same_name name node.name) refl
      where
        other : (b : Bool) → same_name name node.name ≡ b → same_name name node.name ≡ false
        other false e = e
        other true e = absurd (false≢true (sym is ∙ (same_name-Decides node.name name).1 (sym ((same_name-Decides name node.name).0 e))))

    go : (b : Bool) → same_name node.name name ≡ b → lookup (same_name name) new ≡ node_of name (put_node node group.nodes)
    go true is = puts name ∙ ap (λ b. if b then Some node else lookup (same_name name) old) is ∙ sym (put_same name node group.nodes (back true is))
    go false is =
        puts name ∙ ap (λ b. if b then Some node else lookup (same_name name) old) is ∙ are name ∙ sym (put_other name node group.nodes (back false is))

-- what is in flight besides the packets that are posted
pub record StaysAloft {C : Type 0} (group : Group C Frame) (flown : List (FrameId × Packet Frame)) (staying : List ℕ) : Type 0 where
  pub flies : (id : FrameId) (packet : Packet Frame) →
      lookup (same_frame_id id) flown ≡ Some packet →
      (number : ℕ) × IsOneOf number staying × (slice_get group.sent number ≡ Some packet) × (id_of packet ≡ id)

-- where no packet arrives, all stay
none_arrives : {C : Type 0} (group : Group C Frame) (old flown : List (FrameId × Packet Frame)) →
    AreFlying group old →
    flown ≡ old →
    StaysAloft group flown group.flight
none_arrives group old flown are is =
    record {
      flies = λ id packet found.
          let there : Flies group packet × (id_of packet ≡ id) =
          are id packet (ap (λ (es : List (FrameId × Packet Frame)). lookup (same_frame_id id) es) (sym is) ∙ found) in
          (there.0.number, there.0.flying, there.0.sent, there.1);
    }

-- where one arrives, the others stay
one_arrives :
    {C : Type 0} (group : Group C Frame) (old flown : List (FrameId × Packet Frame)) (gone : Packet Frame) (number place : ℕ) →
    AreFlying group old →
    Loses old (Some (id_of gone)) flown →
    slice_get group.flight place ≡ Some number →
    slice_get group.sent number ≡ Some gone →
    StaysAloft group flown (remove group.flight place)
one_arrives {C} group old flown gone number place are out in_flight sent =
    record { flies = λ id packet found. go id packet (same_frame_id (id_of gone) id) refl (sym (out id) ∙ found) }
  where
    go : (id : FrameId) (packet : Packet Frame) (b : Bool) →
        same_frame_id (id_of gone) id ≡ b →
        (if b then None else lookup (same_frame_id id) old) ≡ Some packet →
        (n : ℕ) × IsOneOf n (remove group.flight place) × (slice_get group.sent n ≡ Some packet) × (id_of packet ≡ id)
    go id packet true same e = let no : None ≡ Some packet = e in cc
    go id packet false same e =
        let there : Flies group packet × (id_of packet ≡ id) = are id packet e in
        let apart : there.0.number ≡ number → ⊥ = λ equal. clash id packet same there equal in
        (there.0.number, stays group.flight place number there.0.number in_flight apart there.0.flying, there.0.sent, there.1)
      where
        clash : (id : FrameId) (packet : Packet Frame) →
            same_frame_id (id_of gone) id ≡ false →
            (there : Flies group packet × (id_of packet ≡ id)) →
            there.0.number ≡ number →
            ⊥
        clash id packet same there equal =
            let both : Some packet ≡ Some gone = sym there.0.sent ∙ ap (λ n. slice_get group.sent n) equal ∙ sent in
            let is : packet ≡ gone = cc in
            false≢true (sym same ∙ (same_frame_id-Decides (id_of gone) id).1 (sym (ap id_of is) ∙ there.1))

-- what stays, and what is posted, is in flight afterwards
aloft :
    {C : Type 0} (group : Group C Frame) (nodes : List (NodeState C)) (flown new : List (FrameId × Packet Frame))
    (staying : List ℕ) (sender : Origin) (sends : List (Name × Frame)) →
    StaysAloft group flown staying →
    Posts flown (packets sender sends) new →
    AreFlying {C = C} (record { nodes = nodes; sent = group.sent ++ packets sender sends; flight = staying ++ places (length group.sent) (length sends) }) new
aloft group nodes flown new staying sender sends stay posts id packet found =
    elim (found_of id (lookup (same_frame_id id) flown) (packets sender sends) packet (sym (posts id) ∙ found)) [
      | inl before ↦ (
          let there : (n : ℕ) × IsOneOf n staying × (slice_get group.sent n ≡ Some packet) × (id_of packet ≡ id) = stay.flies id packet before in (
            record {
              number = there.0;
              flying = one-left staying (places (length group.sent) (length sends)) there.0 there.1;
              sent = still group.sent (packets sender sends) there.0 packet there.2;
            },
            there.3,
          )
          )
      | inr one ↦ (
          let there : (n : ℕ)
          × IsOneOf n (staying ++ places (length group.sent) (length sends))
          × (slice_get (group.sent ++ packets sender sends) n ≡ Some packet) =
          new_flies group.sent staying sender sends packet one.0 in
          (record { number = there.0; flying = there.1; sent = there.2 }, one.1)
          )
    ]

-- More was sent in the one group than in the other.
pub record SentMore {C : Type 0} (before after : Group C Frame) : Type 0 where
  pub more : List (Packet Frame)
  pub is : after.sent ≡ before.sent ++ more

module _
    {C : Type 0}
    (state : C → CoreState)
    (starts : Origin → Limits → List Name → Option Name → List (Name × Frame) → C → Type 0)
    (steps : C → Stimulus Frame → List (Name × Frame) → List Delivery → C → Type 0)
  where
    -- The run goes on by a start; what was in flight and kept, is so afterwards.
    pub record StartsOn (group : Group C Frame) (past : List Entry) (run : Origin) (peers : List Name) (contact : Option Name)
        (kept : List (FrameId × Packet Frame)) (new : Kept C) : Type 0 where
      pub entry : Entry
      pub is_event : entry.event ≡ Start run.name run.incarnation peers contact
      pub goes_on : GoesOn state starts steps group past entry new
      pub sent : SentMore group goes_on.after
      pub stays_aloft : IsAloft group kept → IsAloft goes_on.after new.packets

    -- The run goes on by a step, from what stays in flight of what was.
    pub record StepsOn (group : Group C Frame) (past : List Entry) (entry : Entry) (left : List (FrameId × Packet Frame)) (staying : List ℕ) (new : Kept C) :
        Type 0 where
      pub goes_on : GoesOn state starts steps group past entry new
      pub sent : SentMore group goes_on.after
      pub stays_aloft : Remain group left staying → IsAloft goes_on.after new.packets

    -- The run goes on by the step of a name at a stimulus; what was in flight and kept, is so afterwards.
    pub record ToldOn (group : Group C Frame) (past : List Entry) (name : Name) (told : Stimulus Frame) (given : List Delivery)
        (kept : List (FrameId × Packet Frame)) (new : Kept C) : Type 0 where
      pub takes_on : TakesOn state starts steps group past name told given new
      pub arrives : ArrivesBy group.sent name told takes_on.entry.packet
      pub sent : SentMore group takes_on.goes_on.after
      pub stays_aloft : IsAloft group kept → IsAloft takes_on.goes_on.after new.packets

    -- a group in which nothing has happened
    pub begun : (limits : Limits) →
        Follows state starts steps (record { limits = limits; nodes = []; packets = [] }) [] (record { nodes = []; sent = []; flight = [] })
    begun limits =
        record {
          ran = record { no_nodes = refl; nothing_sent = refl; nothing_in_flight = refl };
          nodes = λ name. refl;
          flying = λ id packet found. let no : None ≡ Some packet = found in cc;
        }

    -- what a start sends, where the output was empty before
    pub sent_at_start :
        (limits : Limits) (run : Origin) (peers : List Name) (contact : Option Name) (core : C) (before out : Output Frame) (items : List (Name × Frame)) →
        ((sends : List (Name × Frame)) × starts run limits peers contact sends core × (out ≡ record before { sends = before.sends ++ sends })) →
        before.sends ≡ [] →
        items ≡ out.sends →
        starts run limits peers contact items core
    sent_at_start limits run peers contact core before out items st none are =
        let all : items ≡ st.0 = are ∙ ap (λ (o : Output Frame). o.sends) st.2 ∙ ap (λ (ss : List (Name × Frame)). ss ++ st.0) none in
        subst (λ (ss : List (Name × Frame)). starts run limits peers contact ss core) (sym all) st.1

    -- a start
    pub started :
        (old : Kept C) (past : List Entry) (group : Group C Frame) (run : Origin)
        (peers : List Name) (contact : Option Name) (core : C) (sends : List (Name × Frame))
        (nodes : List (Name × NodeState C)) (new : List (FrameId × Packet Frame)) →
        Follows state starts steps old past group →
        IfSome (lookup (same_name run.name) old.nodes) (λ node. node.highest.0 < run.incarnation.0) →
        IsTrue (are_peers old.limits run.name peers contact) →
        starts run old.limits peers contact sends core →
        Puts old.nodes (record { name = run.name; highest = run.incarnation; core = Some core }) nodes →
        Posts old.packets (packets run sends) new →
        StartsOn group past run peers contact old.packets (record { limits = old.limits; nodes = nodes; packets = new })
    started old past group run peers contact core sends nodes new follows fresh fit made puts posts =
        let node : NodeState C = record { name = run.name; highest = run.incarnation; core = Some core } in
        let event : Event = Start run.name run.incarnation peers contact in
        let entry : Entry = record { event = event; packet = None; first_sent = length group.sent; moved = false; given = [] } in
        let after : Group C Frame = record {
          nodes = put_node node group.nodes;
          sent = group.sent ++ packets run sends;
          flight = group.flight ++ places (length group.sent) (length sends);
        } in
        let effect : Effect state starts steps old.limits group entry after event = (
          refl,
          record {
            core = core;
            sends = sends;
            fresh = subst (λ (o : Option (NodeState C)). IfSome o (λ node. node.highest.0 < run.incarnation.0)) (follows.nodes run.name) fresh;
            fit = fit;
            started = made;
            nodes = refl;
            sending = record { sent = refl; flight = refl };
            nothing_given = refl;
            nothing_moved = refl;
          },
        ) in
        let happened : Happens state starts steps old.limits group entry after = (refl, effect) in
        record {
          entry = entry;
          is_event = refl;
          sent = record { more = packets run sends; is = refl };
          goes_on = record {
            after = after;
            happened = happened;
            follows = record {
              ran = (group, follows.ran, happened);
              nodes = puts_node group old.nodes nodes node follows.nodes puts;
              flying =
                  aloft group (put_node node group.nodes) old.packets new group.flight run sends
                  (none_arrives group old.packets old.packets follows.flying refl) posts;
            };
          };
          stays_aloft =
              λ before. aloft_after group (put_node node group.nodes) old.packets new group.flight run sends
              (none_goes group old.packets old.packets before refl) posts;
        }

    -- what a step leaves of a group
    abbrev after_step : (group : Group C Frame) (staying : List ℕ) (node : NodeState C) (run : Origin) (sends : List (Name × Frame)) → Group C Frame
    after_step group staying node run sends =
        record { nodes = put_node node group.nodes; sent = group.sent ++ packets run sends; flight = staying ++ places (length group.sent) (length sends) }

    -- a step of a node in a group that is followed
    acted :
        (old : Kept C) (past : List Entry) (group : Group C Frame) (run : Origin) (told : Stimulus Frame) (staying : List ℕ) (sends : List (Name × Frame))
        (nodes : List (Name × NodeState C)) (entry : Entry) →
        Follows state starts steps old past group →
        (s : Steps state starts steps old.nodes run told sends entry.given entry.moved nodes) →
        Acts state steps group staying run.name told entry (after_step group staying (record s.node { core = Some s.after }) run sends)
    acted old past group run told staying sends nodes entry follows s =
        let known : node_of run.name group.nodes ≡ Some s.node = sym (follows.nodes run.name) ∙ s.known in
        let its : origin_of s.node ≡ run = λ i. record { name = sym (found_name run.name group.nodes s.node known) i; incarnation = s.is_run i } in
        record {
          node = s.node;
          old = s.before;
          new = s.after;
          sends = sends;
          known = known;
          running = s.running;
          stepped = s.stepped;
          nodes = refl;
          sending = record { sent = ap (λ (o : Origin). group.sent ++ packets o sends) (sym its); flight = refl };
          moved = s.moves;
        }

    -- what is kept after a step is of the group that the step leaves
    stepped_on :
        (old : Kept C) (past : List Entry) (group : Group C Frame) (run : Origin)
        (told : Stimulus Frame) (flown new : List (FrameId × Packet Frame)) (staying : List ℕ)
        (sends : List (Name × Frame)) (given : List Delivery) (moved : Bool) (nodes : List (Name × NodeState C)) (entry : Entry) →
        Follows state starts steps old past group →
        (s : Steps state starts steps old.nodes run told sends given moved nodes) →
        StaysAloft group flown staying →
        Posts flown (packets run sends) new →
        Happens state starts steps old.limits group entry (after_step group staying (record s.node { core = Some s.after }) run sends) →
        StepsOn group past entry flown staying (record { limits = old.limits; nodes = nodes; packets = new })
    stepped_on old past group run told flown new staying sends given moved nodes entry follows s stay posts happened =
        let node : NodeState C = record s.node { core = Some s.after } in
        let known : node_of run.name group.nodes ≡ Some s.node = sym (follows.nodes run.name) ∙ s.known in
        let named : run.name ≡ node.name = found_name run.name group.nodes s.node known in
        record {
          goes_on = record {
            after = after_step group staying node run sends;
            happened = happened;
            follows = record {
              ran = (group, follows.ran, happened);
              nodes =
                  puts_node group old.nodes nodes node follows.nodes
                  (λ name. s.puts name ∙ ap (λ (n : Name). if same_name n name then Some node else lookup (same_name name) old.nodes) named);
              flying = aloft group (put_node node group.nodes) flown new staying run sends stay posts;
            };
          };
          sent = record { more = packets run sends; is = refl };
          stays_aloft = λ remain. aloft_after group (put_node node group.nodes) flown new staying run sends remain posts;
        }

    -- a stimulus that is no arrival
    told_on :
        (old : Kept C) (past : List Entry) (group : Group C Frame) (run : Origin) (told : Stimulus Frame) (flown new : List (FrameId × Packet Frame))
        (sends : List (Name × Frame)) (given : List Delivery) (moved : Bool) (nodes : List (Name × NodeState C)) (event : Event) →
        Follows state starts steps old past group →
        flown ≡ old.packets →
        Steps state starts steps old.nodes run told sends given moved nodes →
        Posts flown (packets run sends) new →
        event ≡ event_of run.name 0 told →
        ((entry : Entry) (after : Group C Frame) →
        entry.packet ≡ None →
        Acts state steps group group.flight run.name told entry after →
        Effect state starts steps old.limits group entry after event) →
        stimulus_by group.sent event None ≡ Some told →
        ArrivesBy group.sent run.name told None →
        ToldOn group past run.name told given old.packets (record { limits = old.limits; nodes = nodes; packets = new })
    told_on old past group run told flown new sends given moved nodes event follows none s posts is effect tells arrives =
        let entry : Entry = record { event = event; packet = None; first_sent = length group.sent; moved = moved; given = given } in
        let acts = acted old past group run told group.flight sends nodes entry follows s in
        let happened : Happens state starts steps old.limits group entry (after_step group group.flight (record s.node { core = Some s.after }) run sends) =
        (refl, effect entry (after_step group group.flight (record s.node { core = Some s.after }) run sends) refl acts) in
        let on : StepsOn group past entry flown group.flight (record { limits = old.limits; nodes = nodes; packets = new }) =
        stepped_on old past group run told flown new group.flight sends given moved nodes entry follows s
        (none_arrives group old.packets flown follows.flying none) posts happened in
        record {
          takes_on = record { entry = entry; place = 0; is_event = is; tells = tells; gave = refl; goes_on = on.goes_on };
          arrives = arrives;
          sent = on.sent;
          stays_aloft = λ before. on.stays_aloft (none_goes group old.packets flown before none);
        }

    -- the arrival of a packet
    arrived_on :
        (old : Kept C) (past : List Entry) (group : Group C Frame) (run sender : Origin)
        (note : Frame) (dice : Dice) (flown new : List (FrameId × Packet Frame))
        (sends : List (Name × Frame)) (given : List Delivery) (moved : Bool) (nodes : List (Name × NodeState C)) →
        Follows state starts steps old past group →
        IsAwaited old.packets run.name (stimulus.Arrive sender note dice) →
        Leaves old.packets (stimulus.Arrive sender note dice) flown →
        Steps state starts steps old.nodes run (stimulus.Arrive sender note dice) sends given moved nodes →
        Posts flown (packets run sends) new →
        ToldOn group past run.name (stimulus.Arrive sender note dice) given old.packets (record { limits = old.limits; nodes = nodes; packets = new })
    arrived_on old past group run sender note dice flown new sends given moved nodes follows there out s posts =
        let packet : Packet Frame = record { sender = sender; to = run.name; note = note } in
        let found : Flies group packet × (id_of packet ≡ id_of packet) = follows.flying (id_of packet) packet there in
        let at : (k : ℕ) × (slice_get group.flight k ≡ Some found.0.number) = place_of group.flight found.0.number found.0.flying in
        let staying : List ℕ = remove group.flight at.0 in
        let entry : Entry = record { event = Arrive at.0 dice; packet = Some found.0.number; first_sent = length group.sent; moved = moved; given = given } in
        let acts = acted old past group run (stimulus.Arrive sender note dice) staying sends nodes entry follows s in
        let effect : Effect state starts steps old.limits group entry
        (after_step group staying (record s.node { core = Some s.after }) run sends) (Arrive at.0 dice) =
        record { number = found.0.number; packet = packet; in_flight = at.1; sent = found.0.sent; named = refl; acts = acts } in
        let happened : Happens state starts steps old.limits group entry (after_step group staying (record s.node { core = Some s.after }) run sends) =
        (refl, effect) in
        let on : StepsOn group past entry flown staying (record { limits = old.limits; nodes = nodes; packets = new }) =
        stepped_on old past group run (stimulus.Arrive sender note dice) flown new staying sends given moved nodes entry follows s
        (one_arrives group old.packets flown packet found.0.number at.0 follows.flying out at.1 found.0.sent) posts happened in
        record {
          takes_on = record {
            entry = entry;
            place = at.0;
            is_event = refl;
            tells = ap (λ (o : Option (Packet Frame)). arrival o dice) found.0.sent;
            gave = refl;
            goes_on = on.goes_on;
          };
          arrives = found.0.sent;
          sent = on.sent;
          stays_aloft = λ before. on.stays_aloft (one_goes group old.packets flown packet found.0.number at.0 before out at.1 found.0.sent);
        }

    -- any stimulus
    pub taken :
        (old : Kept C) (past : List Entry) (group : Group C Frame) (run : Origin) (told : Stimulus Frame) (flown new : List (FrameId × Packet Frame))
        (sends : List (Name × Frame)) (given : List Delivery) (moved : Bool) (nodes : List (Name × NodeState C)) →
        Follows state starts steps old past group →
        IsAwaited old.packets run.name told →
        Leaves old.packets told flown →
        Steps state starts steps old.nodes run told sends given moved nodes →
        Posts flown (packets run sends) new →
        ToldOn group past run.name told given old.packets (record { limits = old.limits; nodes = nodes; packets = new })
    taken old past group run (stimulus.Arrive sender note dice) flown new sends given moved nodes follows there out s posts =
        arrived_on old past group run sender note dice flown new sends given moved nodes follows there out s posts
    taken old past group run (stimulus.Broadcast payload) flown new sends given moved nodes follows _ none s posts =
        told_on old past group run (stimulus.Broadcast payload) flown new sends given moved nodes
        (Broadcast run.name payload) follows none s posts refl (λ entry after is acts. (is, acts)) refl tt
    taken old past group run (stimulus.Fire id) flown new sends given moved nodes follows _ none s posts =
        told_on old past group run (stimulus.Fire id) flown new sends given moved nodes
        (Fire run.name id) follows none s posts refl (λ entry after is acts. (is, acts)) refl tt
    taken old past group run stimulus.Flush flown new sends given moved nodes follows _ none s posts =
        told_on old past group run stimulus.Flush flown new sends given moved nodes
        (Flush run.name) follows none s posts refl (λ entry after is acts. (is, acts)) refl tt
    taken old past group run (stimulus.Down peer dice) flown new sends given moved nodes follows _ none s posts =
        told_on old past group run (stimulus.Down peer dice) flown new sends given moved nodes
        (Down run.name peer dice) follows none s posts refl (λ entry after is acts. (is, acts)) refl tt
    taken old past group run (stimulus.Shuffle dice) flown new sends given moved nodes follows _ none s posts =
        told_on old past group run (stimulus.Shuffle dice) flown new sends given moved nodes
        (Shuffle run.name dice) follows none s posts refl (λ entry after is acts. (is, acts)) refl tt
    taken old past group run (stimulus.Join contact) flown new sends given moved nodes follows _ none s posts =
        told_on old past group run (stimulus.Join contact) flown new sends given moved nodes
        (Join run.name contact) follows none s posts refl (λ entry after is acts. (is, acts)) refl tt

    -- a start, as it changes what is kept
    pub starts_on : (old : Kept C) (past : List Entry) (group : Group C Frame) (run : Origin) (peers : List Name) (contact : Option Name) (new : Kept C) →
        Follows state starts steps old past group →
        Begins state starts steps old run peers contact new →
        StartsOn group past run peers contact old.packets new
    starts_on old past group run peers contact new follows b =
        subst (λ (l : Limits). StartsOn group past run peers contact old.packets (record { limits = l; nodes = new.nodes; packets = new.packets }))
        (sym b.limits)
        (started old past group run peers contact b.core b.sends new.nodes new.packets follows b.fresh b.fit b.started b.nodes b.packets)

    -- a step, as it changes what is kept
    pub goes_on : (old : Kept C) (past : List Entry) (group : Group C Frame) (run : Origin) (told : Stimulus Frame) (given : List Delivery) (new : Kept C) →
        Follows state starts steps old past group →
        Goes state starts steps old run told given new →
        ToldOn group past run.name told given old.packets new
    goes_on old past group run told given new follows g =
        subst (λ (l : Limits). ToldOn group past run.name told given old.packets (record { limits = l; nodes = new.nodes; packets = new.packets }))
        (sym g.limits)
        (taken old past group run told g.left new.packets g.sends given g.moved new.nodes follows g.awaited g.leaves g.stepped g.packets)

    -- what is kept after a step, where nothing but the step changed it before
    pub going : (old : Kept C) (run : Origin) (told : Stimulus Frame) (given : List Delivery) (sends : List (Name × Frame)) (moved : Bool)
        (nodes : List (Name × NodeState C)) (between left new : List (FrameId × Packet Frame)) →
        IsAwaited old.packets run.name told →
        between ≡ old.packets →
        Leaves between told left →
        Steps state starts steps old.nodes run told sends given moved nodes →
        Posts left (packets run sends) new →
        Goes state starts steps old run told given (record { limits = old.limits; nodes = nodes; packets = new })
    going old run told given sends moved nodes between left new awaited same leaves stepped posts =
        record {
          sends = sends;
          moved = moved;
          left = left;
          awaited = awaited;
          leaves = subst (λ (k : List (FrameId × Packet Frame)). Leaves k told left) same leaves;
          stepped = stepped;
          limits = refl;
          packets = posts;
        }
