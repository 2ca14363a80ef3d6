-- Before a message is said nothing of it crosses a link, and in an undisturbed run without repeats it crosses each
-- once.
use Rattle.std.proofs.Common.{◌≡◌, ◌∙◌, ◌+◌, ◌<◌, ◌≤◌, ℕ, List, [], ◌∷◌, ◌++◌, length, true, false, sym, ap, refl, subst, inl, inr, arith}
use Rattle.std.specs.List.{sum_by}
use Rattle.std.specs.Prelude.{remove, Bool, Option, Some, None}
use Rattle.std.proofs.lemmas.List.Sums.{sum_by-append}
use Rattle.node_names.specs.NodeName.{Name}
use Rattle.node_names.specs.Limits.{Limits}
use Rattle.node_names.specs.Same.{same_name}
use Rattle.node_names.specs.declared.ids.MsgId.{MsgId}
use Rattle.node_names.specs.declared.ids.Origin.{Origin}
use Rattle.protocol.specs.Content.{Content}
use Rattle.protocol.specs.CoreState.{CoreState}
use Rattle.protocol.specs.Delivery.{Delivery}
use Rattle.protocol.specs.Laws.{Laws, StartLaws}
use Rattle.protocol.specs.SpreadLaw.{entries_queued}
use Rattle.protocol.specs.Stimulus.{Stimulus}
use Rattle.protocol.specs.WantLaw.{entries_wanted}
use Rattle.world.specs.Entry.{Entry}
use Rattle.world.specs.Event.{Event}
use Rattle.world.specs.Group.{Group, core_in, core_of, packets, put_node}
use Rattle.world.specs.History.{Said}
use Rattle.world.specs.Links.{Runs}
use Rattle.world.specs.Rest.{IsCalm, IsSaying, SaidAndCalm}
use Rattle.world.specs.Run.{Effect, Run, Starts}
use Rattle.world.specs.Traffic.{CrossesOnce, IsNoRepeat, IsUnrepeated}
use Rattle.world.specs.declared.event.EventOf.TheVariants.{Start, Broadcast, Arrive, Lose, Again, Fire, Flush, Down, Shuffle, Join, Stop}
use Rattle.world.specs.declared.node_state.NodeState.{NodeState}
use Rattle.world.specs.declared.packet.Packet.{Packet}
use Rattle.world.proofs.Crossing.{announcement_weight, copy_weight, request_weight, silent_announcements, silent_copies, silent_requests}
use Rattle.world.proofs.FindLemmas.{put_other, put_same}
use Rattle.world.proofs.Kept.{Keeps, each-append}
use Rattle.world.proofs.Resting.{none_has}
use Rattle.world.proofs.Runs.{are_fresh, run_keeps}
use Rattle.world.proofs.Sayings.{not_again, said_counted}
use Rattle.world.proofs.Steps.{IsStep, arrive_step, broadcast_step, down_step, fire_step, flush_step, shuffle_step, join_step}
use Rattle.world.proofs.Traffic.{GoesOnce, IsUnheard, queued_at, runs_after_step, step_once, step_sent, step_unheard, unheard_once, wanted_at}
use Rattle.world.proofs.Weights.{AreSent, each_staying, flying_weight, one_removed, sent_more}

module _
    {C N : Type 0}
    (state : C → CoreState)
    (content : N → Content)
    (is_sound : Limits → C → Type 0)
    (starts : Origin → Limits → List Name → Option Name → List (Name × N) → C → Type 0)
    (steps : C → Stimulus N → List (Name × N) → List Delivery → C → Type 0)
    (laws : Laws state content is_sound starts steps)
    (limits : Limits)
  where
    module _ (past : List Entry) (entry : Entry) (before after : Group C N)
        (kept : Keeps state content is_sound limits past before.nodes before.sent) (are_sent : AreSent before.sent before.flight) where
      -- a start sends what is then in flight
      start_sent : (me : Origin) (peers : List Name) (contact : Option Name) →
          Starts starts limits before me peers contact entry after →
          AreSent after.sent after.flight
      start_sent me peers contact started =
          subst (λ ps. AreSent ps after.flight) (sym started.sending.sent)
          (subst (λ ks. AreSent (before.sent ++ packets me started.sends) ks) (sym started.sending.flight)
          (sent_more before.sent before.flight me started.sends are_sent))

      -- after each event each packet in flight was sent
      event_sent : (event : Event) → Effect state starts steps limits before entry after event → AreSent after.sent after.flight
      event_sent (Start name incarnation peers contact) effect = start_sent (record { name = name; incarnation = incarnation }) peers contact effect.1
      event_sent (Broadcast name payload) effect =
          step_sent state content is_sound starts steps laws limits past entry before after _ _
          (broadcast_step state content is_sound starts steps laws limits past entry before after kept name payload effect.1) are_sent
      event_sent (Arrive place dice) effect =
          step_sent state content is_sound starts steps laws limits past entry before after _ _
          (arrive_step state content is_sound starts steps laws limits past entry before after kept place dice effect) are_sent
      event_sent (Lose place) effect =
          subst (λ ps. AreSent ps after.flight) (sym effect.others.sent)
          (subst (λ ks. AreSent before.sent ks) (sym effect.flight)
          (each_staying (λ number. number < length before.sent) before.flight (remove before.flight place) are_sent (one_removed before.flight place)))
      event_sent (Again number) effect =
          subst (λ ps. AreSent ps after.flight) (sym effect.others.sent)
          (subst (λ ks. AreSent before.sent ks) (sym effect.flight)
          (each-append (λ number. number < length before.sent) before.flight (number ∷ []) are_sent (effect.was_sent, tt)))
      event_sent (Fire name id) effect =
          step_sent state content is_sound starts steps laws limits past entry before after _ _
          (fire_step state content is_sound starts steps laws limits past entry before after kept name id effect.1) are_sent
      event_sent (Flush name) effect =
          step_sent state content is_sound starts steps laws limits past entry before after _ _
          (flush_step state content is_sound starts steps laws limits past entry before after kept name effect.1) are_sent
      event_sent (Down name peer dice) effect =
          step_sent state content is_sound starts steps laws limits past entry before after _ _
          (down_step state content is_sound starts steps laws limits past entry before after kept name peer dice effect.1) are_sent
      event_sent (Shuffle name dice) effect =
          step_sent state content is_sound starts steps laws limits past entry before after _ _
          (shuffle_step state content is_sound starts steps laws limits past entry before after kept name dice effect.1) are_sent
      event_sent (Join name contact) effect =
          step_sent state content is_sound starts steps laws limits past entry before after _ _
          (join_step state content is_sound starts steps laws limits past entry before after kept name contact effect.1) are_sent
      event_sent (Stop name) effect =
          subst (λ ps. AreSent ps after.flight) (sym effect.1.sent) (subst (λ ks. AreSent before.sent ks) (sym effect.1.flight) are_sent)

      module _ (id : MsgId) (lack : (other : Name) (core : C) → Runs after other core → (state core).has id ≡ false)
          (one two : Name) (apart : one ≡ two → ⊥) (u : IsUnheard state content before id one two) where
        -- a step of cores that lack the message afterwards
        unheard_step : (name : Name) (by : Stimulus N) →
            IsStep state content is_sound starts steps laws limits past entry before after name by →
            IsUnheard state content after id one two
        unheard_step name by step =
            step_unheard state content is_sound starts steps laws limits past entry before after name by step are_sent id
            (lack name step.acts.new (runs_after_step state content is_sound starts steps laws limits past entry before after name by step are_sent)) one
            two apart u

        -- an event that leaves the nodes and sends nothing
        unheard_same : after.nodes ≡ before.nodes → after.sent ≡ before.sent → IsUnheard state content after id one two
        unheard_same nodes sent =
            record {
              no_copies = ap (λ ps. sum_by (copy_weight content id one two) ps) sent ∙ u.no_copies;
              no_announcements = ap (λ ps. sum_by (announcement_weight content id one two) ps) sent ∙ u.no_announcements;
              no_requests = ap (λ ps. sum_by (request_weight content id two one) ps) sent ∙ u.no_requests;
              queues_none = ap (λ ns. queued_at state id two (core_of one ns)) nodes ∙ u.queues_none;
              wants_none = ap (λ ns. wanted_at state id one (core_of two ns)) nodes ∙ u.wants_none;
            }

        -- a node that is put queues nothing where its core, if it has one, does
        put_queues : (node : NodeState C) →
            ((name : Name) → queued_at state id name node.core ≡ 0) →
            after.nodes ≡ put_node node before.nodes →
            queued_at state id two (core_of one after.nodes) ≡ 0
        put_queues node none nodes = ap (λ ns. queued_at state id two (core_of one ns)) nodes ∙ go (same_name one node.name) refl
          where
            go : (b : Bool) → same_name one node.name ≡ b → queued_at state id two (core_of one (put_node node before.nodes)) ≡ 0
            go true here = ap (λ (o : Option (NodeState C)). queued_at state id two (core_in o)) (put_same one node before.nodes here) ∙ none two
            go false there = ap (λ (o : Option (NodeState C)). queued_at state id two (core_in o)) (put_other one node before.nodes there) ∙ u.queues_none

        put_wants : (node : NodeState C) →
            ((name : Name) → wanted_at state id name node.core ≡ 0) →
            after.nodes ≡ put_node node before.nodes →
            wanted_at state id one (core_of two after.nodes) ≡ 0
        put_wants node none nodes = ap (λ ns. wanted_at state id one (core_of two ns)) nodes ∙ go (same_name two node.name) refl
          where
            go : (b : Bool) → same_name two node.name ≡ b → wanted_at state id one (core_of two (put_node node before.nodes)) ≡ 0
            go true here = ap (λ (o : Option (NodeState C)). wanted_at state id one (core_in o)) (put_same two node before.nodes here) ∙ none one
            go false there = ap (λ (o : Option (NodeState C)). wanted_at state id one (core_in o)) (put_other two node before.nodes there) ∙ u.wants_none

        -- a start is silent, and its core queues and wants nothing
        unheard_start : (me : Origin) (peers : List Name) (contact : Option Name) →
            Starts starts limits before me peers contact entry after →
            IsUnheard state content after id one two
        unheard_start me peers contact started =
            let start : StartLaws content me peers started.sends (state started.core) =
            laws.start me limits peers contact started.sends started.core started.fit started.started in
            record {
              no_copies = more (copy_weight content id one two) u.no_copies (silent_copies content id one two me started.sends start.sends_silent);
              no_announcements =
                  more (announcement_weight content id one two) u.no_announcements
                  (silent_announcements content id one two me started.sends start.sends_silent);
              no_requests = more (request_weight content id two one) u.no_requests (silent_requests content id two one me started.sends start.sends_silent);
              queues_none =
                  put_queues (record { name = me.name; highest = me.incarnation; core = Some started.core })
                  (λ name. ap (λ q. entries_queued id name q) start.queue_is_empty) started.nodes;
              wants_none =
                  put_wants (record { name = me.name; highest = me.incarnation; core = Some started.core })
                  (λ name. ap (λ w. entries_wanted id name w) start.wants_nothing) started.nodes;
            }
          where
            more : (w : Packet N → ℕ) → sum_by w before.sent ≡ 0 → sum_by w (packets me started.sends) ≡ 0 → sum_by w after.sent ≡ 0
            more w old new =
                let both : sum_by w after.sent ≡ sum_by w before.sent + sum_by w (packets me started.sends) =
                ap (λ ps. sum_by w ps) started.sending.sent ∙ sum_by-append w before.sent (packets me started.sends) in
                let all : sum_by w after.sent ≡ 0 = omega arith in
                all

        -- every event
        event_unheard : (event : Event) → Effect state starts steps limits before entry after event → IsUnheard state content after id one two
        event_unheard (Start name incarnation peers contact) effect = unheard_start (record { name = name; incarnation = incarnation }) peers contact effect.1
        event_unheard (Broadcast name payload) effect =
            unheard_step _ _ (broadcast_step state content is_sound starts steps laws limits past entry before after kept name payload effect.1)
        event_unheard (Arrive place dice) effect =
            unheard_step _ _ (arrive_step state content is_sound starts steps laws limits past entry before after kept place dice effect)
        event_unheard (Lose place) effect = unheard_same effect.others.nodes effect.others.sent
        event_unheard (Again number) effect = unheard_same effect.others.nodes effect.others.sent
        event_unheard (Fire name fired) effect =
            unheard_step _ _ (fire_step state content is_sound starts steps laws limits past entry before after kept name fired effect.1)
        event_unheard (Flush name) effect =
            unheard_step _ _ (flush_step state content is_sound starts steps laws limits past entry before after kept name effect.1)
        event_unheard (Down name peer dice) effect =
            unheard_step _ _ (down_step state content is_sound starts steps laws limits past entry before after kept name peer dice effect.1)
        event_unheard (Shuffle name dice) effect =
            unheard_step _ _ (shuffle_step state content is_sound starts steps laws limits past entry before after kept name dice effect.1)
        event_unheard (Join name contact) effect =
            unheard_step _ _ (join_step state content is_sound starts steps laws limits past entry before after kept name contact effect.1)
        event_unheard (Stop name) effect =
            record {
              no_copies = ap (λ ps. sum_by (copy_weight content id one two) ps) effect.1.sent ∙ u.no_copies;
              no_announcements = ap (λ ps. sum_by (announcement_weight content id one two) ps) effect.1.sent ∙ u.no_announcements;
              no_requests = ap (λ ps. sum_by (request_weight content id two one) ps) effect.1.sent ∙ u.no_requests;
              queues_none = put_queues (record effect.1.node { core = None }) (λ name. refl) effect.1.nodes;
              wants_none = put_wants (record effect.1.node { core = None }) (λ name. refl) effect.1.nodes;
            }

      module _ (id : MsgId) (one two : Name) (apart : one ≡ two → ⊥) (g : GoesOnce state content before id one two) where
        -- a step
        once_step : (name : Name) (by : Stimulus N) →
            IsStep state content is_sound starts steps laws limits past entry before after name by →
            GoesOnce state content after id one two
        once_step name by step = step_once state content is_sound starts steps laws limits past entry before after name by step are_sent id one two apart g

        -- every calm event that repeats nothing
        event_once : (event : Event) →
            IsCalm event →
            IsNoRepeat event →
            Effect state starts steps limits before entry after event →
            GoesOnce state content after id one two
        event_once (Broadcast name payload) calm new effect =
            once_step _ _ (broadcast_step state content is_sound starts steps laws limits past entry before after kept name payload effect.1)
        event_once (Arrive place dice) calm new effect =
            once_step _ _ (arrive_step state content is_sound starts steps laws limits past entry before after kept place dice effect)
        event_once (Fire name fired) calm new effect =
            once_step _ _ (fire_step state content is_sound starts steps laws limits past entry before after kept name fired effect.1)
        event_once (Flush name) calm new effect =
            once_step _ _ (flush_step state content is_sound starts steps laws limits past entry before after kept name effect.1)
        event_once (Shuffle name dice) calm new effect =
            once_step _ _ (shuffle_step state content is_sound starts steps laws limits past entry before after kept name dice effect.1)
        event_once (Join name contact) calm new effect =
            once_step _ _ (join_step state content is_sound starts steps laws limits past entry before after kept name contact effect.1)
        event_once (Again number) calm new effect = absurd new
        event_once (Start name incarnation peers contact) calm new effect = absurd calm
        event_once (Lose place) calm new effect = absurd calm
        event_once (Down name peer dice) calm new effect = absurd calm
        event_once (Stop name) calm new effect = absurd calm

        -- the event that says a message
        saying_once : (event : Event) →
            IsSaying event past id →
            Effect state starts steps limits before entry after event →
            GoesOnce state content after id one two
        saying_once (Broadcast name payload) says effect =
            once_step _ _ (broadcast_step state content is_sound starts steps laws limits past entry before after kept name payload effect.1)
        saying_once (Start name incarnation peers contact) says effect = absurd says.1
        saying_once (Arrive place dice) says effect = absurd says.1
        saying_once (Lose place) says effect = absurd says.1
        saying_once (Again number) says effect = absurd says.1
        saying_once (Fire name fired) says effect = absurd says.1
        saying_once (Flush name) says effect = absurd says.1
        saying_once (Down name peer dice) says effect = absurd says.1
        saying_once (Shuffle name dice) says effect = absurd says.1
        saying_once (Join name contact) says effect = absurd says.1
        saying_once (Stop name) says effect = absurd says.1

    -- in every run each packet in flight was sent
    pub run_sent : (history : List Entry) (group : Group C N) → Run state starts steps limits history group → AreSent group.sent group.flight
    run_sent [] group run = subst (λ ks. AreSent group.sent ks) (sym run.nothing_in_flight) tt
    run_sent (entry ∷ past) group run =
        event_sent past entry run.0 group (run_keeps state content is_sound starts steps laws limits past run.0 run.1)
        (run_sent past run.0 run.1) entry.event run.2.1

    -- before a message is said nothing of it crosses a link
    run_unheard : (id : MsgId) (one two : Name) →
        (one ≡ two → ⊥) →
        (history : List Entry) (group : Group C N) →
        Run state starts steps limits history group →
        ((q : List ℕ) → Said history id q → ⊥) →
        IsUnheard state content group id one two
    run_unheard id one two apart [] group run unsaid =
        record {
          no_copies = ap (λ ps. sum_by (copy_weight content id one two) ps) run.nothing_sent;
          no_announcements = ap (λ ps. sum_by (announcement_weight content id one two) ps) run.nothing_sent;
          no_requests = ap (λ ps. sum_by (request_weight content id two one) ps) run.nothing_sent;
          queues_none = ap (λ ns. queued_at state id two (core_of one ns)) run.no_nodes;
          wants_none = ap (λ ns. wanted_at state id one (core_of two ns)) run.no_nodes;
        }
    run_unheard id one two apart (entry ∷ past) group run unsaid =
        event_unheard past entry run.0 group (run_keeps state content is_sound starts steps laws limits past run.0 run.1) (run_sent past run.0 run.1) id
        (none_has state content is_sound starts steps laws limits id (entry ∷ past) group run unsaid) one two apart
        (run_unheard id one two apart past run.0 run.1 (λ q said. unsaid q (inr said))) entry.event run.2.1

    -- in an undisturbed run without repeats the message goes between two nodes once at most
    run_once : (id : MsgId) (one two : Name) →
        (one ≡ two → ⊥) →
        (history : List Entry) (group : Group C N) →
        Run state starts steps limits history group →
        SaidAndCalm history id →
        IsUnrepeated history id →
        GoesOnce state content group id one two
    run_once id one two apart [] group run calm new = absurd calm
    run_once id one two apart (entry ∷ past) group run calm new =
        elim calm [
          | inl saying ↦ said saying
          | inr on ↦ elim new [
            | inl saying ↦ said saying
            | inr later ↦
                event_once past entry run.0 group (run_keeps state content is_sound starts steps laws limits past run.0 run.1)
                (run_sent past run.0 run.1) id one two apart (run_once id one two apart past run.0 run.1 on.2 later.1) entry.event on.0 later.0 run.2.1
          ]
        ]
      where
        said : IsSaying entry.event past id → GoesOnce state content group id one two
        said saying =
            let unsaid : (q : List ℕ) → Said past id q → ⊥ =
            λ q earlier. not_again id saying.0 past entry.event saying.1
            (said_counted id q past (are_fresh state content is_sound starts steps laws limits past run.0 run.1) earlier) in
            saying_once past entry run.0 group (run_keeps state content is_sound starts steps laws limits past run.0 run.1)
            (run_sent past run.0 run.1) id one two apart
            (unheard_once state content run.0 id one two (run_unheard id one two apart past run.0 run.1 unsaid)) entry.event saying run.2.1

    -- so each of the three counts is 1 at most
    pub crosses_once : (id : MsgId) (one two : Name) →
        (one ≡ two → ⊥) →
        (history : List Entry) (group : Group C N) →
        Run state starts steps limits history group →
        SaidAndCalm history id →
        IsUnrepeated history id →
        CrossesOnce content group.sent id one two
    crosses_once id one two apart history group run calm new =
        let g : GoesOnce state content group id one two = run_once id one two apart history group run calm new in
        let announced : queued_at state id two (core_of one group.nodes) + sum_by (announcement_weight content id one two) group.sent ≤ 1 = g.announced in
        let asked : sum_by (request_weight content id two one) group.sent + wanted_at state id one (core_of two group.nodes)
        + flying_weight (announcement_weight content id one two) group.sent group.flight ≤ sum_by (announcement_weight content id one two) group.sent =
        g.asked in
        let crossed : sum_by (copy_weight content id one two) group.sent
        + flying_weight (request_weight content id two one) group.sent group.flight + wanted_at state id one (core_of two group.nodes)
        + flying_weight (announcement_weight content id one two) group.sent group.flight + queued_at state id two (core_of one group.nodes) ≤ 1 =
        g.crossed in
        let copies : sum_by (copy_weight content id one two) group.sent ≤ 1 = omega arith in
        let announcements : sum_by (announcement_weight content id one two) group.sent ≤ 1 = omega arith in
        let requests : sum_by (request_weight content id two one) group.sent ≤ 1 = omega arith in
        record { one_copy = copies; one_announcement = announcements; one_request = requests }
