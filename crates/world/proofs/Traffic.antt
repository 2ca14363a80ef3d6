-- Every undisturbed run without repeats sends a message over a link once at most.
use Rattle.std.proofs.Common.{◌≡◌, ◌∙◌, ◌+◌, ◌<◌, length, ◌≤◌, ℕ, List, ◌++◌, true, false, sym, ap, refl, subst, inl, inr, arith}
use Rattle.std.specs.List.{sum_by}
use Rattle.std.specs.Prelude.{Bool, Option, Some, None}
use Rattle.std.proofs.lemmas.Bool.{false≢true}
use Rattle.std.proofs.lemmas.List.Sums.{sum_by-append}
use Rattle.node_names.specs.NodeName.{Name}
use Rattle.node_names.specs.Limits.{Limits}
use Rattle.node_names.specs.Same.{same_name, same_name-Decides}
use Rattle.node_names.specs.declared.ids.MsgId.{MsgId}
use Rattle.node_names.specs.declared.ids.Origin.{Origin}
use Rattle.protocol.specs.Content.{Content}
use Rattle.protocol.specs.CoreState.{CoreState}
use Rattle.protocol.specs.Delivery.{Delivery}
use Rattle.protocol.specs.DeliveryLaw.{ids}
use Rattle.protocol.specs.Laws.{Laws, StateLaws}
use Rattle.protocol.specs.Lists.{IsOneOf}
use Rattle.protocol.specs.SpreadLaw.{entries_queued, packets_carrying}
use Rattle.protocol.specs.Stimulus.{Stimulus}
use Rattle.protocol.specs.WantLaw.{entries_wanted}
use Rattle.world.specs.Entry.{Entry}
use Rattle.world.specs.Group.{Group, core_in, core_of, node_of, origin_of, packets}
use Rattle.world.specs.Links.{Runs}
use Rattle.world.specs.declared.node_state.NodeState.{NodeState}
use Rattle.world.specs.declared.packet.Packet.{Packet}
use Rattle.world.proofs.Crossing.{announced_less, announced_now, announcement_weight, announcements_from, announcements_not_from}
use Rattle.world.proofs.Crossing.{answered, asked_of, copies_from, copies_not_from, copy_weight, lacks_queues, none_sent}
use Rattle.world.proofs.Crossing.{request_weight, requests_from, requests_not_from, shared, wanted_less, was_lacked}
use Rattle.world.proofs.FindLemmas.{found_name, name_is, put_other, put_same, tells_apart}
use Rattle.world.proofs.Rounds.{announced_to}
use Rattle.world.proofs.Steps.{IsStep}
use Rattle.world.proofs.Weights.{AreSent, arriving, each_staying, flying_more, flying_none, flying_weight, sent_more}

-- ---- what a group has of a message between two names

-- how many announcements of the message a core that may run has queued for the name
abbrev pub queued_at : {C : Type 0} → (C → CoreState) → MsgId → Name → Option C → ℕ
queued_at state id name None = 0
queued_at state id name (Some core) = entries_queued id name (state core).queued

-- by how many entries it wants the message from the name
abbrev pub wanted_at : {C : Type 0} → (C → CoreState) → MsgId → Name → Option C → ℕ
wanted_at state id name None = 0
wanted_at state id name (Some core) = entries_wanted id name (state core).wants

-- Nothing was sent of the message between the two, and nothing is queued or wanted.
pub record IsUnheard {C N : Type 0} (state : C → CoreState) (content : N → Content) (group : Group C N) (id : MsgId) (one two : Name) : Type 0 where
  pub no_copies : sum_by (copy_weight content id one two) group.sent ≡ 0
  pub no_announcements : sum_by (announcement_weight content id one two) group.sent ≡ 0
  pub no_requests : sum_by (request_weight content id two one) group.sent ≡ 0
  pub queues_none : queued_at state id two (core_of one group.nodes) ≡ 0
  pub wants_none : wanted_at state id one (core_of two group.nodes) ≡ 0

-- The first sends, announces and is asked for the message once at most: an announcement was queued before it was sent,
-- is in flight or was taken up by an entry, of which a request was made, which is in flight or was answered by a copy.
pub record GoesOnce {C N : Type 0} (state : C → CoreState) (content : N → Content) (group : Group C N) (id : MsgId) (one two : Name) : Type 0 where
  pub lacks_none : (core : C) →
      core_of one group.nodes ≡ Some core →
      (state core).has id ≡ false →
      (sum_by (copy_weight content id one two) group.sent ≡ 0) × (sum_by (announcement_weight content id one two) group.sent ≡ 0)
  pub announced : queued_at state id two (core_of one group.nodes) + sum_by (announcement_weight content id one two) group.sent ≤ 1
  pub asked : sum_by (request_weight content id two one) group.sent + wanted_at state id one (core_of two group.nodes)
      + flying_weight (announcement_weight content id one two) group.sent group.flight ≤ sum_by (announcement_weight content id one two) group.sent
  pub crossed : sum_by (copy_weight content id one two) group.sent
      + flying_weight (request_weight content id two one) group.sent group.flight + wanted_at state id one (core_of two group.nodes)
      + flying_weight (announcement_weight content id one two) group.sent group.flight + queued_at state id two (core_of one group.nodes) ≤ 1
  pub asks_fly : flying_weight (request_weight content id two one) group.sent group.flight ≤ sum_by (request_weight content id two one) group.sent

-- what is unheard goes once at most
pub unheard_once : {C N : Type 0} (state : C → CoreState) (content : N → Content) (group : Group C N) (id : MsgId) (one two : Name) →
    IsUnheard state content group id one two →
    GoesOnce state content group id one two
unheard_once state content group id one two unheard =
    let copies : sum_by (copy_weight content id one two) group.sent ≡ 0 = unheard.no_copies in
    let announcements : sum_by (announcement_weight content id one two) group.sent ≡ 0 = unheard.no_announcements in
    let requests : sum_by (request_weight content id two one) group.sent ≡ 0 = unheard.no_requests in
    let queued : queued_at state id two (core_of one group.nodes) ≡ 0 = unheard.queues_none in
    let wanted : wanted_at state id one (core_of two group.nodes) ≡ 0 = unheard.wants_none in
    let announced_fly : flying_weight (announcement_weight content id one two) group.sent group.flight ≡ 0 =
    flying_none (announcement_weight content id one two) group.sent group.flight announcements in
    let asks_fly : flying_weight (request_weight content id two one) group.sent group.flight ≡ 0 =
    flying_none (request_weight content id two one) group.sent group.flight requests in
    record {
      lacks_none = λ core runs lacks. (copies, announcements);
      announced = omega arith;
      asked = omega arith;
      crossed = omega arith;
      asks_fly = omega arith;
    }

-- ---- one step

module _
    {C N : Type 0}
    (state : C → CoreState)
    (content : N → Content)
    (is_sound : Limits → C → Type 0)
    (starts : Origin → Limits → List Name → Option Name → List (Name × N) → C → Type 0)
    (steps : C → Stimulus N → List (Name × N) → List Delivery → C → Type 0)
    (laws : Laws state content is_sound starts steps)
    (limits : Limits)
    (past : List Entry)
    (entry : Entry)
    (before after : Group C N)
    (name : Name)
    (by : Stimulus N)
    (step : IsStep state content is_sound starts steps laws limits past entry before after name by)
    (are_sent : AreSent before.sent before.flight)
  where
    abbrev old : CoreState
    old = state step.acts.old

    abbrev new : CoreState
    new = state step.acts.new

    abbrev me : Origin
    me = origin_of step.acts.node

    -- the name of the node is that of the step
    named : name ≡ step.acts.node.name
    named = found_name name before.nodes step.acts.node step.acts.known

    is_here : same_name name step.acts.node.name ≡ true
    is_here = subst (λ n. same_name name n ≡ true) named (name_is name)

    is_not_here : (other : Name) → (other ≡ name → ⊥) → same_name other step.acts.node.name ≡ false
    is_not_here other differs = tells_apart other step.acts.node.name (λ e. differs (e ∙ sym named))

    -- who runs before and after
    core_before : core_of name before.nodes ≡ Some step.acts.old
    core_before = ap (λ (o : Option (NodeState C)). core_in o) step.acts.known ∙ step.acts.running

    core_after : core_of name after.nodes ≡ Some step.acts.new
    core_after =
        ap (λ ns. core_of name ns) step.acts.nodes
        ∙ ap (λ (o : Option (NodeState C)). core_in o) (put_same name (record step.acts.node { core = Some step.acts.new }) before.nodes is_here)

    core_other : (other : Name) → (other ≡ name → ⊥) → core_of other after.nodes ≡ core_of other before.nodes
    core_other other differs =
        ap (λ ns. core_of other ns) step.acts.nodes
        ∙ ap (λ (o : Option (NodeState C)). core_in o)
        (put_other other (record step.acts.node { core = Some step.acts.new }) before.nodes (is_not_here other differs))

    -- what stays in flight was sent
    stayed_sent : AreSent before.sent step.staying
    stayed_sent = each_staying (λ number. number < length before.sent) before.flight step.staying are_sent step.stayed

    -- what was sent weighs more by what the step sends
    sums : (w : Packet N → ℕ) → sum_by w after.sent ≡ sum_by w before.sent + sum_by w (packets me step.acts.sends)
    sums w = ap (λ ps. sum_by w ps) step.acts.sending.sent ∙ sum_by-append w before.sent (packets me step.acts.sends)

    -- and so does what is in flight, but for what arrives
    pub flights : (w : Packet N → ℕ) →
        flying_weight w after.sent after.flight + arriving w name by ≡ flying_weight w before.sent before.flight + sum_by w (packets me step.acts.sends)
    flights w =
        let flew : flying_weight w before.sent before.flight ≡ arriving w name by + flying_weight w before.sent step.staying = step.flew w in
        let more : flying_weight w after.sent after.flight ≡ flying_weight w before.sent step.staying + sum_by w (packets me step.acts.sends) =
        (λ i. flying_weight w (step.acts.sending.sent i) (step.acts.sending.flight i))
        ∙ flying_more w before.sent step.staying me step.acts.sends stayed_sent in
        let all : flying_weight w after.sent after.flight + arriving w name by
        ≡ flying_weight w before.sent before.flight + sum_by w (packets me step.acts.sends) =
        omega arith in
        all

    -- each packet in flight was sent
    pub step_sent : AreSent after.sent after.flight
    step_sent =
        subst (λ ps. AreSent ps after.flight) (sym step.acts.sending.sent)
        (subst (λ ks. AreSent (before.sent ++ packets me step.acts.sends) ks) (sym step.acts.sending.flight)
        (sent_more before.sent step.staying me step.acts.sends stayed_sent))

    sound_old : StateLaws limits old
    sound_old = laws.always limits step.acts.old step.core.sound

    sound_new : StateLaws limits new
    sound_new = laws.always limits step.acts.new step.sound

    -- the core that stepped runs
    pub runs_after_step : Runs after name step.acts.new
    runs_after_step = (
      record step.acts.node { core = Some step.acts.new },
      subst (λ ns. node_of name ns ≡ Some (record step.acts.node { core = Some step.acts.new })) (sym step.acts.nodes)
          (put_same name (record step.acts.node { core = Some step.acts.new }) before.nodes is_here),
      refl,
    )

    module _ (id : MsgId) where
      -- what is lacked afterwards is not delivered
      not_delivered : new.has id ≡ false → IsOneOf id (ids entry.given) → ⊥
      not_delivered lacks now = false≢true (sym lacks ∙ (step.lawful.deliveries.grows id).1 (inr now))

      -- where the core that steps is the first
      module _ (two : Name) (differs : two ≡ name → ⊥) where
        sender_queued : queued_at state id two (core_of name before.nodes) ≡ entries_queued id two old.queued
        sender_queued = ap (λ (o : Option C). queued_at state id two o) core_before

        sender_queues : queued_at state id two (core_of name after.nodes) ≡ entries_queued id two new.queued
        sender_queues = ap (λ (o : Option C). queued_at state id two o) core_after

        sender_wants : wanted_at state id name (core_of two after.nodes) ≡ wanted_at state id name (core_of two before.nodes)
        sender_wants = ap (λ (o : Option C). wanted_at state id name o) (core_other two differs)

        sender_copies : sum_by (copy_weight content id name two) (packets me step.acts.sends) ≡ packets_carrying content id two step.acts.sends
        sender_copies = copies_from content id name two me step.acts.sends is_here

        sender_announces : sum_by (announcement_weight content id name two) (packets me step.acts.sends) ≡ announced_to content id two step.acts.sends
        sender_announces = announcements_from content id name two me step.acts.sends is_here

        sender_asks_none : sum_by (request_weight content id two name) (packets me step.acts.sends) ≡ 0
        sender_asks_none = requests_not_from content id two name me step.acts.sends (is_not_here two differs)

        sender_once : GoesOnce state content before id name two → GoesOnce state content after id name two
        sender_once g = by_has (old.has id) (new.has id) refl refl
          where
            queued : queued_at state id two (core_of name before.nodes) ≡ entries_queued id two old.queued
            queued = sender_queued

            had_it : old.has id ≡ true → IsOneOf id (ids entry.given) → ⊥
            had_it had now = false≢true (sym (was_lacked content limits old new name by step.acts.sends entry.given step.lawful sound_new id two now) ∙ had)

            by_has : (b c : Bool) → old.has id ≡ b → new.has id ≡ c → GoesOnce state content after id name two
            by_has true c had has =
                let q0 : queued_at state id two (core_of name before.nodes) ≡ entries_queued id two old.queued = sender_queued in
                let q1 : queued_at state id two (core_of name after.nodes) ≡ entries_queued id two new.queued = sender_queues in
                let w1 : wanted_at state id name (core_of two after.nodes) ≡ wanted_at state id name (core_of two before.nodes) = sender_wants in
                let c1 : sum_by (copy_weight content id name two) after.sent
                ≡ sum_by (copy_weight content id name two) before.sent + sum_by (copy_weight content id name two) (packets me step.acts.sends) =
                sums (copy_weight content id name two) in
                let c2 : sum_by (copy_weight content id name two) (packets me step.acts.sends) ≡ packets_carrying content id two step.acts.sends =
                sender_copies in
                let a1 : sum_by (announcement_weight content id name two) after.sent
                ≡ sum_by (announcement_weight content id name two) before.sent + sum_by (announcement_weight content id name two) (packets me step.acts.sends) =
                sums (announcement_weight content id name two) in
                let a2 : sum_by (announcement_weight content id name two) (packets me step.acts.sends) ≡ announced_to content id two step.acts.sends =
                sender_announces in
                let k1 : sum_by (request_weight content id two name) after.sent
                ≡ sum_by (request_weight content id two name) before.sent + sum_by (request_weight content id two name) (packets me step.acts.sends) =
                sums (request_weight content id two name) in
                let k2 : sum_by (request_weight content id two name) (packets me step.acts.sends) ≡ 0 = sender_asks_none in
                let fa : flying_weight (announcement_weight content id name two) after.sent after.flight
                + arriving (announcement_weight content id name two) name by
                ≡ flying_weight (announcement_weight content id name two) before.sent before.flight + sum_by (announcement_weight content id name two)
                (packets me step.acts.sends) =
                flights (announcement_weight content id name two) in
                let fk : flying_weight (request_weight content id two name) after.sent after.flight + arriving (request_weight content id two name) name by
                ≡ flying_weight (request_weight content id two name) before.sent before.flight + sum_by (request_weight content id two name)
                (packets me step.acts.sends) =
                flights (request_weight content id two name) in
                let sent : packets_carrying content id two step.acts.sends ≤ arriving (request_weight content id two name) name by =
                answered content limits old new name by step.acts.sends entry.given step.lawful sound_new id two (had_it had) in
                let less : announced_to content id two step.acts.sends + entries_queued id two new.queued ≤ entries_queued id two old.queued =
                announced_less content limits old new name by step.acts.sends entry.given step.lawful sound_new id two (had_it had) in
                let g1 : queued_at state id two (core_of name before.nodes) + sum_by (announcement_weight content id name two) before.sent ≤ 1 = g.announced in
                let g2 : sum_by (request_weight content id two name) before.sent + wanted_at state id name (core_of two before.nodes)
                + flying_weight (announcement_weight content id name two) before.sent before.flight
                ≤ sum_by (announcement_weight content id name two) before.sent =
                g.asked in
                let g3 : sum_by (copy_weight content id name two) before.sent
                + flying_weight (request_weight content id two name) before.sent before.flight + wanted_at state id name (core_of two before.nodes)
                + flying_weight (announcement_weight content id name two) before.sent before.flight + queued_at state id two (core_of name before.nodes) ≤ 1 =
                g.crossed in
                let g4 : flying_weight (request_weight content id two name) before.sent before.flight
                ≤ sum_by (request_weight content id two name) before.sent =
                g.asks_fly in
                record {
                  lacks_none = λ core runs lacks. (
                      let same : Some step.acts.new ≡ Some core = sym core_after ∙ runs in
                      let this : step.acts.new ≡ core = cc in
                      absurd (false≢true (sym lacks ∙ subst (λ k. (state k).has id ≡ true) this ((step.lawful.deliveries.grows id).1 (inl had)))));
                  announced = omega arith;
                  asked = omega arith;
                  crossed = omega arith;
                  asks_fly = omega arith;
                }
            by_has false true lacked has =
                let now : IsOneOf id (ids entry.given) =
                elim ((step.lawful.deliveries.grows id).0 has) [ inl had ↦ absurd (false≢true (sym lacked ∙ had)) | inr given ↦ given ] in
                let q0 : queued_at state id two (core_of name before.nodes) ≡ entries_queued id two old.queued = sender_queued in
                let q1 : queued_at state id two (core_of name after.nodes) ≡ entries_queued id two new.queued = sender_queues in
                let w1 : wanted_at state id name (core_of two after.nodes) ≡ wanted_at state id name (core_of two before.nodes) = sender_wants in
                let c1 : sum_by (copy_weight content id name two) after.sent
                ≡ sum_by (copy_weight content id name two) before.sent + sum_by (copy_weight content id name two) (packets me step.acts.sends) =
                sums (copy_weight content id name two) in
                let c2 : sum_by (copy_weight content id name two) (packets me step.acts.sends) ≡ packets_carrying content id two step.acts.sends =
                sender_copies in
                let a1 : sum_by (announcement_weight content id name two) after.sent
                ≡ sum_by (announcement_weight content id name two) before.sent + sum_by (announcement_weight content id name two) (packets me step.acts.sends) =
                sums (announcement_weight content id name two) in
                let a2 : sum_by (announcement_weight content id name two) (packets me step.acts.sends) ≡ announced_to content id two step.acts.sends =
                sender_announces in
                let a3 : announced_to content id two step.acts.sends ≡ 0 =
                announced_now content limits old new name by step.acts.sends entry.given step.lawful sound_new id two now in
                let k1 : sum_by (request_weight content id two name) after.sent
                ≡ sum_by (request_weight content id two name) before.sent + sum_by (request_weight content id two name) (packets me step.acts.sends) =
                sums (request_weight content id two name) in
                let k2 : sum_by (request_weight content id two name) (packets me step.acts.sends) ≡ 0 = sender_asks_none in
                let fa : flying_weight (announcement_weight content id name two) after.sent after.flight
                + arriving (announcement_weight content id name two) name by
                ≡ flying_weight (announcement_weight content id name two) before.sent before.flight + sum_by (announcement_weight content id name two)
                (packets me step.acts.sends) =
                flights (announcement_weight content id name two) in
                let fk : flying_weight (request_weight content id two name) after.sent after.flight + arriving (request_weight content id two name) name by
                ≡ flying_weight (request_weight content id two name) before.sent before.flight + sum_by (request_weight content id two name)
                (packets me step.acts.sends) =
                flights (request_weight content id two name) in
                let one : packets_carrying content id two step.acts.sends + entries_queued id two new.queued ≤ 1 =
                shared content limits old new name by step.acts.sends entry.given step.lawful sound_new id two now in
                let none : (sum_by (copy_weight content id name two) before.sent ≡ 0) × (sum_by (announcement_weight content id name two) before.sent ≡ 0) =
                g.lacks_none step.acts.old core_before lacked in
                let none_copied : sum_by (copy_weight content id name two) before.sent ≡ 0 = none.0 in
                let none_announced : sum_by (announcement_weight content id name two) before.sent ≡ 0 = none.1 in
                let g2 : sum_by (request_weight content id two name) before.sent + wanted_at state id name (core_of two before.nodes)
                + flying_weight (announcement_weight content id name two) before.sent before.flight
                ≤ sum_by (announcement_weight content id name two) before.sent =
                g.asked in
                let g4 : flying_weight (request_weight content id two name) before.sent before.flight
                ≤ sum_by (request_weight content id two name) before.sent =
                g.asks_fly in
                record {
                  lacks_none = λ core runs lacks. (
                      let same : Some step.acts.new ≡ Some core = sym core_after ∙ runs in
                      let this : step.acts.new ≡ core = cc in
                      absurd (false≢true (sym lacks ∙ subst (λ k. (state k).has id ≡ true) this has)));
                  announced = omega arith;
                  asked = omega arith;
                  crossed = omega arith;
                  asks_fly = omega arith;
                }
            by_has false false lacked lacks =
                let q0 : queued_at state id two (core_of name before.nodes) ≡ entries_queued id two old.queued = sender_queued in
                let q1 : queued_at state id two (core_of name after.nodes) ≡ entries_queued id two new.queued = sender_queues in
                let q2 : entries_queued id two old.queued ≡ 0 = lacks_queues {limits = limits} old id two sound_old lacked in
                let w1 : wanted_at state id name (core_of two after.nodes) ≡ wanted_at state id name (core_of two before.nodes) = sender_wants in
                let c1 : sum_by (copy_weight content id name two) after.sent
                ≡ sum_by (copy_weight content id name two) before.sent + sum_by (copy_weight content id name two) (packets me step.acts.sends) =
                sums (copy_weight content id name two) in
                let c2 : sum_by (copy_weight content id name two) (packets me step.acts.sends) ≡ packets_carrying content id two step.acts.sends =
                sender_copies in
                let c3 : packets_carrying content id two step.acts.sends ≡ 0 =
                none_sent content limits old new name by step.acts.sends entry.given step.lawful sound_new id two lacks in
                let a1 : sum_by (announcement_weight content id name two) after.sent
                ≡ sum_by (announcement_weight content id name two) before.sent + sum_by (announcement_weight content id name two) (packets me step.acts.sends) =
                sums (announcement_weight content id name two) in
                let a2 : sum_by (announcement_weight content id name two) (packets me step.acts.sends) ≡ announced_to content id two step.acts.sends =
                sender_announces in
                let k1 : sum_by (request_weight content id two name) after.sent
                ≡ sum_by (request_weight content id two name) before.sent + sum_by (request_weight content id two name) (packets me step.acts.sends) =
                sums (request_weight content id two name) in
                let k2 : sum_by (request_weight content id two name) (packets me step.acts.sends) ≡ 0 = sender_asks_none in
                let fa : flying_weight (announcement_weight content id name two) after.sent after.flight
                + arriving (announcement_weight content id name two) name by
                ≡ flying_weight (announcement_weight content id name two) before.sent before.flight + sum_by (announcement_weight content id name two)
                (packets me step.acts.sends) =
                flights (announcement_weight content id name two) in
                let fk : flying_weight (request_weight content id two name) after.sent after.flight + arriving (request_weight content id two name) name by
                ≡ flying_weight (request_weight content id two name) before.sent before.flight + sum_by (request_weight content id two name)
                (packets me step.acts.sends) =
                flights (request_weight content id two name) in
                let less : announced_to content id two step.acts.sends + entries_queued id two new.queued ≤ entries_queued id two old.queued =
                announced_less content limits old new name by step.acts.sends entry.given step.lawful sound_new id two (not_delivered lacks) in
                let none : (sum_by (copy_weight content id name two) before.sent ≡ 0) × (sum_by (announcement_weight content id name two) before.sent ≡ 0) =
                g.lacks_none step.acts.old core_before lacked in
                let none_copied : sum_by (copy_weight content id name two) before.sent ≡ 0 = none.0 in
                let none_announced : sum_by (announcement_weight content id name two) before.sent ≡ 0 = none.1 in
                let copied : sum_by (copy_weight content id name two) after.sent ≡ 0 = omega arith in
                let announced_none : sum_by (announcement_weight content id name two) after.sent ≡ 0 = omega arith in
                let g2 : sum_by (request_weight content id two name) before.sent + wanted_at state id name (core_of two before.nodes)
                + flying_weight (announcement_weight content id name two) before.sent before.flight
                ≤ sum_by (announcement_weight content id name two) before.sent =
                g.asked in
                let g4 : flying_weight (request_weight content id two name) before.sent before.flight
                ≤ sum_by (request_weight content id two name) before.sent =
                g.asks_fly in
                record {
                  lacks_none = λ core runs lacks_it. (copied, announced_none);
                  announced = omega arith;
                  asked = omega arith;
                  crossed = omega arith;
                  asks_fly = omega arith;
                }

        -- a message of which nothing was heard stays so where the core does not have it afterwards
        sender_unheard : new.has id ≡ false → IsUnheard state content before id name two → IsUnheard state content after id name two
        sender_unheard lacks u =
            let q0 : queued_at state id two (core_of name before.nodes) ≡ entries_queued id two old.queued = sender_queued in
            let q1 : queued_at state id two (core_of name after.nodes) ≡ entries_queued id two new.queued = sender_queues in
            let q2 : queued_at state id two (core_of name before.nodes) ≡ 0 = u.queues_none in
            let c0 : sum_by (copy_weight content id name two) before.sent ≡ 0 = u.no_copies in
            let c1 : sum_by (copy_weight content id name two) after.sent
            ≡ sum_by (copy_weight content id name two) before.sent + sum_by (copy_weight content id name two) (packets me step.acts.sends) =
            sums (copy_weight content id name two) in
            let c2 : sum_by (copy_weight content id name two) (packets me step.acts.sends) ≡ packets_carrying content id two step.acts.sends = sender_copies in
            let c3 : packets_carrying content id two step.acts.sends ≡ 0 =
            none_sent content limits old new name by step.acts.sends entry.given step.lawful sound_new id two lacks in
            let a0 : sum_by (announcement_weight content id name two) before.sent ≡ 0 = u.no_announcements in
            let a1 : sum_by (announcement_weight content id name two) after.sent
            ≡ sum_by (announcement_weight content id name two) before.sent + sum_by (announcement_weight content id name two) (packets me step.acts.sends) =
            sums (announcement_weight content id name two) in
            let a2 : sum_by (announcement_weight content id name two) (packets me step.acts.sends) ≡ announced_to content id two step.acts.sends =
            sender_announces in
            let k0 : sum_by (request_weight content id two name) before.sent ≡ 0 = u.no_requests in
            let k1 : sum_by (request_weight content id two name) after.sent
            ≡ sum_by (request_weight content id two name) before.sent + sum_by (request_weight content id two name) (packets me step.acts.sends) =
            sums (request_weight content id two name) in
            let k2 : sum_by (request_weight content id two name) (packets me step.acts.sends) ≡ 0 = sender_asks_none in
            let less : announced_to content id two step.acts.sends + entries_queued id two new.queued ≤ entries_queued id two old.queued =
            announced_less content limits old new name by step.acts.sends entry.given step.lawful sound_new id two (not_delivered lacks) in
            record {
              no_copies = omega arith;
              no_announcements = omega arith;
              no_requests = omega arith;
              queues_none = omega arith;
              wants_none = sender_wants ∙ u.wants_none;
            }

      -- where it is the second
      module _ (one : Name) (differs : one ≡ name → ⊥) where
        receiver_queues : queued_at state id name (core_of one after.nodes) ≡ queued_at state id name (core_of one before.nodes)
        receiver_queues = ap (λ (o : Option C). queued_at state id name o) (core_other one differs)

        receiver_wanted : wanted_at state id one (core_of name before.nodes) ≡ entries_wanted id one old.wants
        receiver_wanted = ap (λ (o : Option C). wanted_at state id one o) core_before

        receiver_wants : wanted_at state id one (core_of name after.nodes) ≡ entries_wanted id one new.wants
        receiver_wants = ap (λ (o : Option C). wanted_at state id one o) core_after

        receiver_copies : sum_by (copy_weight content id one name) after.sent ≡ sum_by (copy_weight content id one name) before.sent
        receiver_copies =
            let more : sum_by (copy_weight content id one name) after.sent
            ≡ sum_by (copy_weight content id one name) before.sent + sum_by (copy_weight content id one name) (packets me step.acts.sends) =
            sums (copy_weight content id one name) in
            let none : sum_by (copy_weight content id one name) (packets me step.acts.sends) ≡ 0 =
            copies_not_from content id one name me step.acts.sends (is_not_here one differs) in
            let same : sum_by (copy_weight content id one name) after.sent ≡ sum_by (copy_weight content id one name) before.sent = omega arith in
            same

        receiver_announces : sum_by (announcement_weight content id one name) (packets me step.acts.sends) ≡ 0
        receiver_announces = announcements_not_from content id one name me step.acts.sends (is_not_here one differs)

        receiver_announced : sum_by (announcement_weight content id one name) after.sent ≡ sum_by (announcement_weight content id one name) before.sent
        receiver_announced =
            let more : sum_by (announcement_weight content id one name) after.sent
            ≡ sum_by (announcement_weight content id one name) before.sent + sum_by (announcement_weight content id one name) (packets me step.acts.sends) =
            sums (announcement_weight content id one name) in
            let none : sum_by (announcement_weight content id one name) (packets me step.acts.sends) ≡ 0 = receiver_announces in
            let same : sum_by (announcement_weight content id one name) after.sent ≡ sum_by (announcement_weight content id one name) before.sent =
            omega arith in
            same

        receiver_asks : sum_by (request_weight content id name one) (packets me step.acts.sends) ≡ asked_of content id one step.acts.sends
        receiver_asks = requests_from content id name one me step.acts.sends is_here

        receiver_once : GoesOnce state content before id one name → GoesOnce state content after id one name
        receiver_once g =
            let q1 : queued_at state id name (core_of one after.nodes) ≡ queued_at state id name (core_of one before.nodes) = receiver_queues in
            let w0 : wanted_at state id one (core_of name before.nodes) ≡ entries_wanted id one old.wants = receiver_wanted in
            let w1 : wanted_at state id one (core_of name after.nodes) ≡ entries_wanted id one new.wants = receiver_wants in
            let c1 : sum_by (copy_weight content id one name) after.sent ≡ sum_by (copy_weight content id one name) before.sent = receiver_copies in
            let a1 : sum_by (announcement_weight content id one name) after.sent ≡ sum_by (announcement_weight content id one name) before.sent =
            receiver_announced in
            let a2 : sum_by (announcement_weight content id one name) (packets me step.acts.sends) ≡ 0 = receiver_announces in
            let k1 : sum_by (request_weight content id name one) after.sent
            ≡ sum_by (request_weight content id name one) before.sent + sum_by (request_weight content id name one) (packets me step.acts.sends) =
            sums (request_weight content id name one) in
            let k2 : sum_by (request_weight content id name one) (packets me step.acts.sends) ≡ asked_of content id one step.acts.sends = receiver_asks in
            let fa : flying_weight (announcement_weight content id one name) after.sent after.flight
            + arriving (announcement_weight content id one name) name by
            ≡ flying_weight (announcement_weight content id one name) before.sent before.flight + sum_by (announcement_weight content id one name)
            (packets me step.acts.sends) =
            flights (announcement_weight content id one name) in
            let fk : flying_weight (request_weight content id name one) after.sent after.flight + arriving (request_weight content id name one) name by
            ≡ flying_weight (request_weight content id name one) before.sent before.flight + sum_by (request_weight content id name one)
            (packets me step.acts.sends) =
            flights (request_weight content id name one) in
            let less : entries_wanted id one new.wants + asked_of content id one step.acts.sends
            ≤ entries_wanted id one old.wants + arriving (announcement_weight content id one name) name by =
            wanted_less content limits old new name by step.acts.sends entry.given step.lawful sound_new id one in
            let g1 : queued_at state id name (core_of one before.nodes) + sum_by (announcement_weight content id one name) before.sent ≤ 1 = g.announced in
            let g2 : sum_by (request_weight content id name one) before.sent + wanted_at state id one (core_of name before.nodes)
            + flying_weight (announcement_weight content id one name) before.sent before.flight ≤ sum_by (announcement_weight content id one name) before.sent =
            g.asked in
            let g3 : sum_by (copy_weight content id one name) before.sent
            + flying_weight (request_weight content id name one) before.sent before.flight + wanted_at state id one (core_of name before.nodes)
            + flying_weight (announcement_weight content id one name) before.sent before.flight + queued_at state id name (core_of one before.nodes) ≤ 1 =
            g.crossed in
            let g4 : flying_weight (request_weight content id name one) before.sent before.flight ≤ sum_by (request_weight content id name one) before.sent =
            g.asks_fly in
            record {
              lacks_none = λ core runs lacks. (
                  let none : (sum_by (copy_weight content id one name) before.sent ≡ 0) × (sum_by (announcement_weight content id one name) before.sent ≡ 0) =
                  g.lacks_none core (sym (core_other one differs) ∙ runs) lacks in
                  (receiver_copies ∙ none.0, receiver_announced ∙ none.1));
              announced = omega arith;
              asked = omega arith;
              crossed = omega arith;
              asks_fly = omega arith;
            }

        receiver_unheard : IsUnheard state content before id one name → IsUnheard state content after id one name
        receiver_unheard u =
            let w0 : wanted_at state id one (core_of name before.nodes) ≡ entries_wanted id one old.wants = receiver_wanted in
            let w1 : wanted_at state id one (core_of name after.nodes) ≡ entries_wanted id one new.wants = receiver_wants in
            let w2 : wanted_at state id one (core_of name before.nodes) ≡ 0 = u.wants_none in
            let k0 : sum_by (request_weight content id name one) before.sent ≡ 0 = u.no_requests in
            let k1 : sum_by (request_weight content id name one) after.sent
            ≡ sum_by (request_weight content id name one) before.sent + sum_by (request_weight content id name one) (packets me step.acts.sends) =
            sums (request_weight content id name one) in
            let k2 : sum_by (request_weight content id name one) (packets me step.acts.sends) ≡ asked_of content id one step.acts.sends = receiver_asks in
            let fa : flying_weight (announcement_weight content id one name) before.sent before.flight
            ≡ arriving (announcement_weight content id one name) name by + flying_weight (announcement_weight content id one name) before.sent step.staying =
            step.flew (announcement_weight content id one name) in
            let f0 : flying_weight (announcement_weight content id one name) before.sent before.flight ≡ 0 =
            flying_none (announcement_weight content id one name) before.sent before.flight u.no_announcements in
            let less : entries_wanted id one new.wants + asked_of content id one step.acts.sends
            ≤ entries_wanted id one old.wants + arriving (announcement_weight content id one name) name by =
            wanted_less content limits old new name by step.acts.sends entry.given step.lawful sound_new id one in
            record {
              no_copies = receiver_copies ∙ u.no_copies;
              no_announcements = receiver_announced ∙ u.no_announcements;
              no_requests = omega arith;
              queues_none = receiver_queues ∙ u.queues_none;
              wants_none = omega arith;
            }

      -- where it is neither
      module _ (one two : Name) (not_one : one ≡ name → ⊥) (not_two : two ≡ name → ⊥) where
        bystander_copies : sum_by (copy_weight content id one two) (packets me step.acts.sends) ≡ 0
        bystander_copies = copies_not_from content id one two me step.acts.sends (is_not_here one not_one)

        bystander_announces : sum_by (announcement_weight content id one two) (packets me step.acts.sends) ≡ 0
        bystander_announces = announcements_not_from content id one two me step.acts.sends (is_not_here one not_one)

        bystander_asks : sum_by (request_weight content id two one) (packets me step.acts.sends) ≡ 0
        bystander_asks = requests_not_from content id two one me step.acts.sends (is_not_here two not_two)

        bystander_queues : queued_at state id two (core_of one after.nodes) ≡ queued_at state id two (core_of one before.nodes)
        bystander_queues = ap (λ (o : Option C). queued_at state id two o) (core_other one not_one)

        bystander_wants : wanted_at state id one (core_of two after.nodes) ≡ wanted_at state id one (core_of two before.nodes)
        bystander_wants = ap (λ (o : Option C). wanted_at state id one o) (core_other two not_two)

        bystander_once : GoesOnce state content before id one two → GoesOnce state content after id one two
        bystander_once g =
            let q1 : queued_at state id two (core_of one after.nodes) ≡ queued_at state id two (core_of one before.nodes) = bystander_queues in
            let w1 : wanted_at state id one (core_of two after.nodes) ≡ wanted_at state id one (core_of two before.nodes) = bystander_wants in
            let c1 : sum_by (copy_weight content id one two) after.sent
            ≡ sum_by (copy_weight content id one two) before.sent + sum_by (copy_weight content id one two) (packets me step.acts.sends) =
            sums (copy_weight content id one two) in
            let c2 : sum_by (copy_weight content id one two) (packets me step.acts.sends) ≡ 0 = bystander_copies in
            let a1 : sum_by (announcement_weight content id one two) after.sent
            ≡ sum_by (announcement_weight content id one two) before.sent + sum_by (announcement_weight content id one two) (packets me step.acts.sends) =
            sums (announcement_weight content id one two) in
            let a2 : sum_by (announcement_weight content id one two) (packets me step.acts.sends) ≡ 0 = bystander_announces in
            let k1 : sum_by (request_weight content id two one) after.sent
            ≡ sum_by (request_weight content id two one) before.sent + sum_by (request_weight content id two one) (packets me step.acts.sends) =
            sums (request_weight content id two one) in
            let k2 : sum_by (request_weight content id two one) (packets me step.acts.sends) ≡ 0 = bystander_asks in
            let fa : flying_weight (announcement_weight content id one two) after.sent after.flight + arriving (announcement_weight content id one two) name by
            ≡ flying_weight (announcement_weight content id one two) before.sent before.flight + sum_by (announcement_weight content id one two)
            (packets me step.acts.sends) =
            flights (announcement_weight content id one two) in
            let fk : flying_weight (request_weight content id two one) after.sent after.flight + arriving (request_weight content id two one) name by
            ≡ flying_weight (request_weight content id two one) before.sent before.flight + sum_by (request_weight content id two one)
            (packets me step.acts.sends) =
            flights (request_weight content id two one) in
            let g1 : queued_at state id two (core_of one before.nodes) + sum_by (announcement_weight content id one two) before.sent ≤ 1 = g.announced in
            let g2 : sum_by (request_weight content id two one) before.sent + wanted_at state id one (core_of two before.nodes)
            + flying_weight (announcement_weight content id one two) before.sent before.flight ≤ sum_by (announcement_weight content id one two) before.sent =
            g.asked in
            let g3 : sum_by (copy_weight content id one two) before.sent
            + flying_weight (request_weight content id two one) before.sent before.flight + wanted_at state id one (core_of two before.nodes)
            + flying_weight (announcement_weight content id one two) before.sent before.flight + queued_at state id two (core_of one before.nodes) ≤ 1 =
            g.crossed in
            let g4 : flying_weight (request_weight content id two one) before.sent before.flight ≤ sum_by (request_weight content id two one) before.sent =
            g.asks_fly in
            let c_same : sum_by (copy_weight content id one two) after.sent ≡ sum_by (copy_weight content id one two) before.sent = omega arith in
            let a_same : sum_by (announcement_weight content id one two) after.sent ≡ sum_by (announcement_weight content id one two) before.sent =
            omega arith in
            record {
              lacks_none = λ core runs lacks. (
                  let none : (sum_by (copy_weight content id one two) before.sent ≡ 0) × (sum_by (announcement_weight content id one two) before.sent ≡ 0) =
                  g.lacks_none core (sym (core_other one not_one) ∙ runs) lacks in
                  (c_same ∙ none.0, a_same ∙ none.1));
              announced = omega arith;
              asked = omega arith;
              crossed = omega arith;
              asks_fly = omega arith;
            }

        bystander_unheard : IsUnheard state content before id one two → IsUnheard state content after id one two
        bystander_unheard u =
            let c0 : sum_by (copy_weight content id one two) before.sent ≡ 0 = u.no_copies in
            let c1 : sum_by (copy_weight content id one two) after.sent
            ≡ sum_by (copy_weight content id one two) before.sent + sum_by (copy_weight content id one two) (packets me step.acts.sends) =
            sums (copy_weight content id one two) in
            let c2 : sum_by (copy_weight content id one two) (packets me step.acts.sends) ≡ 0 = bystander_copies in
            let a0 : sum_by (announcement_weight content id one two) before.sent ≡ 0 = u.no_announcements in
            let a1 : sum_by (announcement_weight content id one two) after.sent
            ≡ sum_by (announcement_weight content id one two) before.sent + sum_by (announcement_weight content id one two) (packets me step.acts.sends) =
            sums (announcement_weight content id one two) in
            let a2 : sum_by (announcement_weight content id one two) (packets me step.acts.sends) ≡ 0 = bystander_announces in
            let k0 : sum_by (request_weight content id two one) before.sent ≡ 0 = u.no_requests in
            let k1 : sum_by (request_weight content id two one) after.sent
            ≡ sum_by (request_weight content id two one) before.sent + sum_by (request_weight content id two one) (packets me step.acts.sends) =
            sums (request_weight content id two one) in
            let k2 : sum_by (request_weight content id two one) (packets me step.acts.sends) ≡ 0 = bystander_asks in
            record {
              no_copies = omega arith;
              no_announcements = omega arith;
              no_requests = omega arith;
              queues_none = bystander_queues ∙ u.queues_none;
              wants_none = bystander_wants ∙ u.wants_none;
            }

      -- any step keeps a message from going between two nodes more than once
      pub step_once : (one two : Name) → (one ≡ two → ⊥) → GoesOnce state content before id one two → GoesOnce state content after id one two
      step_once one two apart g = go (same_name one name) (same_name two name) refl refl
        where
          go : (a b : Bool) → same_name one name ≡ a → same_name two name ≡ b → GoesOnce state content after id one two
          go true b is other =
              let here : one ≡ name = (same_name-Decides one name).0 is in
              subst (λ n. GoesOnce state content after id n two) (sym here)
              (sender_once two (λ e. apart (here ∙ sym e)) (subst (λ n. GoesOnce state content before id n two) here g))
          go false true is other =
              let here : two ≡ name = (same_name-Decides two name).0 other in
              subst (λ n. GoesOnce state content after id one n) (sym here)
              (receiver_once one (λ e. apart (e ∙ sym here)) (subst (λ n. GoesOnce state content before id one n) here g))
          go false false is other =
              bystander_once one two (λ e. false≢true (sym is ∙ (same_name-Decides one name).1 e))
              (λ e. false≢true (sym other ∙ (same_name-Decides two name).1 e)) g

      -- and where nobody has it afterwards nothing is heard of it
      pub step_unheard : new.has id ≡ false →
          (one two : Name) →
          (one ≡ two → ⊥) →
          IsUnheard state content before id one two →
          IsUnheard state content after id one two
      step_unheard lacks one two apart u = go (same_name one name) (same_name two name) refl refl
        where
          go : (a b : Bool) → same_name one name ≡ a → same_name two name ≡ b → IsUnheard state content after id one two
          go true b is other =
              let here : one ≡ name = (same_name-Decides one name).0 is in
              subst (λ n. IsUnheard state content after id n two) (sym here)
              (sender_unheard two (λ e. apart (here ∙ sym e)) lacks (subst (λ n. IsUnheard state content before id n two) here u))
          go false true is other =
              let here : two ≡ name = (same_name-Decides two name).0 other in
              subst (λ n. IsUnheard state content after id one n) (sym here)
              (receiver_unheard one (λ e. apart (e ∙ sym here)) (subst (λ n. IsUnheard state content before id one n) here u))
          go false false is other =
              bystander_unheard one two (λ e. false≢true (sym is ∙ (same_name-Decides one name).1 e))
              (λ e. false≢true (sym other ∙ (same_name-Decides two name).1 e)) u
