-- What holds of every run: its deliveries were said, none is given twice, and all views are sound.
use Rattle.std.proofs.Common.{◌≡◌, ◌∙◌, ◌+◌, ℕ, suc, List, [], ◌∷◌, sym, ap, refl, subst, inl, inr, arith}
use Rattle.std.specs.Prelude.{Option, Some, None, IfSome, if◌then◌else◌}
use Rattle.node_names.specs.NodeName.{Name}
use Rattle.node_names.specs.Limits.{Limits}
use Rattle.node_names.specs.declared.ids.Incarnation.{Incarnation}
use Rattle.node_names.specs.declared.ids.MsgId.{MsgId}
use Rattle.node_names.specs.declared.ids.Origin.{Origin}
use Rattle.protocol.specs.Content.{Content}
use Rattle.protocol.specs.CoreState.{CoreState}
use Rattle.protocol.specs.Delivery.{Delivery}
use Rattle.protocol.specs.DeliveryLaw.{count_after}
use Rattle.protocol.specs.Laws.{Laws}
use Rattle.protocol.specs.PayloadLaw.{Brings}
use Rattle.protocol.specs.SoundViews.{SoundViews}
use Rattle.protocol.specs.Stimulus.{Stimulus, IsNotFrom}
use Rattle.protocol.specs.declared.stimulus.StimulusOf.TheVariants as stimulus
use Rattle.world.specs.Entry.{Entry}
use Rattle.world.specs.Event.{Event}
use Rattle.world.specs.Group.{Group, node_of, origin_of, put_node}
use Rattle.world.specs.History.{Said, Says, broadcasts_of, counted_by, started_by}
use Rattle.world.specs.Honest.{HasOnePayload, Honest, Once, SaidByThen}
use Rattle.world.specs.Links.{ViewsAreSound}
use Rattle.world.specs.Run.{Acts, Effect, OnlyFlies, Run, Starts, Stops}
use Rattle.world.specs.declared.event.EventOf.TheVariants.{Start, Broadcast, Arrive, Lose, Again, Fire, Flush, Down, Shuffle, Join, Stop}
use Rattle.world.specs.declared.node_state.NodeState.{NodeState}
use Rattle.world.proofs.FindLemmas.{found_name, name_is, tells_apart}
use Rattle.world.proofs.Kept.{Keeps, KeepsCore, KeepsPacket, each-at, each-weaken, greater_than-last, highest_of-found, if_some-weaken}
use Rattle.world.proofs.RestKeeps.{quiet_keeps, stop_keeps}
use Rattle.world.proofs.Sayings.{AreFresh, IsFreshAfter, says_one}
use Rattle.world.proofs.StartKeeps.{start_keeps}
use Rattle.world.proofs.StepKeeps.{IsStepOf, step_keeps}

module _
    {C N : Type 0}
    (state : C → CoreState)
    (content : N → Content)
    (is_sound : Limits → C → Type 0)
    (starts : Origin → Limits → List Name → Option Name → List (Name × N) → C → Type 0)
    (steps : C → Stimulus N → List (Name × N) → List Delivery → C → Type 0)
    (laws : Laws state content is_sound starts steps)
    (limits : Limits)
    (past : List Entry)
    (entry : Entry)
    (before after : Group C N)
    (kept : Keeps state content is_sound limits past before.nodes before.sent)
  where
    -- the step of a running core
    acts_keeps : (staying : List ℕ) (name : Name) (by : Stimulus N) (acts : Acts state steps before staying name by entry after) →
        IsStepOf content (state acts.old) name by entry past →
        Keeps state content is_sound limits (entry ∷ past) after.nodes after.sent
    acts_keeps staying name by acts step =
        let named : name ≡ acts.node.name = found_name name before.nodes acts.node acts.known in
        let core : KeepsCore state is_sound limits past acts.node acts.old = kept.cores name acts.node acts.old acts.known acts.running in
        let mine : name ≡ (state acts.old).me.name = named ∙ ap (λ (o : Origin). o.name) (sym core.is_me) in
        let from_other : IsNotFrom (state acts.old).me.name by = subst (λ n. IsNotFrom n by) mine step.from_other in
        subst (λ ns. Keeps state content is_sound limits (entry ∷ past) ns after.sent) (sym acts.nodes)
        (subst (λ ps. Keeps state content is_sound limits (entry ∷ past) (put_node (record acts.node { core = Some acts.new }) before.nodes) ps)
        (sym acts.sending.sent)
        (step_keeps state content is_sound limits past entry before.nodes before.sent acts.node acts.old acts.new by acts.sends kept
        (subst (λ n. node_of n before.nodes ≡ Some acts.node) named acts.known) core
        (laws.step limits acts.old by acts.sends entry.given acts.new core.sound from_other acts.stepped)
        (subst (λ n. IsStepOf content (state acts.old) n by entry past) named step)
        (laws.step_sound limits acts.old by acts.sends entry.given acts.new core.sound from_other acts.stepped)))

    -- a start
    starts_keeps : (me : Origin) (peers : List Name) (contact : Option Name) →
        Starts starts limits before me peers contact entry after →
        entry.event ≡ Start me.name me.incarnation peers contact →
        Keeps state content is_sound limits (entry ∷ past) after.nodes after.sent
    starts_keeps me peers contact started is =
        subst (λ ns. Keeps state content is_sound limits (entry ∷ past) ns after.sent) (sym started.nodes)
        (subst (λ ps. Keeps state content is_sound limits (entry ∷ past)
        (put_node (record { name = me.name; highest = me.incarnation; core = Some started.core }) before.nodes) ps) (sym started.sending.sent)
        (start_keeps state content is_sound limits past entry before.nodes before.sent me peers started.core started.sends kept started.fresh
        (laws.start me limits peers contact started.sends started.core started.fit started.started)
        (laws.start_sound me limits peers contact started.sends started.core started.fit started.started)
        started.nothing_given
        (λ other last. ap (λ (e : Event). started_by other e last) is)
        (λ other n. ap (λ (e : Event). counted_by other e n) is)))

    -- a broadcast says what it brings
    broadcast_says : (staying : List ℕ) (name : Name) (payload : List ℕ)
        (acts : Acts state steps before staying name (stimulus.Broadcast payload) entry after) →
        entry.event ≡ Broadcast name payload →
        (id : MsgId) (p : List ℕ) →
        Brings content (state acts.old) (stimulus.Broadcast payload) id p →
        Said (entry ∷ past) id p
    broadcast_says staying name payload acts is id p brings =
        let named : name ≡ acts.node.name = found_name name before.nodes acts.node acts.known in
        let core : KeepsCore state is_sound limits past acts.node acts.old = kept.cores name acts.node acts.old acts.known acts.running in
        let from_me : id.origin ≡ origin_of acts.node = ap (λ (i : MsgId). i.origin) brings.0 ∙ core.is_me in
        let count : (state acts.old).count ≡ broadcasts_of name past = core.counts ∙ ap (λ n. broadcasts_of n past) (sym named) in
        let next : id.seq ≡ (state acts.old).count + 1 = ap (λ (i : MsgId). i.seq) brings.0 in
        let seq : id.seq ≡ suc (broadcasts_of name past) = omega arith in
        inl (subst (λ (e : Event). Says e past id p) (sym is) (
          ap (λ (o : Origin). o.name) from_me ∙ sym named,
          sym (kept.highest name) ∙ highest_of-found name before.nodes acts.node acts.known ∙ ap (λ (o : Origin). Some o.incarnation) (sym from_me),
          seq,
          brings.1,
        ))

    -- a broadcast
    broadcast_keeps : (staying : List ℕ) (name : Name) (payload : List ℕ) →
        Acts state steps before staying name (stimulus.Broadcast payload) entry after →
        entry.event ≡ Broadcast name payload →
        Keeps state content is_sound limits (entry ∷ past) after.nodes after.sent
    broadcast_keeps staying name payload acts is =
        acts_keeps staying name (stimulus.Broadcast payload) acts
        (record {
          starts_none = λ other last. ap (λ (e : Event). started_by other e last) is;
          counts =
              λ n. let one : suc n ≡ n + 1 = omega arith in ap (λ (e : Event). counted_by name e n) is ∙ ap (λ b. if b then suc n else n) (name_is name) ∙ one;
          counts_no_other = λ other n differs. ap (λ (e : Event). counted_by other e n) is ∙ ap (λ b. if b then suc n else n) (tells_apart other name differs);
          from_other = tt;
          brings = broadcast_says staying name payload acts is;
        })

    -- any other step, whose event starts and counts nothing
    other_keeps :
        (staying : List ℕ)
        (name : Name)
        (by : Stimulus N) →
        Acts state steps before staying name by entry after →
        ((other : Name) (last : Option Incarnation) → started_by other entry.event last ≡ last) →
        ((other : Name) (n : ℕ) → counted_by other entry.event n ≡ n) →
        ((n : ℕ) → n ≡ count_after n by) →
        IsNotFrom name by →
        ((core : CoreState) (id : MsgId) (p : List ℕ) → Brings content core by id p → Said past id p) →
        Keeps state content is_sound limits (entry ∷ past) after.nodes after.sent
    other_keeps staying name by acts starts_none counts_none same from_other brings =
        acts_keeps staying name by acts
        (record {
          starts_none = starts_none;
          counts = λ n. counts_none name n ∙ same n;
          counts_no_other = λ other n differs. counts_none other n;
          from_other = from_other;
          brings = λ id p b. inr (brings (state acts.old) id p b);
        })

    -- an event in which nothing but the flight changes
    flies_keeps : OnlyFlies before entry after →
        ((other : Name) (last : Option Incarnation) → started_by other entry.event last ≡ last) →
        ((other : Name) (n : ℕ) → counted_by other entry.event n ≡ n) →
        Keeps state content is_sound limits (entry ∷ past) after.nodes after.sent
    flies_keeps flies starts_none counts_none =
        subst (λ ns. Keeps state content is_sound limits (entry ∷ past) ns after.sent) (sym flies.nodes)
        (subst (λ ps. Keeps state content is_sound limits (entry ∷ past) before.nodes ps) (sym flies.sent)
        (quiet_keeps state content is_sound limits before.nodes before.sent past entry kept flies.nothing_given starts_none counts_none))

    -- a stop
    stops_keeps : (name : Name) →
        Stops before name entry after →
        ((other : Name) (last : Option Incarnation) → started_by other entry.event last ≡ last) →
        ((other : Name) (n : ℕ) → counted_by other entry.event n ≡ n) →
        Keeps state content is_sound limits (entry ∷ past) after.nodes after.sent
    stops_keeps name stops starts_none counts_none =
        let named : name ≡ stops.node.name = found_name name before.nodes stops.node stops.known in
        subst (λ ns. Keeps state content is_sound limits (entry ∷ past) ns after.sent) (sym stops.nodes)
        (subst (λ ps. Keeps state content is_sound limits (entry ∷ past) (put_node (record stops.node { core = None }) before.nodes) ps) (sym stops.sent)
        (stop_keeps state content is_sound limits before.nodes before.sent (entry ∷ past) stops.node
        (quiet_keeps state content is_sound limits before.nodes before.sent past entry kept stops.nothing_given starts_none counts_none)
        (subst (λ n. node_of n before.nodes ≡ Some stops.node) named stops.known)))

    -- every event
    pub event_keeps : (event : Event) →
        entry.event ≡ event →
        Effect state starts steps limits before entry after event →
        Keeps state content is_sound limits (entry ∷ past) after.nodes after.sent
    event_keeps (Start name incarnation peers contact) is effect = starts_keeps (record { name = name; incarnation = incarnation }) peers contact effect.1 is
    event_keeps (Broadcast name payload) is effect = broadcast_keeps before.flight name payload effect.1 is
    event_keeps (Arrive place dice) is effect =
        let packet : KeepsPacket content past effect.packet =
        each-at (λ p. KeepsPacket content past p) before.sent effect.number effect.packet kept.packets effect.sent in
        other_keeps _ effect.packet.to
        (stimulus.Arrive effect.packet.sender effect.packet.note dice)
        effect.acts
        (λ other last. ap (λ (e : Event). started_by other e last) is)
        (λ other n. ap (λ (e : Event). counted_by other e n) is)
        (λ n. refl)
        packet.from_other
        (λ core id p brings. packet.carries id p brings)
    event_keeps (Lose place) is effect =
        flies_keeps effect.others (λ other last. ap (λ (e : Event). started_by other e last) is) (λ other n. ap (λ (e : Event). counted_by other e n) is)
    event_keeps (Again number) is effect =
        flies_keeps effect.others (λ other last. ap (λ (e : Event). started_by other e last) is) (λ other n. ap (λ (e : Event). counted_by other e n) is)
    event_keeps (Fire name id) is effect =
        other_keeps before.flight name (stimulus.Fire id) effect.1 (λ other last. ap (λ (e : Event). started_by other e last) is)
        (λ other n. ap (λ (e : Event). counted_by other e n) is) (λ n. refl) tt (λ core id p brings. absurd brings)
    event_keeps (Flush name) is effect =
        other_keeps before.flight name stimulus.Flush effect.1 (λ other last. ap (λ (e : Event). started_by other e last) is)
        (λ other n. ap (λ (e : Event). counted_by other e n) is) (λ n. refl) tt (λ core id p brings. absurd brings)
    event_keeps (Down name peer dice) is effect =
        other_keeps before.flight name (stimulus.Down peer dice) effect.1 (λ other last. ap (λ (e : Event). started_by other e last) is)
        (λ other n. ap (λ (e : Event). counted_by other e n) is) (λ n. refl) tt (λ core id p brings. absurd brings)
    event_keeps (Shuffle name dice) is effect =
        other_keeps before.flight name (stimulus.Shuffle dice) effect.1 (λ other last. ap (λ (e : Event). started_by other e last) is)
        (λ other n. ap (λ (e : Event). counted_by other e n) is) (λ n. refl) tt (λ core id p brings. absurd brings)
    event_keeps (Join name contact) is effect =
        other_keeps before.flight name (stimulus.Join contact) effect.1 (λ other last. ap (λ (e : Event). started_by other e last) is)
        (λ other n. ap (λ (e : Event). counted_by other e n) is) (λ n. refl) tt (λ core id p brings. absurd brings)
    event_keeps (Stop name) is effect =
        stops_keeps name effect.1 (λ other last. ap (λ (e : Event). started_by other e last) is) (λ other n. ap (λ (e : Event). counted_by other e n) is)

-- what was said with its payload was said with some payload
pub said_from_honest : (history : List Entry) → Honest history → SaidByThen history
said_from_honest [] h = tt
said_from_honest (entry ∷ past) h = (
  each-weaken (λ (d : Delivery). Said (entry ∷ past) d.id d.payload)
      (λ (d : Delivery). (p : List ℕ) × Said (entry ∷ past) d.id p) entry.given (λ d said. (d.payload, said)) h.0,
  said_from_honest past h.1,
)

module _
    {C N : Type 0}
    (state : C → CoreState)
    (content : N → Content)
    (is_sound : Limits → C → Type 0)
    (starts : Origin → Limits → List Name → Option Name → List (Name × N) → C → Type 0)
    (steps : C → Stimulus N → List (Name × N) → List Delivery → C → Type 0)
    (laws : Laws state content is_sound starts steps)
    (limits : Limits)
  where
    -- what every run keeps
    pub run_keeps : (history : List Entry) (group : Group C N) →
        Run state starts steps limits history group →
        Keeps state content is_sound limits history group.nodes group.sent
    run_keeps [] group run =
        subst (λ ns. Keeps state content is_sound limits [] ns group.sent) (sym run.no_nodes)
        (subst (λ ps. Keeps state content is_sound limits [] [] ps) (sym run.nothing_sent)
        (record {
          highest = λ name. refl;
          cores = λ name node core at runs. let no : None ≡ Some node = at in cc;
          sound = tt;
          packets = tt;
          below = λ origin id d. absurd d;
          honest = tt;
          once = tt;
        }))
    run_keeps (entry ∷ past) group run =
        event_keeps state content is_sound starts steps laws limits past entry run.0 group (run_keeps past run.0 run.1) entry.event refl run.2.1

    -- a start is fresh
    fresh_after : (event : Event) (past : List Entry) (entry : Entry) (before after : Group C N) →
        Effect state starts steps limits before entry after event →
        Keeps state content is_sound limits past before.nodes before.sent →
        IsFreshAfter past event
    fresh_after (Start name incarnation peers contact) past entry before after effect kept =
        greater_than-last name incarnation before.nodes past (kept.highest name) effect.1.fresh
    fresh_after (Broadcast name payload) past entry before after effect kept = tt
    fresh_after (Arrive place dice) past entry before after effect kept = tt
    fresh_after (Lose place) past entry before after effect kept = tt
    fresh_after (Again number) past entry before after effect kept = tt
    fresh_after (Fire name id) past entry before after effect kept = tt
    fresh_after (Flush name) past entry before after effect kept = tt
    fresh_after (Down name peer dice) past entry before after effect kept = tt
    fresh_after (Shuffle name dice) past entry before after effect kept = tt
    fresh_after (Join name contact) past entry before after effect kept = tt
    fresh_after (Stop name) past entry before after effect kept = tt

    -- every start is
    pub are_fresh : (history : List Entry) (group : Group C N) → Run state starts steps limits history group → AreFresh history
    are_fresh [] group run = tt
    are_fresh (entry ∷ past) group run = (fresh_after entry.event past entry run.0 group run.2.1 (run_keeps past run.0 run.1), are_fresh past run.0 run.1)

    module _ (history : List Entry) (group : Group C N) (run : Run state starts steps limits history group) where
      -- every delivery was said by then, with its payload
      pub honest : Honest history
      honest = (run_keeps history group run).honest

      -- so its id was said
      pub said_by_then : SaidByThen history
      said_by_then = said_from_honest history honest

      -- a message has one payload
      pub one_payload : HasOnePayload history
      one_payload = says_one history (are_fresh history group run)

      -- no run of a node delivers a message twice
      pub once : Once history
      once = (run_keeps history group run).once

      -- the views of every running node are sound
      pub views_sound : ViewsAreSound state limits group
      views_sound =
          each-weaken (λ (node : NodeState C). IfSome node.core (λ core. is_sound limits core))
          (λ (node : NodeState C). IfSome node.core (λ core. SoundViews limits (state core)))
          group.nodes
          (λ node h. if_some-weaken (λ core. is_sound limits core)
          (λ core. SoundViews limits (state core)) node.core (λ core sound. (laws.always limits core sound).views) h)
          (run_keeps history group run).sound
