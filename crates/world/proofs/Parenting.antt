-- Every delivery is its origin's own, or came from one who had delivered the message.
use Rattle.std.proofs.Common.{◌≡◌, ◌∙◌, ◌+◌, ℕ, List, [], ◌∷◌, ◌++◌, true, sym, ap, refl, subst, inl, inr}
use Rattle.std.specs.List.{AllByRecursion as Each}
use Rattle.std.specs.Prelude.{Option, Some, None, slice_get}
use Rattle.node_names.specs.NodeName.{Name}
use Rattle.node_names.specs.Limits.{Limits}
use Rattle.node_names.specs.declared.dice.Dice.{Dice}
use Rattle.node_names.specs.declared.ids.MsgId.{MsgId}
use Rattle.node_names.specs.declared.ids.Origin.{Origin}
use Rattle.protocol.specs.Content.{Content}
use Rattle.protocol.specs.CoreState.{CoreState}
use Rattle.protocol.specs.Delivery.{Delivery}
use Rattle.protocol.specs.DeliveryLaw.{DeliversNews, ids}
use Rattle.protocol.specs.Laws.{Laws, IsSilent}
use Rattle.protocol.specs.Lists.{IsOneOf}
use Rattle.protocol.specs.Stimulus.{Stimulus}
use Rattle.protocol.specs.declared.stimulus.StimulusOf.TheVariants as stimulus
use Rattle.world.specs.Entry.{Entry}
use Rattle.world.specs.Event.{Event}
use Rattle.world.specs.Group.{Group, origin_of, packets}
use Rattle.world.specs.History.{Delivered}
use Rattle.world.specs.Parents.{HasParent, HaveParents}
use Rattle.world.specs.Rest.{GaveFrom}
use Rattle.world.specs.Run.{Effect, Run}
use Rattle.world.specs.UnderWay.{CarriesIt}
use Rattle.world.specs.declared.event.EventOf.TheVariants.{Start, Broadcast, Arrive, Lose, Again, Fire, Flush, Down, Shuffle, Join, Stop}
use Rattle.world.specs.declared.packet.Packet.{Packet}
use Rattle.world.proofs.Carrying.{found_new}
use Rattle.world.proofs.Delivering.{HasDelivered, run_has, stays_delivered}
use Rattle.world.proofs.Flying.{each_one, get-append, sent_or_new}
use Rattle.world.proofs.Kept.{Keeps, each-weaken}
use Rattle.world.proofs.Runs.{run_keeps}
use Rattle.world.proofs.Steps.{IsStep, arrive_step, broadcast_step, down_step, fire_step, flush_step, shuffle_step, join_step}

-- Whoever sent a message has delivered it.
abbrev pub SentByDeliverers : {N : Type 0} → (N → Content) → List Entry → List (Packet N) → Type 0
SentByDeliverers {N} content history sent =
    (number : ℕ) (packet : Packet N) →
    slice_get sent number ≡ Some packet →
    (id : MsgId) →
    CarriesIt id (content packet.note) →
    Delivered history packet.sender id

-- what an event gave from stays so where more is sent
gave_longer : {N : Type 0} (sent more : List (Packet N)) (event : Event) (entry : Entry) (parent : Option Origin) →
    GaveFrom sent event entry parent →
    GaveFrom (sent ++ more) event entry parent
gave_longer sent more (Arrive place dice) entry (Some sender) gave = (gave.0, gave.1, gave.2, get-append sent more gave.0 gave.1 gave.3, gave.4)
gave_longer sent more (Arrive place dice) entry None gave = absurd gave
gave_longer sent more (Broadcast name payload) entry (Some sender) gave = absurd gave
gave_longer sent more (Broadcast name payload) entry None gave = tt
gave_longer sent more (Start name incarnation peers contact) entry parent gave = absurd gave
gave_longer sent more (Lose place) entry parent gave = absurd gave
gave_longer sent more (Again number) entry parent gave = absurd gave
gave_longer sent more (Fire name id) entry parent gave = absurd gave
gave_longer sent more (Flush name) entry parent gave = absurd gave
gave_longer sent more (Down name peer dice) entry parent gave = absurd gave
gave_longer sent more (Shuffle name dice) entry parent gave = absurd gave
gave_longer sent more (Join name contact) entry parent gave = absurd gave
gave_longer sent more (Stop name) entry parent gave = absurd gave

parents_longer : {N : Type 0} (sent more : List (Packet N)) (history : List Entry) → HaveParents sent history → HaveParents (sent ++ more) history
parents_longer sent more [] h = tt
parents_longer sent more (entry ∷ past) h = (
  each-weaken (λ (d : Delivery). HasParent sent past entry d) (λ (d : Delivery). HasParent (sent ++ more) past entry d) entry.given
      (λ d parent. elim parent [
        | inl own ↦ inl (gave_longer sent more entry.event entry None own.0, own.1)
        | inr from ↦ inr (from.0, gave_longer sent more entry.event entry (Some from.0) from.1, from.2)
      ]) h.0,
  parents_longer sent more past h.1,
)

-- where nothing is given, every delivery has a parent
none_given : {N : Type 0} (sent : List (Packet N)) (past : List Entry) (entry : Entry) → entry.given ≡ [] → Each (λ d. HasParent sent past entry d) entry.given
none_given sent past entry none = subst (λ ds. Each (λ (d : Delivery). HasParent sent past entry d) ds) (sym none) tt

-- what holds of each id of deliveries holds of each delivery
each_by_id : (P : Delivery → Type 0) (given : List Delivery) → ((d : Delivery) → IsOneOf d given → P d) → Each P given
each_by_id P [] h = tt
each_by_id P (d ∷ given) h = (h d (inl refl), each_by_id P given (λ other one. h other (inr one)))

-- a delivery's id is among the ids
id_among : (given : List Delivery) (d : Delivery) → IsOneOf d given → IsOneOf d.id (ids given)
id_among [] d one = absurd one
id_among (first ∷ given) d one = elim one [ inl here ↦ inl (ap (λ (x : Delivery). x.id) here) | inr later ↦ inr (id_among given d later) ]

module _
    {C N : Type 0}
    (state : C → CoreState)
    (content : N → Content)
    (is_sound : Limits → C → Type 0)
    (starts : Origin → Limits → List Name → Option Name → List (Name × N) → C → Type 0)
    (steps : C → Stimulus N → List (Name × N) → List Delivery → C → Type 0)
    (laws : Laws state content is_sound starts steps)
    (limits : Limits)
  where
    module _ (past : List Entry) (entry : Entry) (before after : Group C N) (kept : Keeps state content is_sound limits past before.nodes before.sent)
        (has : HasDelivered state (entry ∷ past) after.nodes) (senders : SentByDeliverers content past before.sent) where
      -- old packets stay sent by those who delivered
      old_senders : (number : ℕ) (packet : Packet N) →
          slice_get before.sent number ≡ Some packet →
          (id : MsgId) →
          CarriesIt id (content packet.note) →
          Delivered (entry ∷ past) packet.sender id
      old_senders number packet at id carries = stays_delivered past entry packet.sender id (senders number packet at id carries)

      -- where nothing is sent
      same_senders : after.sent ≡ before.sent → SentByDeliverers content (entry ∷ past) after.sent
      same_senders same number packet at = old_senders number packet (subst (λ ps. slice_get ps number ≡ Some packet) same at)

      -- where a core steps
      step_senders : (name : Name) (by : Stimulus N) →
          IsStep state content is_sound starts steps laws limits past entry before after name by →
          SentByDeliverers content (entry ∷ past) after.sent
      step_senders name by step number packet at id carries =
          elim (sent_or_new before.sent (origin_of step.acts.node) step.acts.sends number packet
          (subst (λ ps. slice_get ps number ≡ Some packet) step.acts.sending.sent at)) [
            | inl then ↦ old_senders number packet then id carries
            | inr now ↦ (
                let had : (state step.acts.new).has id ≡ true =
                each_one (λ (send : Name × N). (i : MsgId) (p : List ℕ) → (content send.1).carried ≡ Some (i, p) → (state step.acts.new).has i ≡ true)
                step.acts.sends (packet.to, packet.note) step.lawful.payloads.sender_has now.0 id carries.0 carries.1 in
                let found = found_new state content is_sound starts steps laws limits past entry before after name by step id in
                subst (λ o. Delivered (entry ∷ past) o id) (sym now.1)
                (has name (record step.acts.node { core = Some step.acts.new }) step.acts.new found refl id had))
          ]

      -- where a core starts
      start_senders : (me : Origin) (sends : List (Name × N)) →
          after.sent ≡ before.sent ++ packets me sends →
          Each (λ (send : Name × N). IsSilent (content send.1)) sends →
          SentByDeliverers content (entry ∷ past) after.sent
      start_senders me sends grows silent number packet at id carries =
          elim (sent_or_new before.sent me sends number packet (subst (λ ps. slice_get ps number ≡ Some packet) grows at)) [
            | inl then ↦ old_senders number packet then id carries
            | inr now ↦ (
                let nothing : IsSilent (content packet.note) =
                each_one (λ (send : Name × N). IsSilent (content send.1)) sends (packet.to, packet.note) silent now.0 in
                let none : None ≡ Some (id, carries.0) = sym nothing.carries_nothing ∙ carries.1 in
                cc)
          ]

      -- every event
      event_senders : (event : Event) → Effect state starts steps limits before entry after event → SentByDeliverers content (entry ∷ past) after.sent
      event_senders (Start name incarnation peers contact) effect =
          start_senders (record { name = name; incarnation = incarnation }) effect.1.sends effect.1.sending.sent (laws.start
          (record { name = name; incarnation = incarnation }) limits peers contact effect.1.sends effect.1.core effect.1.fit effect.1.started).sends_silent
      event_senders (Broadcast name payload) effect =
          step_senders _ _ (broadcast_step state content is_sound starts steps laws limits past entry before after kept name payload effect.1)
      event_senders (Arrive place dice) effect =
          step_senders _ _ (arrive_step state content is_sound starts steps laws limits past entry before after kept place dice effect)
      event_senders (Lose place) effect = same_senders effect.others.sent
      event_senders (Again number) effect = same_senders effect.others.sent
      event_senders (Fire name id) effect =
          step_senders _ _ (fire_step state content is_sound starts steps laws limits past entry before after kept name id effect.1)
      event_senders (Flush name) effect =
          step_senders _ _ (flush_step state content is_sound starts steps laws limits past entry before after kept name effect.1)
      event_senders (Down name peer dice) effect =
          step_senders _ _ (down_step state content is_sound starts steps laws limits past entry before after kept name peer dice effect.1)
      event_senders (Shuffle name dice) effect =
          step_senders _ _ (shuffle_step state content is_sound starts steps laws limits past entry before after kept name dice effect.1)
      event_senders (Join name contact) effect =
          step_senders _ _ (join_step state content is_sound starts steps laws limits past entry before after kept name contact effect.1)
      event_senders (Stop name) effect = same_senders effect.1.sent

      -- a step that delivers nothing
      nothing_parents : (sent : List (Packet N)) (name : Name) (by : Stimulus N)
          (step : IsStep state content is_sound starts steps laws limits past entry before after name by) →
          ids entry.given ≡ [] →
          Each (λ d. HasParent sent past entry d) entry.given
      nothing_parents sent name by step none =
          each_by_id (λ d. HasParent sent past entry d) entry.given
          (λ d one. let no_such : IsOneOf d.id [] = subst (λ is. IsOneOf d.id is) none (id_among entry.given d one) in absurd no_such)

      -- a broadcast
      broadcast_parents : (sent : List (Packet N)) (name : Name) (payload : List ℕ) →
          entry.event ≡ Broadcast name payload →
          IsStep state content is_sound starts steps laws limits past entry before after name (stimulus.Broadcast payload) →
          Each (λ d. HasParent sent past entry d) entry.given
      broadcast_parents sent name payload is step =
          each_by_id (λ d. HasParent sent past entry d) entry.given
          (λ d one.
          let next : IsOneOf d.id (record { origin = (state step.acts.old).me; seq = (state step.acts.old).count + 1 } ∷ []) =
          subst (λ ks. IsOneOf d.id ks) step.lawful.deliveries.exact (id_among entry.given d one) in
          let here : d.node ≡ (state step.acts.old).me =
          each_one (λ (x : Delivery). x.node ≡ (state step.acts.old).me) entry.given d step.lawful.deliveries.here one in
          elim next [
            | inl this ↦ inl (subst (λ e. GaveFrom sent e entry None) (sym is) tt, here ∙ sym (ap (λ (i : MsgId). i.origin) this))
            | inr none ↦ absurd none
          ])

      -- an arrival
      arrive_parents : (sent : List (Packet N)) (place : ℕ) (dice : Dice) →
          entry.event ≡ Arrive place dice →
          (effect : Effect state starts steps limits before entry after (Arrive place dice)) →
          slice_get sent effect.number ≡ Some effect.packet →
          Each (λ d. HasParent sent past entry d) entry.given
      arrive_parents sent place dice is effect stands =
          each_by_id (λ d. HasParent sent past entry d) entry.given
          (λ d one. inr (
            effect.packet.sender,
            subst (λ e. GaveFrom sent e entry (Some effect.packet.sender)) (sym is) (effect.number, effect.packet, effect.named, stands, refl),
            senders effect.number effect.packet effect.sent d.id
                (carried d.id (content effect.packet.note).carried refl step.lawful.deliveries.exact (id_among entry.given d one)),
          ))
        where
          step : IsStep state content is_sound starts steps laws limits past entry before after effect.packet.to
              (stimulus.Arrive effect.packet.sender effect.packet.note dice)
          step = arrive_step state content is_sound starts steps laws limits past entry before after kept place dice effect

          carried : (id : MsgId) (o : Option (MsgId × List ℕ)) →
              (content effect.packet.note).carried ≡ o →
              DeliversNews (state step.acts.old) o (ids entry.given) →
              IsOneOf id (ids entry.given) →
              CarriesIt id (content effect.packet.note)
          carried id None at none one = let no_such : IsOneOf id [] = subst (λ is. IsOneOf id is) none one in absurd no_such
          carried id (Some message) at news one =
              elim news [
                | inl new_one ↦ (
                    let first : IsOneOf id (message.0 ∷ []) = subst (λ is. IsOneOf id is) new_one.1 one in
                    elim first [ inl here ↦ (message.1, at ∙ ap (λ i. Some (i, message.1)) (sym here)) | inr none ↦ absurd none ])
                | inr old_one ↦ (let no_such : IsOneOf id [] = subst (λ is. IsOneOf id is) old_one.1 one in absurd no_such)
              ]

      -- every event
      event_parents : (event : Event) →
          entry.event ≡ event →
          Effect state starts steps limits before entry after event →
          HaveParents before.sent past →
          HaveParents after.sent (entry ∷ past)
      event_parents (Start name incarnation peers contact) is effect parents = (
        none_given after.sent past entry effect.1.nothing_given,
        subst (λ ps. HaveParents ps past) (sym effect.1.sending.sent) (parents_longer before.sent _ past parents),
      )
      event_parents (Broadcast name payload) is effect parents = (
        broadcast_parents after.sent name payload is
            (broadcast_step state content is_sound starts steps laws limits past entry before after kept name payload effect.1),
        subst (λ ps. HaveParents ps past) (sym effect.1.sending.sent) (parents_longer before.sent _ past parents),
      )
      event_parents (Arrive place dice) is effect parents = (
        arrive_parents after.sent place dice is effect (subst (λ ps. slice_get ps effect.number ≡ Some effect.packet)
            (sym effect.acts.sending.sent) (get-append before.sent _ effect.number effect.packet effect.sent)),
        subst (λ ps. HaveParents ps past) (sym effect.acts.sending.sent) (parents_longer before.sent _ past parents),
      )
      event_parents (Lose place) is effect parents =
          (none_given after.sent past entry effect.others.nothing_given, subst (λ ps. HaveParents ps past) (sym effect.others.sent) parents)
      event_parents (Again number) is effect parents =
          (none_given after.sent past entry effect.others.nothing_given, subst (λ ps. HaveParents ps past) (sym effect.others.sent) parents)
      event_parents (Fire name id) is effect parents =
          (let step = fire_step state content is_sound starts steps laws limits past entry before after kept name id effect.1 in (
            nothing_parents after.sent _ _ step step.lawful.deliveries.exact,
            subst (λ ps. HaveParents ps past) (sym effect.1.sending.sent) (parents_longer before.sent _ past parents),
          ))
      event_parents (Flush name) is effect parents =
          (let step = flush_step state content is_sound starts steps laws limits past entry before after kept name effect.1 in (
            nothing_parents after.sent _ _ step step.lawful.deliveries.exact,
            subst (λ ps. HaveParents ps past) (sym effect.1.sending.sent) (parents_longer before.sent _ past parents),
          ))
      event_parents (Down name peer dice) is effect parents =
          (let step = down_step state content is_sound starts steps laws limits past entry before after kept name peer dice effect.1 in (
            nothing_parents after.sent _ _ step step.lawful.deliveries.exact,
            subst (λ ps. HaveParents ps past) (sym effect.1.sending.sent) (parents_longer before.sent _ past parents),
          ))
      event_parents (Shuffle name dice) is effect parents =
          (let step = shuffle_step state content is_sound starts steps laws limits past entry before after kept name dice effect.1 in (
            nothing_parents after.sent _ _ step step.lawful.deliveries.exact,
            subst (λ ps. HaveParents ps past) (sym effect.1.sending.sent) (parents_longer before.sent _ past parents),
          ))
      event_parents (Join name contact) is effect parents =
          (let step = join_step state content is_sound starts steps laws limits past entry before after kept name contact effect.1 in (
            nothing_parents after.sent _ _ step step.lawful.deliveries.exact,
            subst (λ ps. HaveParents ps past) (sym effect.1.sending.sent) (parents_longer before.sent _ past parents),
          ))
      event_parents (Stop name) is effect parents =
          (none_given after.sent past entry effect.1.nothing_given, subst (λ ps. HaveParents ps past) (sym effect.1.sent) parents)

    -- in every run whoever sent a message has delivered it
    run_senders : (history : List Entry) (group : Group C N) → Run state starts steps limits history group → SentByDeliverers content history group.sent
    run_senders [] group run = λ number packet at id carries.
        let none : None ≡ Some packet = subst (λ ps. slice_get ps number ≡ Some packet) run.nothing_sent at in
        cc
    run_senders (entry ∷ past) group run =
        event_senders past entry run.0 group (run_keeps state content is_sound starts steps laws limits past run.0 run.1)
        (run_has state content is_sound starts steps laws limits (entry ∷ past) group run) (run_senders past run.0 run.1) entry.event run.2.1

    -- so every delivery has its parent
    pub run_parents : (history : List Entry) (group : Group C N) → Run state starts steps limits history group → HaveParents group.sent history
    run_parents [] group run = tt
    run_parents (entry ∷ past) group run =
        event_parents past entry run.0 group
        (run_keeps state content is_sound starts steps laws limits past run.0 run.1)
        (run_has state content is_sound starts steps laws limits (entry ∷ past) group run)
        (run_senders past run.0 run.1)
        entry.event refl run.2.1
        (run_parents past run.0 run.1)
