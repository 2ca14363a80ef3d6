-- An undisturbed run carries a message on, and where the group is at rest for it all in reach have delivered it.
use Rattle.std.proofs.Common.{◌≡◌, ◌∙◌, ◌+◌, ◌<◌, ℕ, zero, suc, List, [], ◌∷◌, true, false, sym, ap, refl, subst, inl, inr, arith}
use Rattle.std.specs.Option.{IfSome}
use Rattle.std.specs.Prelude.{◌≢◌, Bool, IsSome, Option, Some, slice_get}
use Rattle.node_names.specs.NodeName.{Name}
use Rattle.node_names.specs.Limits.{Limits}
use Rattle.node_names.specs.Same.{has_name}
use Rattle.node_names.specs.declared.ids.MsgId.{MsgId}
use Rattle.node_names.specs.declared.ids.Origin.{Origin}
use Rattle.protocol.specs.Content.{Content}
use Rattle.protocol.specs.CoreState.{CoreState}
use Rattle.protocol.specs.Delivery.{Delivery}
use Rattle.protocol.specs.HoldLaw.{AreLast}
use Rattle.protocol.specs.Laws.{Laws}
use Rattle.protocol.specs.Lists.{IsOneOf}
use Rattle.protocol.specs.Stimulus.{Stimulus}
use Rattle.protocol.specs.declared.stimulus.StimulusOf.TheVariants as stimulus
use Rattle.world.specs.Entry.{Entry}
use Rattle.world.specs.Event.{Event}
use Rattle.world.specs.Group.{Group, origin_of}
use Rattle.world.specs.History.{Said, Says, broadcasts_of, deliveries, delivered_by}
use Rattle.world.specs.Links.{IsRunning, Linked, Path, Runs}
use Rattle.world.specs.Rest.{AreFewSince, IsAtRest, IsCalm, IsDeliveredInReach, IsSilentOn, IsUndisturbed, SaidAndCalm}
use Rattle.world.specs.Run.{Effect, Run}
use Rattle.world.specs.UnderWay.{IsCarriedOn, IsUnderWay, Carried, Queued, Announced, Wanted, Asked}
use Rattle.world.specs.declared.event.EventOf.TheVariants.{Start, Broadcast, Arrive, Lose, Again, Fire, Flush, Down, Shuffle, Join, Stop}
use Rattle.world.specs.declared.node_state.NodeState.{NodeState}
use Rattle.world.specs.declared.packet.Packet.{Packet}
use Rattle.world.proofs.Carrying.{Carries, flies_carries, says_carries, step_carries}
use Rattle.world.proofs.Delivering.{delivered_said, run_has}
use Rattle.world.proofs.Flying.{each_one}
use Rattle.world.proofs.Holding.{few_then, held_last, is_by, run_lists}
use Rattle.world.proofs.Kept.{Keeps, KeepsPacket, each-at, highest_of-found}
use Rattle.world.proofs.Runs.{are_fresh, run_keeps}
use Rattle.world.proofs.Sayings.{not_again, said_counted}
use Rattle.world.proofs.Steps.{IsStep, arrive_step, broadcast_step, fire_step, flush_step, shuffle_step, join_step}

-- one core runs under a name
runs_same : {C N : Type 0} (group : Group C N) (name : Name) (one other : C) → Runs group name one → Runs group name other → one ≡ other
runs_same {C} group name one other first second =
    let nodes : Some first.0 ≡ Some second.0 = sym first.1 ∙ second.1 in
    let node : first.0 ≡ second.0 = cc in
    let cores : Some one ≡ Some other = sym first.2 ∙ ap (λ (n : NodeState C). n.core) node ∙ second.2 in
    cc

module _
    {C N : Type 0}
    (state : C → CoreState)
    (content : N → Content)
    (is_sound : Limits → C → Type 0)
    (starts : Origin → Limits → List Name → Option Name → List (Name × N) → C → Type 0)
    (steps : C → Stimulus N → List (Name × N) → List Delivery → C → Type 0)
    (laws : Laws state content is_sound starts steps)
    (limits : Limits)
  where
    module _ (id : MsgId) (past : List Entry) (entry : Entry) (before after : Group C N)
        (kept : Keeps state content is_sound limits past before.nodes before.sent) where
      -- all who have the message hold it
      abbrev AllHoldIt : Type 0
      AllHoldIt = (name : Name) (core : C) → Runs before name core → (state core).has id ≡ true → IsSome ((state core).payload id)

      -- then a step that moves no active view carries it on
      step_goes_on : (name : Name) (by : Stimulus N) →
          IsStep state content is_sound starts steps laws limits past entry before after name by →
          AllHoldIt →
          entry.moved ≡ false →
          Carries state content before id →
          Carries state content after id
      step_goes_on name by step held still =
          step_carries state content is_sound starts steps laws limits past entry before after name by step id
          (held name step.acts.old (step.acts.node, step.acts.known, step.acts.running)) still

      -- and so does each event that is calm
      event_carries : AllHoldIt →
          (event : Event) →
          IsCalm event →
          entry.moved ≡ false →
          Effect state starts steps limits before entry after event →
          Carries state content before id →
          Carries state content after id
      event_carries held (Broadcast name payload) calm still effect =
          step_goes_on _ _ (broadcast_step state content is_sound starts steps laws limits past entry before after kept name payload effect.1) held still
      event_carries held (Arrive place dice) calm still effect =
          step_goes_on _ _ (arrive_step state content is_sound starts steps laws limits past entry before after kept place dice effect) held still
      event_carries held (Again number) calm still effect = flies_carries state content entry before after id (number ∷ []) effect.others effect.flight
      event_carries held (Fire name fired) calm still effect =
          step_goes_on _ _ (fire_step state content is_sound starts steps laws limits past entry before after kept name fired effect.1) held still
      event_carries held (Flush name) calm still effect =
          step_goes_on _ _ (flush_step state content is_sound starts steps laws limits past entry before after kept name effect.1) held still
      event_carries held (Shuffle name dice) calm still effect =
          step_goes_on _ _ (shuffle_step state content is_sound starts steps laws limits past entry before after kept name dice effect.1) held still
      event_carries held (Join name contact) calm still effect =
          step_goes_on _ _ (join_step state content is_sound starts steps laws limits past entry before after kept name contact effect.1) held still
      event_carries held (Start name incarnation peers contact) calm still effect = absurd calm
      event_carries held (Lose place) calm still effect = absurd calm
      event_carries held (Down name peer dice) calm still effect = absurd calm
      event_carries held (Stop name) calm still effect = absurd calm

      -- the message that a broadcast says is its core's next one
      broadcast_says : (name : Name) (payload p : List ℕ)
          (step : IsStep state content is_sound starts steps laws limits past entry before after name (stimulus.Broadcast payload)) →
          Says (Broadcast name payload) past id p →
          id ≡ record { origin = (state step.acts.old).me; seq = (state step.acts.old).count + 1 }
      broadcast_says name payload p step says =
          let named : name ≡ (state step.acts.old).me.name = step.mine in
          let highest : Some step.acts.node.highest ≡ Some id.origin.incarnation =
          sym (highest_of-found name before.nodes step.acts.node step.acts.known) ∙ kept.highest name ∙ says.1 in
          let this : step.acts.node.highest ≡ id.origin.incarnation = cc in
          let incarnation : id.origin.incarnation ≡ (state step.acts.old).me.incarnation =
          sym this ∙ sym (ap (λ (o : Origin). o.incarnation) step.core.is_me) in
          let node_named : (state step.acts.old).me.name ≡ step.acts.node.name = ap (λ (o : Origin). o.name) step.core.is_me in
          let count : (state step.acts.old).count ≡ broadcasts_of name past = step.core.counts ∙ ap (λ n. broadcasts_of n past) (sym (named ∙ node_named)) in
          let said : id.seq ≡ suc (broadcasts_of name past) = says.2 in
          let seq : id.seq ≡ (state step.acts.old).count + 1 = omega arith in
          let whole : id.origin.name ≡ (state step.acts.old).me.name = says.0 ∙ named in
          λ i. record { origin = record { name = whole i; incarnation = incarnation i }; seq = seq i }

      -- the event that says the message begins to carry it
      saying_carries : (event : Event) →
          ((q : List ℕ) → Said past id q → ⊥) →
          ((other : Name) (core : C) → Runs before other core → (state core).has id ≡ false) →
          (p : List ℕ) →
          Says event past id p →
          Effect state starts steps limits before entry after event →
          Carries state content after id
      saying_carries (Broadcast name payload) unsaid none_has p says effect =
          let step : IsStep state content is_sound starts steps laws limits past entry before after name (stimulus.Broadcast payload) =
          broadcast_step state content is_sound starts steps laws limits past entry before after kept name payload effect.1 in
          let next : id ≡ record { origin = (state step.acts.old).me; seq = (state step.acts.old).count + 1 } = broadcast_says name payload p step says in
          says_carries state content is_sound starts steps laws limits past entry before after name (stimulus.Broadcast payload) step id none_has
          (λ number packet at carries.
          unsaid carries.0 ((each-at (λ k. KeepsPacket content past k) before.sent number packet kept.packets at).carries id carries.0 carries.1))
          says.0
          ((step.lawful.deliveries.grows id).1 (inr (subst (λ is. IsOneOf id is) (sym step.lawful.deliveries.exact) (inl next))))
      saying_carries (Start name incarnation peers contact) unsaid none_has p says effect = absurd says
      saying_carries (Arrive place dice) unsaid none_has p says effect = absurd says
      saying_carries (Lose place) unsaid none_has p says effect = absurd says
      saying_carries (Again number) unsaid none_has p says effect = absurd says
      saying_carries (Fire name fired) unsaid none_has p says effect = absurd says
      saying_carries (Flush name) unsaid none_has p says effect = absurd says
      saying_carries (Down name peer dice) unsaid none_has p says effect = absurd says
      saying_carries (Shuffle name dice) unsaid none_has p says effect = absurd says
      saying_carries (Join name contact) unsaid none_has p says effect = absurd says
      saying_carries (Stop name) unsaid none_has p says effect = absurd says

    -- before a message is said nobody has it
    pub none_has : (id : MsgId) (history : List Entry) (group : Group C N) →
        Run state starts steps limits history group →
        ((q : List ℕ) → Said history id q → ⊥) →
        (other : Name) (core : C) →
        Runs group other core →
        (state core).has id ≡ false
    none_has id history group run unsaid other core runs = go ((state core).has id) refl
      where
        go : (b : Bool) → (state core).has id ≡ b → b ≡ false
        go false is = refl
        go true is =
            let said =
            delivered_said history (origin_of runs.0) id (run_keeps state content is_sound starts steps laws limits history group run).honest
            (run_has state content is_sound starts steps laws limits history group run other runs.0 core runs.1 runs.2 id is) in
            absurd (unsaid said.0 said.1)

    -- where few messages were delivered since, all who have one hold it
    run_holds : (id : MsgId) (history : List Entry) (group : Group C N) →
        Run state starts steps limits history group →
        (0 < limits.keep → AreFewSince limits.keep (deliveries history) id) →
        (name : Name) (core : C) →
        Runs group name core →
        (state core).has id ≡ true →
        IsSome ((state core).payload id)
    run_holds id history group run few name core runs had =
        let sound : is_sound limits core =
        ((run_keeps state content is_sound starts steps laws limits history group run).cores name runs.0 core runs.1 runs.2).sound in
        let last : AreLast limits.keep (delivered_by (origin_of runs.0) (deliveries history)) (state core).held =
        run_lists state content is_sound starts steps laws limits history group run name runs.0 core runs.1 runs.2 in
        let delivered : IsOneOf id (delivered_by (origin_of runs.0) (deliveries history)) =
        is_by (origin_of runs.0) (deliveries history) id
        (run_has state content is_sound starts steps laws limits history group run name runs.0 core runs.1 runs.2 id had) in
        ((laws.always limits core sound).lists id).1 (held_last limits.keep (delivered_by (origin_of runs.0) (deliveries history))
        (state core).held id last (λ some earlier later is. few some (origin_of runs.0) earlier later is) delivered)

    -- so an undisturbed run carries its message on
    run_carries : (id : MsgId) (history : List Entry) (group : Group C N) →
        Run state starts steps limits history group →
        SaidAndCalm history id →
        (0 < limits.keep → AreFewSince limits.keep (deliveries history) id) →
        Carries state content group id
    run_carries id [] group run calm few = absurd calm
    run_carries id (entry ∷ past) group run calm few =
        elim calm [
          | inl saying ↦ (
              let unsaid : (q : List ℕ) → Said past id q → ⊥ =
              λ q said. not_again id saying.0 past entry.event saying.1
              (said_counted id q past (are_fresh state content is_sound starts steps laws limits past run.0 run.1) said) in
              saying_carries id past entry run.0 group (run_keeps state content is_sound starts steps laws limits past run.0 run.1) entry.event unsaid
              (none_has id past run.0 run.1 unsaid) saying.0 saying.1 run.2.1)
          | inr on ↦ (
              let few_before : 0 < limits.keep → AreFewSince limits.keep (deliveries past) id =
              λ some. few_then limits.keep id (deliveries past) entry.given (few some) in
              event_carries id past entry run.0 group (run_keeps state content is_sound starts steps laws limits past run.0 run.1)
              (run_holds id past run.0 run.1 few_before) entry.event on.0 on.1 run.2.1 (run_carries id past run.0 run.1 on.2 few_before))
        ]

    module _ (history : List Entry) (group : Group C N) (run : Run state starts steps limits history group) where
      -- in an undisturbed run the message is carried on
      pub carried_on : (id : MsgId) → IsUndisturbed state limits.keep history group id → IsCarriedOn state content group id
      carried_on id undisturbed = (run_carries id history group run undisturbed.calm undisturbed.few).carried_on

      -- at rest every packet in flight is silent on the message
      flies_silent : (id : MsgId) →
          IsAtRest state content group id →
          (number : ℕ) (packet : Packet N) →
          IsOneOf number group.flight →
          slice_get group.sent number ≡ Some packet →
          IsSilentOn (content packet.note) id
      flies_silent id rest number packet flies at =
          subst (λ o. IfSome o (λ (k : Packet N). IsSilentOn (content k.note) id)) at
          (each_one (λ k. IfSome (slice_get group.sent k) (λ (p : Packet N). IsSilentOn (content p.note) id)) group.flight number rest.nothing_flies flies)

      -- so nothing is under way
      nothing_under_way : (id : MsgId) →
          IsAtRest state content group id →
          (name peer : Name) (one other : C) →
          Runs group name one →
          Runs group peer other →
          IsUnderWay content group.sent group.flight id name peer (state one) (state other) →
          ⊥
      nothing_under_way id rest name peer one other runs_one runs_other (Carried flight) =
          (flies_silent id rest flight.number flight.packet flight.flies flight.was_sent).carries_not flight.is_such.0 flight.is_such.1
      nothing_under_way id rest name peer one other runs_one runs_other (Queued queued) =
          each_one (λ (e : Name × MsgId × ℕ). e.1 ≢ id) (state one).queued (peer, id, queued.0)
          (rest.nodes_are_quiet name one runs_one).queues_not queued.1 refl
      nothing_under_way id rest name peer one other runs_one runs_other (Announced flight) =
          (flies_silent id rest flight.number flight.packet flight.flies flight.was_sent).announces_not flight.is_such.0 flight.is_such.1
      nothing_under_way id rest name peer one other runs_one runs_other (Wanted wanted) =
          let sound : is_sound limits other =
          ((run_keeps state content is_sound starts steps laws limits history group run).cores peer runs_other.0 other runs_other.1 runs_other.2).sound in
          let armed : IsOneOf id (state other).timers =
          each_one (λ (e : MsgId × Name × ℕ). IsOneOf e.0 (state other).timers) (state other).wants
          (id, name, wanted.0) (laws.always limits other sound).wants.armed wanted.1 in
          each_one (λ (timed : MsgId). timed ≢ id) (state other).timers id (rest.nodes_are_quiet peer other runs_other).times_not armed refl
      nothing_under_way id rest name peer one other runs_one runs_other (Asked flight) =
          (flies_silent id rest flight.number flight.packet flight.flies flight.was_sent).asks_not flight.is_such

      -- so who is linked to one that has the message has it
      linked_has : (id : MsgId) →
          IsUndisturbed state limits.keep history group id →
          IsAtRest state content group id →
          (name peer : Name) →
          Linked state group name peer →
          ((core : C) → Runs group name core → (state core).has id ≡ true) →
          (core : C) →
          Runs group peer core →
          (state core).has id ≡ true
      linked_has id undisturbed rest name peer link has core runs = go ((state core).has id) refl
        where
          back : has_name (state core).active name ≡ true
          back =
              let other = (undisturbed.symmetric.both_ways name peer).0 link in
              subst (λ c. has_name (state c).active name ≡ true) (runs_same group peer other.0 core other.1 runs) other.2

          go : (b : Bool) → (state core).has id ≡ b → b ≡ true
          go true is = refl
          go false is =
              absurd (nothing_under_way id rest name peer link.0 core link.1 runs
              (carried_on id undisturbed name peer link.0 core link.1 runs link.2 back (has link.0 link.1) is))

      -- and so on along every path
      path_has : (id : MsgId) →
          IsUndisturbed state limits.keep history group id →
          IsAtRest state content group id →
          (n : ℕ) (name end : Name) →
          Path state group n name end →
          ((core : C) → Runs group name core → (state core).has id ≡ true) →
          (core : C) →
          Runs group end core →
          (state core).has id ≡ true
      path_has id undisturbed rest zero name end path has = subst (λ n. (core : C) → Runs group n core → (state core).has id ≡ true) path.0 has
      path_has id undisturbed rest (suc n) name end path has =
          path_has id undisturbed rest n path.0 end path.2 (linked_has id undisturbed rest name path.0 path.1 has)

      -- whose end runs
      path_runs : (n : ℕ) (name end : Name) → Path state group n name end → IsRunning group end
      path_runs zero name end path = subst (λ n. IsRunning group n) path.0 path.1
      path_runs (suc n) name end path = path_runs n path.0 end path.2

      -- every node in reach of the origin has delivered the message
      pub delivered_in_reach : IsDeliveredInReach state content limits.keep history group
      delivered_in_reach id undisturbed rest name reach =
          let end : IsRunning group name = path_runs reach.0 id.origin.name name reach.1 in
          let had : (state end.0).has id ≡ true =
          path_has id undisturbed rest reach.0 id.origin.name name reach.1
          (run_carries id history group run undisturbed.calm undisturbed.few).origin_has end.0 end.1 in (
            end.1.0,
            end.0,
            end.1.1,
            end.1.2,
            run_has state content is_sound starts steps laws limits history group run name end.1.0 end.0 end.1.1 end.1.2 id had,
          )
