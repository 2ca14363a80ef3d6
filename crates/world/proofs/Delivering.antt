-- What a running core has, its run has delivered.
use Rattle.std.proofs.Common.{◌≡◌, ◌∙◌, ℕ, List, [], ◌∷◌, ◌++◌, true, false, sym, subst, inl, inr}
use Rattle.std.specs.List.{AllByRecursion as Each}
use Rattle.std.specs.Prelude.{Option, Some, None}
use Rattle.std.proofs.lemmas.Bool.{false≢true}
use Rattle.node_names.specs.NodeName.{Name}
use Rattle.node_names.specs.Limits.{Limits}
use Rattle.node_names.specs.declared.ids.MsgId.{MsgId}
use Rattle.node_names.specs.declared.ids.Origin.{Origin}
use Rattle.protocol.specs.Content.{Content}
use Rattle.protocol.specs.CoreState.{CoreState}
use Rattle.protocol.specs.Delivery.{Delivery}
use Rattle.protocol.specs.DeliveryLaw.{ids}
use Rattle.protocol.specs.Laws.{Laws}
use Rattle.protocol.specs.Lists.{IsOneOf}
use Rattle.protocol.specs.Stimulus.{Stimulus}
use Rattle.world.specs.Entry.{Entry}
use Rattle.world.specs.Event.{Event}
use Rattle.world.specs.Group.{Group, node_of, put_node, origin_of}
use Rattle.world.specs.History.{Delivered, HasDelivery, Said, deliveries}
use Rattle.world.specs.Honest.{Honest}
use Rattle.world.specs.Run.{Effect, Run}
use Rattle.world.specs.declared.event.EventOf.TheVariants.{Start, Broadcast, Arrive, Lose, Again, Fire, Flush, Down, Shuffle, Join, Stop}
use Rattle.world.specs.declared.node_state.NodeState.{NodeState}
use Rattle.world.proofs.FindLemmas.{put_cases}
use Rattle.world.proofs.GivenLemmas.{given_either}
use Rattle.world.proofs.Kept.{Keeps}
use Rattle.world.proofs.Runs.{run_keeps}
use Rattle.world.proofs.Steps.{IsStep, arrive_step, broadcast_step, down_step, fire_step, flush_step, shuffle_step, join_step}

-- what one of two lists has, both together have
given-left : (xs ys : List Delivery) (node : Origin) (id : MsgId) → HasDelivery xs node id → HasDelivery (xs ++ ys) node id
given-left [] ys node id h = absurd h
given-left (x ∷ xs) ys node id h = elim h [ inl here ↦ inl here | inr later ↦ inr (given-left xs ys node id later) ]

given-right : (xs ys : List Delivery) (node : Origin) (id : MsgId) → HasDelivery ys node id → HasDelivery (xs ++ ys) node id
given-right [] ys node id h = h
given-right (x ∷ xs) ys node id h = inr (given-right xs ys node id h)

-- a message among deliveries at a node was delivered there
given_there : (me : Origin) (given : List Delivery) (id : MsgId) → Each (λ d. d.node ≡ me) given → IsOneOf id (ids given) → HasDelivery given me id
given_there me [] id here one = absurd one
given_there me (d ∷ given) id here one = elim one [ inl first ↦ inl (here.0, sym first) | inr later ↦ inr (given_there me given id here.1 later) ]

-- what was delivered was said
given_said : (history : List Entry) (given : List Delivery) (node : Origin) (id : MsgId) →
    Each (λ d. Said history d.id d.payload) given →
    HasDelivery given node id →
    (p : List ℕ) × Said history id p
given_said history [] node id honest h = absurd h
given_said history (d ∷ given) node id honest h =
    elim h [
      | inl here ↦ (d.payload, subst (λ i. Said history i d.payload) here.1 honest.0)
      | inr later ↦ given_said history given node id honest.1 later
    ]

pub delivered_said : (history : List Entry) (node : Origin) (id : MsgId) → Honest history → Delivered history node id → (p : List ℕ) × Said history id p
delivered_said [] node id honest h = absurd h
delivered_said (entry ∷ past) node id honest h =
    elim (given_either (deliveries past) entry.given node id h) [
      | inl before ↦ (let said = delivered_said past node id honest.1 before in (said.0, inr said.1))
      | inr now ↦ given_said (entry ∷ past) entry.given node id honest.0 now
    ]

-- What each running core has, its run has delivered.
abbrev pub HasDelivered : {C : Type 0} → (C → CoreState) → List Entry → List (NodeState C) → Type 0
HasDelivered {C} state history nodes =
    (name : Name) (node : NodeState C) (core : C) →
    node_of name nodes ≡ Some node →
    node.core ≡ Some core →
    (id : MsgId) →
    (state core).has id ≡ true →
    Delivered history (origin_of node) id

-- what was delivered stays so
pub stays_delivered : (past : List Entry) (entry : Entry) (node : Origin) (id : MsgId) → Delivered past node id → Delivered (entry ∷ past) node id
stays_delivered past entry node id = given-left (deliveries past) entry.given node id

module _
    {C N : Type 0}
    (state : C → CoreState)
    (content : N → Content)
    (is_sound : Limits → C → Type 0)
    (starts : Origin → Limits → List Name → Option Name → List (Name × N) → C → Type 0)
    (steps : C → Stimulus N → List (Name × N) → List Delivery → C → Type 0)
    (laws : Laws state content is_sound starts steps)
    (limits : Limits)
  where
    module _ (past : List Entry) (entry : Entry) (before after : Group C N)
        (kept : Keeps state content is_sound limits past before.nodes before.sent) (has : HasDelivered state past before.nodes) where
      -- a node that is put has delivered what its core has, where it has
      put_has : (node : NodeState C) →
          ((core : C) → node.core ≡ Some core → (id : MsgId) → (state core).has id ≡ true → Delivered (entry ∷ past) (origin_of node) id) →
          after.nodes ≡ put_node node before.nodes →
          HasDelivered state (entry ∷ past) after.nodes
      put_has node delivered nodes name found core at runs id had =
          elim (put_cases name node found before.nodes (subst (λ ns. node_of name ns ≡ Some found) nodes at)) [
            | inl here ↦ subst (λ (n : NodeState C). n.core ≡ Some core → Delivered (entry ∷ past) (origin_of n) id) here.1 (λ e. delivered core e id had) runs
            | inr there ↦ stays_delivered past entry (origin_of found) id (has name found core there.1 runs id had)
          ]

      -- a step
      step_has : (name : Name) (by : Stimulus N) →
          IsStep state content is_sound starts steps laws limits past entry before after name by →
          HasDelivered state (entry ∷ past) after.nodes
      step_has name by step =
          put_has (record step.acts.node { core = Some step.acts.new })
          (λ core runs id had.
          let same : step.acts.new ≡ core = (let e : Some step.acts.new ≡ Some core = runs in cc) in
          elim ((step.lawful.deliveries.grows id).0 (subst (λ c. (state c).has id ≡ true) (sym same) had)) [
            | inl before_it ↦
                stays_delivered past entry (origin_of step.acts.node) id (has name step.acts.node step.acts.old step.acts.known step.acts.running id before_it)
            | inr now ↦
                given-right (deliveries past) entry.given (origin_of step.acts.node) id (subst (λ o. HasDelivery entry.given o id) step.core.is_me
                (given_there (state step.acts.old).me entry.given id step.lawful.deliveries.here now))
          ])
          step.acts.nodes

      -- an event that leaves the nodes
      same_has : after.nodes ≡ before.nodes → HasDelivered state (entry ∷ past) after.nodes
      same_has same name found core at runs id had =
          stays_delivered past entry (origin_of found) id (has name found core (subst (λ ns. node_of name ns ≡ Some found) same at) runs id had)

      -- every event
      event_has : (event : Event) → Effect state starts steps limits before entry after event → HasDelivered state (entry ∷ past) after.nodes
      event_has (Start name incarnation peers contact) effect =
          put_has _
          (λ core runs id had.
          let same : effect.1.core ≡ core = (let e : Some effect.1.core ≡ Some core = runs in cc) in
          let none : (state effect.1.core).has id ≡ false =
          (laws.start (record { name = name; incarnation = incarnation }) limits
          peers contact effect.1.sends effect.1.core effect.1.fit effect.1.started).has_nothing
          id in
          absurd (false≢true (sym none ∙ subst (λ c. (state c).has id ≡ true) (sym same) had)))
          effect.1.nodes
      event_has (Broadcast name payload) effect =
          step_has _ _ (broadcast_step state content is_sound starts steps laws limits past entry before after kept name payload effect.1)
      event_has (Arrive place dice) effect =
          step_has _ _ (arrive_step state content is_sound starts steps laws limits past entry before after kept place dice effect)
      event_has (Lose place) effect = same_has effect.others.nodes
      event_has (Again number) effect = same_has effect.others.nodes
      event_has (Fire name id) effect = step_has _ _ (fire_step state content is_sound starts steps laws limits past entry before after kept name id effect.1)
      event_has (Flush name) effect = step_has _ _ (flush_step state content is_sound starts steps laws limits past entry before after kept name effect.1)
      event_has (Down name peer dice) effect =
          step_has _ _ (down_step state content is_sound starts steps laws limits past entry before after kept name peer dice effect.1)
      event_has (Shuffle name dice) effect =
          step_has _ _ (shuffle_step state content is_sound starts steps laws limits past entry before after kept name dice effect.1)
      event_has (Join name contact) effect =
          step_has _ _ (join_step state content is_sound starts steps laws limits past entry before after kept name contact effect.1)
      event_has (Stop name) effect = put_has (record effect.1.node { core = None }) (λ core runs id had. let no : None ≡ Some core = runs in cc) effect.1.nodes

    -- so in every run each running core has only what its run has delivered
    pub run_has : (history : List Entry) (group : Group C N) → Run state starts steps limits history group → HasDelivered state history group.nodes
    run_has [] group run = λ name node core at runs id had.
        let none : node_of name [] ≡ Some node = subst (λ ns. node_of name ns ≡ Some node) run.no_nodes at in
        let no : None ≡ Some node = none in
        cc
    run_has (entry ∷ past) group run =
        event_has past entry run.0 group (run_keeps state content is_sound starts steps laws limits past run.0 run.1)
        (run_has past run.0 run.1) entry.event run.2.1
