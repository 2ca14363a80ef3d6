-- What each running core lists is the last of what its run has delivered.
use Rattle.std.proofs.Common.{◌≡◌, ◌∙◌, ◌+◌, ◌<◌, ◌≤◌, ℕ, suc, List, [], ◌∷◌, ◌++◌, true, false}
use Rattle.std.proofs.Common.{sym, ap, refl, subst, inl, inr, arith, append_assoc, append-nil}
use Rattle.std.specs.List.{AllByRecursion as Each}
use Rattle.std.specs.Prelude.{◌⊎◌, Bool, Option, Some, None, cond, filter, length}
use Rattle.std.proofs.lemmas.Bool.{false≢true}
use Rattle.std.proofs.lemmas.List.{length-append}
use Rattle.node_names.specs.NodeName.{Name}
use Rattle.node_names.specs.Limits.{Limits}
use Rattle.node_names.specs.Same.{same_origin, same_origin-Decides}
use Rattle.node_names.specs.declared.ids.MsgId.{MsgId}
use Rattle.node_names.specs.declared.ids.Origin.{Origin}
use Rattle.protocol.specs.Content.{Content}
use Rattle.protocol.specs.CoreState.{CoreState}
use Rattle.protocol.specs.Delivery.{Delivery}
use Rattle.protocol.specs.DeliveryLaw.{ids}
use Rattle.protocol.specs.HoldLaw.{AreLast}
use Rattle.protocol.specs.Laws.{Laws}
use Rattle.protocol.specs.Lists.{IsOneOf}
use Rattle.protocol.specs.Stimulus.{Stimulus}
use Rattle.world.specs.Entry.{Entry}
use Rattle.world.specs.Event.{Event}
use Rattle.world.specs.Group.{Group, node_of, put_node, origin_of}
use Rattle.world.specs.History.{HasDelivery, deliveries, delivered_by}
use Rattle.world.specs.Rest.{AreFewSince}
use Rattle.world.specs.Run.{Effect, Run, Starts}
use Rattle.world.specs.declared.event.EventOf.TheVariants.{Start, Broadcast, Arrive, Lose, Again, Fire, Flush, Down, Shuffle, Join, Stop}
use Rattle.world.specs.declared.node_state.NodeState.{NodeState}
use Rattle.world.proofs.FindLemmas.{found_name, put_cases}
use Rattle.world.proofs.GivenLemmas.{given_here}
use Rattle.world.proofs.Kept.{IsStarted, Keeps, greater_than-last}
use Rattle.world.proofs.Runs.{run_keeps}
use Rattle.world.proofs.Steps.{IsStep, arrive_step, broadcast_step, down_step, fire_step, flush_step, shuffle_step, join_step}

-- ---- lists of ids

-- one of both lists is in one of the two
either_of : {X : Type 0} (xs ys : List X) (x : X) → IsOneOf x (xs ++ ys) → IsOneOf x xs ⊎ IsOneOf x ys
either_of [] ys x one = inr one
either_of (y ∷ xs) ys x one = elim one [ inl here ↦ inl (inl here) | inr later ↦ elim (either_of xs ys x later) [ inl a ↦ inl (inr a) | inr b ↦ inr b ] ]

-- one of a list stands between two parts of it
stands_in : {X : Type 0} (xs : List X) (x : X) → IsOneOf x xs → (earlier : List X) × (later : List X) × (xs ≡ earlier ++ x ∷ later)
stands_in [] x one = absurd one
stands_in (y ∷ xs) x one =
    elim one [
      | inl here ↦ ([], xs, ap (λ z. z ∷ xs) (sym here))
      | inr later ↦ (let found = stands_in xs x later in (y ∷ found.0, found.1, ap (λ zs. y ∷ zs) found.2))
    ]

-- An id is held if `keep` is 0, or if at most `keep` ids stand from it on, it included.
pub held_last : (keep : ℕ) (all held : List MsgId) (id : MsgId) →
    AreLast keep all held →
    (0 < keep → (earlier later : List MsgId) → all ≡ earlier ++ id ∷ later → length (id ∷ later) ≤ keep) →
    IsOneOf id all →
    IsOneOf id held
held_last keep all held id last few one =
    elim (either_of last.forgotten held id (subst (λ is. IsOneOf id is) last.in_order one)) [
      | inl gone ↦ elim last.enough [
        | inl none ↦ (let no_such : IsOneOf id [] = subst (λ is. IsOneOf id is) none gone in absurd no_such)
        | inr some ↦ (
            let found = stands_in last.forgotten id gone in
            let is : all ≡ found.0 ++ id ∷ (found.1 ++ held) = last.in_order ∙ ap (λ is. is ++ held) found.2 ∙ append_assoc found.0 (id ∷ found.1) held in
            let few_from : suc (length (found.1 ++ held)) ≤ keep = few some.0 found.0 (found.1 ++ held) is in
            let both : length (found.1 ++ held) ≡ length found.1 + length held = length-append found.1 held in
            let enough : keep ≤ length held = some.1 in
            absurd (omega arith))
      ]
      | inr held_it ↦ held_it
    ]

-- the last of the last are the last
last_of_last : (keep : ℕ) (all held more after : List MsgId) → AreLast keep all held → AreLast keep (held ++ more) after → AreLast keep (all ++ more) after
last_of_last keep all held more after first second =
    record {
      forgotten = first.forgotten ++ second.forgotten;
      in_order =
          ap (λ is. is ++ more) first.in_order
          ∙ append_assoc first.forgotten held more
          ∙ ap (λ is. first.forgotten ++ is) second.in_order
          ∙ sym (append_assoc first.forgotten second.forgotten after);
      enough = elim second.enough [
        | inl none ↦ elim first.enough [
          | inl nothing ↦ inl (ap (λ is. is ++ second.forgotten) nothing ∙ none)
          | inr some ↦ (
              let whole : length (held ++ more) ≡ length after = ap length (second.in_order ∙ ap (λ is. is ++ after) none) in
              let both : length (held ++ more) ≡ length held + length more = length-append held more in
              let before : keep ≤ length held = some.1 in
              inr (some.0, omega arith))
        ]
        | inr some ↦ inr some
      ];
    }

-- ---- what one run of a node delivered

-- of two lists of deliveries the run has those of the first and then those of the second
by_both : (node : Origin) (xs ys : List Delivery) → delivered_by node (xs ++ ys) ≡ delivered_by node xs ++ delivered_by node ys
by_both node [] ys = refl
by_both node (d ∷ xs) ys = go (same_origin node d.node) (by_both node xs ys)
  where
    go : (b : Bool) →
        delivered_by node (xs ++ ys) ≡ delivered_by node xs ++ delivered_by node ys →
        ids (cond b (d ∷ filter (λ e. same_origin node e.node) (xs ++ ys)) (filter (λ e. same_origin node e.node) (xs ++ ys)))
        ≡ ids (cond b (d ∷ filter (λ e. same_origin node e.node) xs) (filter (λ e. same_origin node e.node) xs)) ++ delivered_by node ys
    go true later = ap (λ is. d.id ∷ is) later
    go false later = later

-- what it delivered is among its ids
pub is_by : (node : Origin) (given : List Delivery) (id : MsgId) → HasDelivery given node id → IsOneOf id (delivered_by node given)
is_by node [] id h = absurd h
is_by node (d ∷ given) id h = go (same_origin node d.node) refl h (is_by node given id)
  where
    go : (b : Bool) →
        same_origin node d.node ≡ b →
        ((d.node ≡ node) × (d.id ≡ id)) ⊎ HasDelivery given node id →
        (HasDelivery given node id → IsOneOf id (delivered_by node given)) →
        IsOneOf id (ids (cond b (d ∷ filter (λ e. same_origin node e.node) given) (filter (λ e. same_origin node e.node) given)))
    go true same (inl here) later = inl (sym here.1)
    go true same (inr there) later = inr (later there)
    go false apart (inl here) later = absurd (false≢true (sym apart ∙ (same_origin-Decides node d.node).1 (sym here.0)))
    go false apart (inr there) later = later there

-- one that delivered nothing has no ids
none_by : (node : Origin) (given : List Delivery) → ((id : MsgId) → HasDelivery given node id → ⊥) → delivered_by node given ≡ []
none_by node [] none = refl
none_by node (d ∷ given) none = go (same_origin node d.node) refl (none_by node given (λ id h. none id (inr h)))
  where
    go : (b : Bool) →
        same_origin node d.node ≡ b →
        delivered_by node given ≡ [] →
        ids (cond b (d ∷ filter (λ e. same_origin node e.node) given) (filter (λ e. same_origin node e.node) given)) ≡ []
    go true same later = absurd (none d.id (inl (sym ((same_origin-Decides node d.node).0 same), refl)))
    go false apart later = later

-- where all deliveries are its own it has all their ids
all_by : (node : Origin) (given : List Delivery) → Each (λ d. d.node ≡ node) given → delivered_by node given ≡ ids given
all_by node [] here = refl
all_by node (d ∷ given) here = go (same_origin node d.node) refl (all_by node given here.1)
  where
    go : (b : Bool) →
        same_origin node d.node ≡ b →
        delivered_by node given ≡ ids given →
        ids (cond b (d ∷ filter (λ e. same_origin node e.node) given) (filter (λ e. same_origin node e.node) given)) ≡ d.id ∷ ids given
    go true same later = ap (λ is. d.id ∷ is) later
    go false apart later = absurd (false≢true (sym apart ∙ (same_origin-Decides node d.node).1 (sym here.0)))

-- few since a message were few before more was delivered
pub few_then : (keep : ℕ) (id : MsgId) (past more : List Delivery) → AreFewSince keep (past ++ more) id → AreFewSince keep past id
few_then keep id past more few node earlier later is =
    let whole : delivered_by node (past ++ more) ≡ earlier ++ id ∷ (later ++ delivered_by node more) =
    by_both node past more ∙ ap (λ is. is ++ delivered_by node more) is ∙ append_assoc earlier (id ∷ later) (delivered_by node more) in
    let few_from : suc (length (later ++ delivered_by node more)) ≤ keep = few node earlier (later ++ delivered_by node more) whole in
    let both : length (later ++ delivered_by node more) ≡ length later + length (delivered_by node more) = length-append later (delivered_by node more) in
    let few_then_too : suc (length later) ≤ keep = omega arith in
    few_then_too

-- ---- every run

-- Each running core lists the last of what its run has delivered.
abbrev pub ListsLast : {C : Type 0} → (C → CoreState) → ℕ → List Entry → List (NodeState C) → Type 0
ListsLast {C} state keep history nodes =
    (name : Name) (node : NodeState C) (core : C) →
    node_of name nodes ≡ Some node →
    node.core ≡ Some core →
    AreLast keep (delivered_by (origin_of node) (deliveries history)) (state core).held

module _
    {C N : Type 0}
    (state : C → CoreState)
    (content : N → Content)
    (is_sound : Limits → C → Type 0)
    (starts : Origin → Limits → List Name → Option Name → List (Name × N) → C → Type 0)
    (steps : C → Stimulus N → List (Name × N) → List Delivery → C → Type 0)
    (laws : Laws state content is_sound starts steps)
    (limits : Limits)
  where
    module _ (past : List Entry) (entry : Entry) (before after : Group C N)
        (kept : Keeps state content is_sound limits past before.nodes before.sent) (lists : ListsLast state limits.keep past before.nodes) where
      -- what a run lists stays the last where it delivers nothing more
      lists_on : (node : Origin) (held : List MsgId) →
          delivered_by node entry.given ≡ [] →
          AreLast limits.keep (delivered_by node (deliveries past)) held →
          AreLast limits.keep (delivered_by node (deliveries past ++ entry.given)) held
      lists_on node held none last =
          subst (λ is. AreLast limits.keep is held)
          (sym (by_both node (deliveries past) entry.given
          ∙ ap (λ is. delivered_by node (deliveries past) ++ is) none
          ∙ append-nil (delivered_by node (deliveries past))))
          last

      -- where nothing is delivered no run delivers
      nothing_by : entry.given ≡ [] → (node : Origin) → delivered_by node entry.given ≡ []
      nothing_by none node = ap (delivered_by node) none

      -- a node that is put lists the last, where no other delivered anything
      put_lists : (node : NodeState C) →
          ((core : C) → node.core ≡ Some core → AreLast limits.keep (delivered_by (origin_of node) (deliveries past ++ entry.given)) (state core).held) →
          ((found : NodeState C) → (found.name ≡ node.name → ⊥) → delivered_by (origin_of found) entry.given ≡ []) →
          after.nodes ≡ put_node node before.nodes →
          ListsLast state limits.keep (entry ∷ past) after.nodes
      put_lists node its others nodes name found core at runs =
          elim (put_cases name node found before.nodes (subst (λ ns. node_of name ns ≡ Some found) nodes at)) [
            | inl here ↦
                subst
                (λ (n : NodeState C). n.core ≡ Some core → AreLast limits.keep (delivered_by (origin_of n) (deliveries past ++ entry.given)) (state core).held)
                here.1 (its core) runs
            | inr there ↦
                lists_on (origin_of found) (state core).held
                (others found (λ e. there.0 (found_name name before.nodes found there.1 ∙ e))) (lists name found core there.1 runs)
          ]

      -- a step
      step_lists : (name : Name) (by : Stimulus N) →
          IsStep state content is_sound starts steps laws limits past entry before after name by →
          ListsLast state limits.keep (entry ∷ past) after.nodes
      step_lists name by step =
          put_lists (record step.acts.node { core = Some step.acts.new })
          (λ core runs.
          let same : step.acts.new ≡ core = (let e : Some step.acts.new ≡ Some core = runs in cc) in
          let own : delivered_by (origin_of step.acts.node) entry.given ≡ ids entry.given =
          all_by (origin_of step.acts.node) entry.given
          (subst (λ o. Each (λ (d : Delivery). d.node ≡ o) entry.given) step.core.is_me step.lawful.deliveries.here) in
          let last : AreLast limits.keep (delivered_by (origin_of step.acts.node) (deliveries past)) (state step.acts.old).held =
          lists name step.acts.node step.acts.old step.acts.known step.acts.running in
          subst (λ c. AreLast limits.keep (delivered_by (origin_of step.acts.node) (deliveries past ++ entry.given)) (state c).held) same
          (subst (λ is. AreLast limits.keep is (state step.acts.new).held) (sym
          (by_both (origin_of step.acts.node) (deliveries past) entry.given ∙ ap (λ is. delivered_by (origin_of step.acts.node) (deliveries past) ++ is) own))
          (last_of_last limits.keep (delivered_by (origin_of step.acts.node) (deliveries past))
          (state step.acts.old).held (ids entry.given) (state step.acts.new).held last step.keeps.last)))
          (λ found differs. none_by (origin_of found) entry.given (λ id h. differs
          (ap (λ (o : Origin). o.name) (given_here (state step.acts.old).me entry.given (origin_of found) id step.lawful.deliveries.here h ∙ step.core.is_me))))
          step.acts.nodes

      -- an event that leaves the nodes and delivers nothing
      same_lists : after.nodes ≡ before.nodes → entry.given ≡ [] → ListsLast state limits.keep (entry ∷ past) after.nodes
      same_lists same none name found core at runs =
          lists_on (origin_of found) (state core).held (nothing_by none (origin_of found))
          (lists name found core (subst (λ ns. node_of name ns ≡ Some found) same at) runs)

      -- a start
      start_lists : (me : Origin) (peers : List Name) (contact : Option Name) →
          Starts starts limits before me peers contact entry after →
          ListsLast state limits.keep (entry ∷ past) after.nodes
      start_lists me peers contact started =
          put_lists (record { name = me.name; highest = me.incarnation; core = Some started.core })
          (λ core runs.
          let same : started.core ≡ core = (let e : Some started.core ≡ Some core = runs in cc) in
          let listed : (state started.core).held ≡ [] =
          (laws.start me limits peers contact started.sends started.core started.fit started.started).lists_nothing in
          subst (λ c. AreLast limits.keep (delivered_by me (deliveries past ++ entry.given)) (state c).held) same
          (lists_on me (state started.core).held (nothing_by started.nothing_given me)
          (record { forgotten = []; in_order = nothing_yet ∙ sym listed; enough = inl refl })))
          (λ found differs. nothing_by started.nothing_given (origin_of found))
          started.nodes
        where
          -- a new run delivered nothing yet
          nothing_yet : delivered_by me (deliveries past) ≡ []
          nothing_yet = none_by me (deliveries past) (λ id d.
              let was : IsStarted past me = kept.below me id d in
              let later : me.incarnation.0 ≤ was.last.0 = was.not_later in
              let less : was.last.0 < me.incarnation.0 =
              greater_than-last me.name me.incarnation before.nodes past (kept.highest me.name) started.fresh was.last was.started in
              absurd (omega arith))

      -- every event
      event_lists : (event : Event) → Effect state starts steps limits before entry after event → ListsLast state limits.keep (entry ∷ past) after.nodes
      event_lists (Start name incarnation peers contact) effect = start_lists (record { name = name; incarnation = incarnation }) peers contact effect.1
      event_lists (Broadcast name payload) effect =
          step_lists _ _ (broadcast_step state content is_sound starts steps laws limits past entry before after kept name payload effect.1)
      event_lists (Arrive place dice) effect =
          step_lists _ _ (arrive_step state content is_sound starts steps laws limits past entry before after kept place dice effect)
      event_lists (Lose place) effect = same_lists effect.others.nodes effect.others.nothing_given
      event_lists (Again number) effect = same_lists effect.others.nodes effect.others.nothing_given
      event_lists (Fire name id) effect =
          step_lists _ _ (fire_step state content is_sound starts steps laws limits past entry before after kept name id effect.1)
      event_lists (Flush name) effect = step_lists _ _ (flush_step state content is_sound starts steps laws limits past entry before after kept name effect.1)
      event_lists (Down name peer dice) effect =
          step_lists _ _ (down_step state content is_sound starts steps laws limits past entry before after kept name peer dice effect.1)
      event_lists (Shuffle name dice) effect =
          step_lists _ _ (shuffle_step state content is_sound starts steps laws limits past entry before after kept name dice effect.1)
      event_lists (Join name contact) effect =
          step_lists _ _ (join_step state content is_sound starts steps laws limits past entry before after kept name contact effect.1)
      event_lists (Stop name) effect =
          put_lists (record effect.1.node { core = None }) (λ core runs. let no : None ≡ Some core = runs in cc)
          (λ found differs. nothing_by effect.1.nothing_given (origin_of found)) effect.1.nodes

    -- so in every run each running core lists the last of what its run has delivered
    pub run_lists : (history : List Entry) (group : Group C N) → Run state starts steps limits history group → ListsLast state limits.keep history group.nodes
    run_lists [] group run = λ name node core at runs.
        let none : node_of name [] ≡ Some node = subst (λ ns. node_of name ns ≡ Some node) run.no_nodes at in
        let no : None ≡ Some node = none in
        cc
    run_lists (entry ∷ past) group run =
        event_lists past entry run.0 group (run_keeps state content is_sound starts steps laws limits past run.0 run.1)
        (run_lists past run.0 run.1) entry.event run.2.1
