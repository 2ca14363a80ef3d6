-- What holds while a group settles, and what holds when it has.
use Rattle.std.proofs.Common.{◌≡◌, ◌∙◌, ◌+◌, ◌≤◌, ℕ, List, [], ◌∷◌, ◌++◌, length, true, false, sym, ap, refl, subst, arith, inl, inr}
use Rattle.std.specs.BTreeSet.{BTreeSet}
use Rattle.std.specs.List.{AllByRecursion as Each, IsDistinct}
use Rattle.std.specs.Option.{IfSome}
use Rattle.std.specs.Prelude.{Bool, Option, Some, None, cond, reverse, slice_get}
use Rattle.std.proofs.lemmas.List.{length-append}
use Rattle.node_names.specs.NodeName.{Name}
use Rattle.node_names.specs.Limits.{Limits}
use Rattle.node_names.specs.Same.{same_name}
use Rattle.node_names.specs.declared.ids.MsgId.{MsgId}
use Rattle.node_names.specs.declared.ids.Origin.{Origin}
use Rattle.protocol.specs.Content.{Content}
use Rattle.protocol.specs.CoreState.{CoreState}
use Rattle.protocol.specs.Delivery.{Delivery}
use Rattle.protocol.specs.Stimulus.{Stimulus}
use Rattle.world.specs.Event.{Event}
use Rattle.world.specs.Group.{Group, Logged, core_in, core_of, node_of}
use Rattle.world.specs.Links.{Runs}
use Rattle.world.specs.Plan.{names_of}
use Rattle.world.specs.Rest.{IsAtRest, IsQuiet, IsSilentOn, SaidAndCalm}
use Rattle.world.specs.declared.node_state.NodeState.{NodeState}
use Rattle.world.specs.declared.packet.Packet.{Packet}
use Rattle.world.proofs.FindLemmas.{found_name}
use Rattle.frames.specs.Content.{frame_content}
use Rattle.frames.specs.Frame.{Frame}
use Rattle.node_core.specs.Plum.{Plum, plum_state}
use Rattle.node_core.specs.Steps.{PlumStarts, PlumSteps}
use Rattle.at_rest.specs.Calm.{IsCalm}
use Rattle.at_rest.specs.Left.{AreLeft}
use Rattle.at_rest.specs.Load.{load_of}
use Rattle.at_rest.specs.Next.{Stops, TakesNext}
use Rattle.at_rest.specs.declared.error.SettleError.{SettleError}
use Rattle.at_rest.specs.declared.error.SettleError.TheVariants.{NotCalm, SeqSpent, OutOfMemory}
use Rattle.at_rest.specs.declared.left.Kind.TheVariants.{Announcements, Timers}
use Rattle.at_rest.specs.Settling.{IsSettled, Settles, queue_of, timers_of}

module _
    {C N : Type 0}
    (state : C → CoreState)
    (starts : Origin → Limits → List Name → Option Name → List (Name × N) → C → Type 0)
    (steps : C → Stimulus N → List (Name × N) → List Delivery → C → Type 0)
  where
    -- So far these events were played, and what is left of the load is less by as many.
    pub record HasPlayed (weight : Logged C N → ℕ) (old now : Logged C N) : Type 0 where
      pub events : List Event
      pub settles : Settles state starts steps events old now
      pub longer : length now.log ≡ length old.log + length events
      pub lighter : weight now + length events ≤ weight old
      pub undisturbed : (id : MsgId) → SaidAndCalm (reverse old.log) id → SaidAndCalm (reverse now.log) id

    -- nothing so far
    pub none_played : (weight : Logged C N → ℕ) (old : Logged C N) → HasPlayed weight old old
    none_played weight old =
        record {
          events = [];
          settles = refl;
          longer = omega arith;
          lighter = omega arith;
          undisturbed = λ id calm. calm;
        }

    -- one event more
    more_settles : (events : List Event) (old now new : Logged C N) →
        Settles state starts steps events old now →
        (taken : TakesNext state starts steps now new) →
        Settles state starts steps (events ++ taken.0 ∷ []) old new
    more_settles [] old now new same taken =
        subst (λ (w : Logged C N). Settles state starts steps (taken.0 ∷ []) w new) same (taken.1, (taken.2.0, new, taken.2.1, refl))
    more_settles (event ∷ events) old now new settles taken =
        (settles.0, (settles.1.0, settles.1.1, settles.1.2, more_settles events settles.1.1 now new settles.1.3 taken))

    pub one_played : (weight : Logged C N → ℕ) (old now new : Logged C N) →
        HasPlayed weight old now →
        (taken : TakesNext state starts steps now new) →
        weight new + 1 ≤ weight now →
        ((id : MsgId) → SaidAndCalm (reverse now.log) id → SaidAndCalm (reverse new.log) id) →
        HasPlayed weight old new
    one_played weight old now new played taken less still =
        let many : length (played.events ++ taken.0 ∷ []) ≡ length played.events + 1 = length-append played.events (taken.0 ∷ []) in
        let logged : length new.log ≡ length now.log + 1 = ap (λ es. length es) taken.2.1.logged ∙ length-append now.log (taken.2.1.entry ∷ []) in
        let longer : length now.log ≡ length old.log + length played.events = played.longer in
        let lighter : weight now + length played.events ≤ weight old = played.lighter in
        record {
          events = played.events ++ taken.0 ∷ [];
          settles = more_settles played.events old now new played.settles taken;
          longer = omega arith;
          lighter = omega arith;
          undisturbed = λ id calm. still id (played.undisturbed id calm);
        }

-- While a group settles it is calm, and the places of what is left are known.
pub record IsSettling (old now : Logged Plum Frame) (queues timers : BTreeSet ℕ) : Type 0 where
  pub played : HasPlayed plum_state PlumStarts PlumSteps load_of old now
  pub calm : IsCalm plum_state frame_content now.group
  pub queues_known : AreLeft plum_state Announcements now.group.nodes queues
  pub timers_known : AreLeft plum_state Timers now.group.nodes timers
  pub distinct : IsDistinct same_name (names_of now.group.nodes)

-- what holds of each node holds of the one that is found
each_found : {C : Type 0} (P : NodeState C → Type 0) (name : Name) (node : NodeState C) (nodes : List (NodeState C)) →
    Each P nodes →
    node_of name nodes ≡ Some node →
    P node
each_found P name node [] each found = let no : None ≡ Some node = found in cc
each_found {C} P name node (other ∷ others) each found = go (same_name name other.name) found (each_found P name node others each.1)
  where
    go : (b : Bool) → cond b (Some other) (node_of name others) ≡ Some node → (node_of name others ≡ Some node → P node) → P node
    go true is later = let here : Some other ≡ Some node = is in let same : other ≡ node = cc in subst P same each.0
    go false is later = later is

-- a group that has settled is at rest for all messages
pub all_at_rest :
    {C N : Type 0} (state : C → CoreState) (content : N → Content) (group : Group C N) → IsSettled state group → (id : MsgId) → IsAtRest state content group id
all_at_rest {C} {N} state content group settled id =
    record {
      nothing_flies =
          subst (λ ns. Each (λ number. IfSome (slice_get group.sent number) (λ (packet : Packet N). IsSilentOn (content packet.note) id)) ns)
          (sym settled.nothing_flies) tt;
      nodes_are_quiet = quiet;
    }
  where
    quiet : (name : Name) (core : C) → Runs group name core → IsQuiet (state core) id
    quiet name core runs =
        let node = runs.0 in
        let named : name ≡ node.name = found_name name group.nodes node runs.1 in
        let here : core_of node.name group.nodes ≡ Some core =
        ap (λ n. core_of n group.nodes) (sym named) ∙ ap (λ (o : Option (NodeState C)). core_in o) runs.1 ∙ runs.2 in
        let no_queue : (state core).queued ≡ [] =
        sym (ap (λ (o : Option C). queue_of state o) here)
        ∙ each_found (λ (other : NodeState C). queue_of state (core_of other.name group.nodes) ≡ []) name node group.nodes settled.nothing_queued runs.1 in
        let no_timer : (state core).timers ≡ [] =
        sym (ap (λ (o : Option C). timers_of state o) here)
        ∙ each_found (λ (other : NodeState C). timers_of state (core_of other.name group.nodes) ≡ []) name node group.nodes settled.nothing_armed runs.1 in
        record {
          queues_not = subst (λ (qs : List (Name × MsgId × ℕ)). Each (λ entry. entry.1 ≡ id → ⊥) qs) (sym no_queue) tt;
          times_not = subst (λ (ts : List MsgId). Each (λ timed. timed ≡ id → ⊥) ts) (sym no_timer) tt;
        }

-- if an event is refused, or was the last to be played, the events that were played stay
pub stopped_played : (is_spent : Plum → Stimulus Frame → Type 0) (e : SettleError) (old now new : Logged Plum Frame) →
    HasPlayed plum_state PlumStarts PlumSteps load_of old now →
    Stops plum_state PlumStarts PlumSteps is_spent e now new
    → (events : List Event) × Settles plum_state PlumStarts PlumSteps events old new
stopped_played is_spent NotCalm old now new played stops = absurd stops
stopped_played is_spent SeqSpent old now new played stops =
    (played.events, subst (λ (w : Logged Plum Frame). Settles plum_state PlumStarts PlumSteps played.events old w) (sym stops.0) played.settles)
stopped_played is_spent OutOfMemory old now new played stops =
    elim stops [
      | inl same ↦ (played.events, subst (λ (w : Logged Plum Frame). Settles plum_state PlumStarts PlumSteps played.events old w) (sym same) played.settles)
      | inr taken ↦ (played.events ++ taken.0 ∷ [], more_settles plum_state PlumStarts PlumSteps played.events old now new played.settles taken)
    ]
