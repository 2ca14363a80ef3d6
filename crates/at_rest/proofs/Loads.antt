-- An event of the settling of a calm group makes its load less, and leaves it calm.
use Rattle.std.proofs.Common.{◌≡◌, ◌∙◌, ◌+◌, ◌*◌, ◌≤◌, ℕ, zero, suc, List, [], ◌∷◌, length, true, false, sym, ap, refl, subst, inl, inr, arith}
use Rattle.std.specs.List.{AllByRecursion as Each, sum_by}
use Rattle.std.specs.Prelude.{◌||◌, Bool, Option, Some, None, count_by, is_some}
use Rattle.std.proofs.Math.Nat.{mul-suc, suc-mul}
use Rattle.std.proofs.lemmas.Bool.{false≢true}
use Rattle.std.proofs.lemmas.List.{length-map}
use Rattle.node_names.specs.NodeName.{Name}
use Rattle.node_names.specs.Limits.{Limits}
use Rattle.node_names.specs.Same.{has_name, same_name, same_name-Decides}
use Rattle.node_names.specs.declared.ids.MsgId.{MsgId}
use Rattle.protocol.specs.CoreState.{CoreState}
use Rattle.protocol.specs.Delivery.{Delivery}
use Rattle.protocol.specs.DeliveryLaw.{ids}
use Rattle.protocol.specs.Laws.{Laws}
use Rattle.protocol.specs.Lists.{IsOneOf}
use Rattle.protocol.specs.Stimulus.{Stimulus}
use Rattle.world.specs.Entry.{Entry}
use Rattle.world.specs.Group.{Group, core_in, core_of, node_of, origin_of, packets, put_node}
use Rattle.world.specs.Links.{IsSymmetric, Runs}
use Rattle.world.specs.declared.node_state.NodeState.{NodeState}
use Rattle.world.proofs.FindLemmas.{found_name, name_is, put_other, put_same, tells_apart}
use Rattle.world.proofs.Steps.{IsStep}
use Rattle.world.proofs.Traffic.{flights}
use Rattle.world.proofs.Weights.{AreSent, arriving, flying_weight}
use Rattle.frames.specs.Content.{frame_content}
use Rattle.frames.specs.Frame.{Frame}
use Rattle.peer_sets.specs.declared.members.PeerKind.{PeerKind}
use Rattle.node_core.specs.Plum.{IsSoundPlum, Plum, plum_state}
use Rattle.node_core.specs.Steps.{PlumStarts, PlumSteps, Turned, delivered_at, gone_on, turned}
use Rattle.at_rest.specs.Load.{core_load, flying_load, lacked, links, load, waiting}
use Rattle.at_rest.proofs.Batched.{sends_load}
use Rattle.at_rest.proofs.Lighter.{gossip_waiting, member_count}
use Rattle.at_rest.proofs.Sums.{all_counted, flying_is, lacks_less, lacks_one_less, put_sum, same_counts, same_sums, sent_is, weight}
use Rattle.at_rest.proofs.Turning.{TurnsLighter}

-- a product grows with its second factor
grows : (m few many : ℕ) → few ≤ many → m * few ≤ m * many
grows zero few many less = omega arith
grows (suc m) few many less = let rest : m * few ≤ m * many = grows m few many less in nonlinear m few many rest less
  where
    nonlinear : (m few many : ℕ) → m * few ≤ m * many → few ≤ many → suc m * few ≤ suc m * many
    nonlinear m few many rest less =
        let one : suc m * few ≡ m * few + few = suc-mul m few in
        let other : suc m * many ≡ m * many + many = suc-mul m many in
        omega arith

-- a name that a list has is one of it
has_one : (xs : List Name) (name : Name) → has_name xs name ≡ true → IsOneOf name xs
has_one [] name has = absurd (false≢true has)
has_one (x ∷ xs) name has = go (same_name name x) refl has (has_one xs name)
  where
    go : (b : Bool) → same_name name x ≡ b → (b || has_name xs name) ≡ true → (has_name xs name ≡ true → IsOneOf name xs) → IsOneOf name (x ∷ xs)
    go true same h later = inl ((same_name-Decides name x).0 same)
    go false apart h later = inr (later h)

one_has : (xs : List Name) (name : Name) → IsOneOf name xs → has_name xs name ≡ true
one_has [] name one = absurd one
one_has (x ∷ xs) name one =
    elim one [
      | inl here ↦ ap (λ b. b || has_name xs name) ((same_name-Decides name x).1 here)
      | inr later ↦ ap (λ b. same_name name x || b) (one_has xs name later) ∙ or_true (same_name name x)
    ]
  where
    or_true : (b : Bool) → (b || true) ≡ true
    or_true true = refl
    or_true false = refl

-- a core that runs is found
runs_found : (group : Group Plum Frame) (name : Name) (core : Plum) → Runs group name core → core_of name group.nodes ≡ Some core
runs_found group name core runs = ap (λ (o : Option (NodeState Plum)). core_in o) runs.1 ∙ runs.2

module _
    (limits : Limits)
    (laws : Laws plum_state frame_content IsSoundPlum PlumStarts PlumSteps)
    (past : List Entry)
    (entry : Entry)
    (before after : Group Plum Frame)
    (name : Name)
    (by : Stimulus Frame)
    (step : IsStep plum_state frame_content IsSoundPlum PlumStarts PlumSteps laws limits past entry before after name by)
    (are_sent : AreSent before.sent before.flight)
    (symmetric : IsSymmetric plum_state before)
    (came : ℕ)
    (asker : Option Name)
    (arrives : arriving weight name by ≡ came)
    (turns : TurnsLighter came asker step.acts.old.membership step.acts.old.gossip (turned step.acts.old.me step.acts.old.membership step.acts.old.gossip by))
  where
    abbrev old : Plum
    old = step.acts.old

    abbrev new : Plum
    new = step.acts.new

    abbrev turn : Turned
    turn = turned old.me old.membership old.gossip by

    named : name ≡ step.acts.node.name
    named = found_name name before.nodes step.acts.node step.acts.known

    is_here : same_name name step.acts.node.name ≡ true
    is_here = subst (λ n. same_name name n ≡ true) named (name_is name)

    core_before : core_of name before.nodes ≡ Some old
    core_before = ap (λ (o : Option (NodeState Plum)). core_in o) step.acts.known ∙ step.acts.running

    core_after : core_of name after.nodes ≡ Some new
    core_after =
        ap (λ ns. core_of name ns) step.acts.nodes
        ∙ ap (λ (o : Option (NodeState Plum)). core_in o) (put_same name (record step.acts.node { core = Some new }) before.nodes is_here)

    core_other : (other : Name) → (other ≡ name → ⊥) → core_of other after.nodes ≡ core_of other before.nodes
    core_other other differs =
        ap (λ ns. core_of other ns) step.acts.nodes
        ∙ ap (λ (o : Option (NodeState Plum)). core_in o)
        (put_other other (record step.acts.node { core = Some new }) before.nodes (tells_apart other step.acts.node.name (λ e. differs (e ∙ sym named))))

    -- the same names run
    same_runs : (other : Name) → is_some (core_of other after.nodes) ≡ is_some (core_of other before.nodes)
    same_runs other = go (same_name other name) refl
      where
        go : (b : Bool) → same_name other name ≡ b → is_some (core_of other after.nodes) ≡ is_some (core_of other before.nodes)
        go true is =
            let here : other ≡ name = (same_name-Decides other name).0 is in
            subst (λ n. is_some (core_of n after.nodes) ≡ is_some (core_of n before.nodes)) (sym here) (ap is_some core_after ∙ sym (ap is_some core_before))
        go false is = ap is_some (core_other other (λ e. false≢true (sym is ∙ (same_name-Decides other name).1 e)))

    -- so each core is linked to as many
    same_links : (core : CoreState) → links after core ≡ links before core
    same_links core = same_counts (λ n. is_some (core_of n after.nodes)) (λ n. is_some (core_of n before.nodes)) core.active same_runs

    same_load : (said : List MsgId) (o : Option Plum) → core_load said after o ≡ core_load said before o
    same_load said None = refl
    same_load said (Some core) = ap (λ n. 9 * (n * lacked said (plum_state core)) + waiting (plum_state core)) (same_links (plum_state core))

    -- the views of the core stay
    new_is : new ≡ gone_on old turn
    new_is = step.acts.stepped.leaves

    same_active : (plum_state new).active ≡ (plum_state old).active
    same_active = ap (λ (c : Plum). (plum_state c).active) new_is ∙ ap (λ m. m.views.active) turns.views_stay

    -- it is linked to each of its members
    links_are : links before (plum_state old) ≡ member_count old.gossip
    links_are =
        all_counted (λ n. is_some (core_of n before.nodes)) (plum_state old).active (λ n one. (
        let runs = symmetric.members_run name n old (step.acts.node, step.acts.known, step.acts.running) (one_has (plum_state old).active n one) in
        ap is_some (runs_found before n runs.0 runs.1)))
        ∙ sym (ap length step.core.sound.members)
        ∙ length-map old.gossip.peers.members (λ (m : Name × PeerKind). m.0)

    -- what it had it has
    keeps : (id : MsgId) → (plum_state old).has id ≡ true → (plum_state new).has id ≡ true
    keeps id had = (step.lawful.deliveries.grows id).1 (inl had)

    -- what it sends has the load of its bodies
    sent_load : sum_by weight (packets (origin_of step.acts.node) step.acts.sends) ≡ sends_load turn.sends
    sent_load =
        ap (λ ss. sum_by weight (packets (origin_of step.acts.node) ss)) step.acts.stepped.sent
        ∙ sent_is old.me old.framed turn.sends (origin_of step.acts.node)

    waits_new : waiting (plum_state new) ≡ gossip_waiting turn.gossip
    waits_new = ap (λ (c : Plum). waiting (plum_state c)) new_is

    -- the core, its packets and what came
    core_lighter : (said : List MsgId) →
        ((id : MsgId) → IsOneOf id (ids entry.given) → IsOneOf id said) →
        sends_load turn.sends + core_load said before (Some new) + 1 ≤ came + core_load said before (Some old)
    core_lighter said were_said = go turn.delivered refl
      where
        linked : links before (plum_state new) ≡ member_count old.gossip
        linked = ap (λ ns. count_by (λ n. is_some (core_of n before.nodes)) ns) same_active ∙ links_are

        whole_new : core_load said before (Some new) ≡ 9 * (member_count old.gossip * lacked said (plum_state new)) + gossip_waiting turn.gossip
        whole_new = λ i. 9 * (linked i * lacked said (plum_state new)) + waits_new i

        whole_old : core_load said before (Some old) ≡ 9 * (member_count old.gossip * lacked said (plum_state old)) + gossip_waiting old.gossip
        whole_old = ap (λ n. 9 * (n * lacked said (plum_state old)) + gossip_waiting old.gossip) links_are

        go : (o : Option (MsgId × List ℕ)) →
            turn.delivered ≡ o →
            sends_load turn.sends + core_load said before (Some new) + 1 ≤ came + core_load said before (Some old)
        go None none =
            let now : core_load said before (Some new) ≡ 9 * (member_count old.gossip * lacked said (plum_state new)) + gossip_waiting turn.gossip =
            whole_new in
            let then : core_load said before (Some old) ≡ 9 * (member_count old.gossip * lacked said (plum_state old)) + gossip_waiting old.gossip =
            whole_old in
            let less : sends_load turn.sends + gossip_waiting turn.gossip + 1 ≤ came + gossip_waiting old.gossip = turns.lighter.quiet none in
            let lacks : member_count old.gossip * lacked said (plum_state new) ≤ member_count old.gossip * lacked said (plum_state old) =
            grows (member_count old.gossip) (lacked said (plum_state new))
            (lacked said (plum_state old)) (lacks_less said (plum_state old) (plum_state new) keeps) in
            omega arith
        go (Some message) some =
            let now : core_load said before (Some new) ≡ 9 * (member_count old.gossip * lacked said (plum_state new)) + gossip_waiting turn.gossip =
            whole_new in
            let then : core_load said before (Some old) ≡ 9 * (member_count old.gossip * lacked said (plum_state old)) + gossip_waiting old.gossip =
            whole_old in
            let less : sends_load turn.sends + gossip_waiting turn.gossip + 1 ≤ came + gossip_waiting old.gossip + 9 * member_count old.gossip =
            turns.lighter.spreads message some in
            let given : ids entry.given ≡ message.0 ∷ [] = ap ids step.acts.stepped.delivers ∙ ap (λ o. ids (delivered_at old.me o)) some in
            let one : IsOneOf message.0 (ids entry.given) = subst (λ is. IsOneOf message.0 is) (sym given) (inl refl) in
            let has : (plum_state new).has message.0 ≡ true = (step.lawful.deliveries.grows message.0).1 (inr one) in
            let lacked_it : (plum_state old).has message.0 ≡ false = fresh entry.given step.lawful.deliveries.fresh message.0 one in
            let fewer : suc (lacked said (plum_state new)) ≤ lacked said (plum_state old) =
            lacks_one_less said (plum_state old) (plum_state new) message.0 keeps (were_said message.0 one) lacked_it has in
            let lacks : member_count old.gossip * suc (lacked said (plum_state new)) ≤ member_count old.gossip * lacked said (plum_state old) =
            grows (member_count old.gossip) (suc (lacked said (plum_state new))) (lacked said (plum_state old)) fewer in
            let more : member_count old.gossip * suc (lacked said (plum_state new))
            ≡ member_count old.gossip * lacked said (plum_state new) + member_count old.gossip =
            mul-suc (member_count old.gossip) (lacked said (plum_state new)) in
            omega arith
          where
            fresh : (given : List Delivery) →
                Each (λ (d : Delivery). (plum_state old).has d.id ≡ false) given →
                (id : MsgId) →
                IsOneOf id (ids given) →
                (plum_state old).has id ≡ false
            fresh [] h id one = absurd one
            fresh (d ∷ more) h id one = elim one [ inl here ↦ ap (plum_state old).has here ∙ h.0 | inr later ↦ fresh more h.1 id later ]

    -- so the load of the group is less
    pub load_less : (said : List MsgId) → ((id : MsgId) → IsOneOf id (ids entry.given) → IsOneOf id said) → load said after + 1 ≤ load said before
    load_less said were_said =
        let put : NodeState Plum = record step.acts.node { core = Some new } in
        let nodes : sum_by (λ (node : NodeState Plum). core_load said after node.core) after.nodes
        ≡ sum_by (λ (node : NodeState Plum). core_load said before node.core) (put_node put before.nodes) =
        ap (λ ns. sum_by (λ (node : NodeState Plum). core_load said after node.core) ns) step.acts.nodes
        ∙ same_sums (λ (node : NodeState Plum). core_load said after node.core)
        (λ (node : NodeState Plum). core_load said before node.core) (put_node put before.nodes) (λ node. same_load said node.core) in
        let changed : sum_by (λ (node : NodeState Plum). core_load said before node.core) (put_node put before.nodes)
        + core_load said before step.acts.node.core
        ≡ sum_by (λ (node : NodeState Plum). core_load said before node.core) before.nodes + core_load said before (Some new) =
        put_sum (λ (node : NodeState Plum). core_load said before node.core) put step.acts.node before.nodes
        (subst (λ n. node_of n before.nodes ≡ Some step.acts.node) named step.acts.known) in
        let was : core_load said before step.acts.node.core ≡ core_load said before (Some old) = ap (λ o. core_load said before o) step.acts.running in
        let flew : flying_weight weight after.sent after.flight + arriving weight name by
        ≡ flying_weight weight before.sent before.flight + sum_by weight (packets (origin_of step.acts.node) step.acts.sends) =
        flights plum_state frame_content IsSoundPlum PlumStarts PlumSteps laws limits past entry before after name by step are_sent weight in
        let flies_after : flying_load after ≡ flying_weight weight after.sent after.flight = flying_is after.sent after.flight in
        let flies_before : flying_load before ≡ flying_weight weight before.sent before.flight = flying_is before.sent before.flight in
        let sent : sum_by weight (packets (origin_of step.acts.node) step.acts.sends) ≡ sends_load turn.sends = sent_load in
        let came_is : arriving weight name by ≡ came = arrives in
        let lighter : sends_load turn.sends + core_load said before (Some new) + 1 ≤ came + core_load said before (Some old) = core_lighter said were_said in
        let all : load said after + 1 ≤ load said before = omega arith in
        all
