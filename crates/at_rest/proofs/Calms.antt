-- An event of the settling of a calm group leaves it calm.
use Rattle.std.proofs.Common.{◌≡◌, ◌∙◌, ◌+◌, ◌<◌, ℕ, suc, List, [], ◌∷◌, ◌++◌, length, true, false, sym, ap, refl, subst, inl, inr, arith}
use Rattle.std.specs.List.{AllByRecursion as Each}
use Rattle.std.specs.Option.{IfSome}
use Rattle.std.specs.Prelude.{◌⊎◌, Bool, Option, Some, None, slice_get}
use Rattle.std.proofs.lemmas.Bool.{false≢true}
use Rattle.std.proofs.lemmas.List.{length-map}
use Rattle.node_names.specs.NodeName.{Name}
use Rattle.node_names.specs.Limits.{Limits}
use Rattle.node_names.specs.Same.{has_name, same_name, same_name-Decides}
use Rattle.protocol.specs.Laws.{Laws}
use Rattle.protocol.specs.Lists.{IsOneOf, places}
use Rattle.protocol.specs.Stimulus.{Stimulus}
use Rattle.protocol.proofs.Segments.{get_left}
use Rattle.world.specs.Entry.{Entry}
use Rattle.world.specs.Group.{Group, node_of, origin_of, packets}
use Rattle.world.specs.Links.{IsRunning, IsSymmetric, Linked, Runs}
use Rattle.world.specs.declared.node_state.NodeState.{NodeState}
use Rattle.world.specs.declared.packet.Packet.{Packet}
use Rattle.world.proofs.FindLemmas.{found_name, name_is, put_cases, put_other, put_same, tells_apart}
use Rattle.world.proofs.Steps.{IsStep}
use Rattle.world.proofs.Weights.{AreSent}
use Rattle.frames.specs.Body.{Body}
use Rattle.frames.specs.Content.{frame_content}
use Rattle.frames.specs.Frame.{Frame}
use Rattle.peer_sets.proofs.MemberLemmas.{is_member-names}
use Rattle.node_core.specs.Plum.{IsSoundPlum, Plum, plum_state}
use Rattle.node_core.specs.Steps.{PlumStarts, PlumSteps, Turned, gone_on, numbered, turned}
use Rattle.at_rest.specs.Calm.{IsCalm, IsCalmPacket}
use Rattle.at_rest.proofs.Receivers.{GoRight}
use Rattle.at_rest.proofs.Turning.{TurnsLighter}

-- ---- lists

-- what holds of whatever is one of a list holds of each
each_of_one : {X : Type 0} (P : X → Type 0) (xs : List X) → ((x : X) → IsOneOf x xs → P x) → Each P xs
each_of_one P [] all = tt
each_of_one P (x ∷ xs) all = (all x (inl refl), each_of_one P xs (λ y one. all y (inr one)))

one_of_each : {X : Type 0} (P : X → Type 0) (xs : List X) (x : X) → Each P xs → IsOneOf x xs → P x
one_of_each P [] x h one = absurd one
one_of_each P (y ∷ ys) x h one = elim one [ inl here ↦ subst P (sym here) h.0 | inr later ↦ one_of_each P ys x h.1 later ]

each_joined : {X : Type 0} (P : X → Type 0) (xs ys : List X) → Each P xs → Each P ys → Each P (xs ++ ys)
each_joined P [] ys h k = k
each_joined P (x ∷ xs) ys h k = (h.0, each_joined P xs ys h.1 k)

-- what holds of each of a list holds at each of its places in another
at_places : {X : Type 0} (P : X → Type 0) (all rest : List X) (from : ℕ) →
    ((k : ℕ) → slice_get all (from + k) ≡ slice_get rest k) →
    Each P rest →
    Each (λ number. IfSome (slice_get all number) P) (places from (length rest))
at_places P all [] from there h = tt
at_places P all (x ∷ rest) from there h =
    let at : from + 0 ≡ from = omega arith in
    let here : slice_get all from ≡ Some x = ap (λ n. slice_get all n) (sym at) ∙ there 0 in (
      subst (λ o. IfSome o P) (sym here) h.0,
      at_places P all rest (suc from) (λ k. let next : suc from + k ≡ from + suc k = omega arith in ap (λ n. slice_get all n) next ∙ there (suc k)) h.1,
    )

-- behind a list stands what was appended
get_behind : {X : Type 0} (xs ys : List X) (k : ℕ) → slice_get (xs ++ ys) (length xs + k) ≡ slice_get ys k
get_behind [] ys k = let e : 0 + k ≡ k = omega arith in ap (λ n. slice_get ys n) e
get_behind (x ∷ xs) ys k =
    let e : length (x ∷ xs) + k ≡ suc (length xs + k) = omega arith in
    ap (λ n. slice_get (x ∷ (xs ++ ys)) n) e ∙ get_behind xs ys k

module _
    (limits : Limits)
    (laws : Laws plum_state frame_content IsSoundPlum PlumStarts PlumSteps)
    (past : List Entry)
    (entry : Entry)
    (before after : Group Plum Frame)
    (name : Name)
    (by : Stimulus Frame)
    (step : IsStep plum_state frame_content IsSoundPlum PlumStarts PlumSteps laws limits past entry before after name by)
    (are_sent : AreSent before.sent before.flight)
    (calm : IsCalm plum_state frame_content before)
    (came : ℕ)
    (asker : Option Name)
    (asker_runs : (other : Name) → asker ≡ Some other → IsRunning before other)
    (turns : TurnsLighter came asker step.acts.old.membership step.acts.old.gossip (turned step.acts.old.me step.acts.old.membership step.acts.old.gossip by))
  where
    abbrev old : Plum
    old = step.acts.old

    abbrev new : Plum
    new = step.acts.new

    abbrev turn : Turned
    turn = turned old.me old.membership old.gossip by

    named : name ≡ step.acts.node.name
    named = found_name name before.nodes step.acts.node step.acts.known

    is_here : same_name name step.acts.node.name ≡ true
    is_here = subst (λ n. same_name name n ≡ true) named (name_is name)

    runs_old : Runs before name old
    runs_old = (step.acts.node, step.acts.known, step.acts.running)

    runs_new : Runs after name new
    runs_new = (
      record step.acts.node { core = Some new },
      subst (λ ns. node_of name ns ≡ Some (record step.acts.node { core = Some new })) (sym step.acts.nodes)
          (put_same name (record step.acts.node { core = Some new }) before.nodes is_here),
      refl,
    )

    -- another core runs on
    runs_on : (other : Name) (core : Plum) → (other ≡ name → ⊥) → Runs before other core → Runs after other core
    runs_on other core differs runs = (
      runs.0,
      subst (λ ns. node_of other ns ≡ Some runs.0) (sym step.acts.nodes)
          (put_other other (record step.acts.node { core = Some new }) before.nodes (tells_apart other step.acts.node.name (λ e. differs (e ∙ sym named)))
          ∙ runs.1),
      runs.2,
    )

    -- a core that runs afterwards is the one that stepped, or ran before
    ran : (other : Name) (core : Plum) → Runs after other core → ((other ≡ name) × (new ≡ core)) ⊎ ((other ≡ name → ⊥) × Runs before other core)
    ran other core runs =
        elim (put_cases other (record step.acts.node { core = Some new }) runs.0 before.nodes
        (subst (λ ns. node_of other ns ≡ Some runs.0) step.acts.nodes runs.1)) [
          | inl here ↦ inl (here.0 ∙ sym named, (let e : Some new ≡ Some core = ap (λ (n : NodeState Plum). n.core) here.1 ∙ runs.2 in cc))
          | inr there ↦ inr ((λ e. there.0 (e ∙ named)), (runs.0, there.1, runs.2))
        ]

    -- the same names run
    runs_still : (other : Name) → IsRunning before other → IsRunning after other
    runs_still other running = go (same_name other name) refl
      where
        go : (b : Bool) → same_name other name ≡ b → IsRunning after other
        go true is = (new, subst (λ n. Runs after n new) (sym ((same_name-Decides other name).0 is)) runs_new)
        go false is = (running.0, runs_on other running.0 (λ e. false≢true (sym is ∙ (same_name-Decides other name).1 e)) running.1)

    ran_before : (other : Name) → IsRunning after other → IsRunning before other
    ran_before other running =
        elim (ran other running.0 running.1) [
          | inl here ↦ (old, subst (λ n. Runs before n old) (sym here.0) runs_old)
          | inr there ↦ (running.0, there.1)
        ]

    -- the view of the core stays
    new_is : new ≡ gone_on old turn
    new_is = step.acts.stepped.leaves

    pub same_active : (plum_state new).active ≡ (plum_state old).active
    same_active = ap (λ (c : Plum). (plum_state c).active) new_is ∙ ap (λ m. m.views.active) turns.views_stay

    -- so the same names are linked
    linked_before : (one two : Name) → Linked plum_state after one two → Linked plum_state before one two
    linked_before one two link =
        elim (ran one link.0 link.1) [
          | inl here ↦ (
            old,
            subst (λ n. Runs before n old) (sym here.0) runs_old,
            subst (λ ns. has_name ns two ≡ true) same_active (subst (λ (c : Plum). has_name (plum_state c).active two ≡ true) (sym here.1) link.2),
            ran_before two link.3,
          )
          | inr there ↦ (link.0, there.1, link.2, ran_before two link.3)
        ]

    linked_after : (one two : Name) → Linked plum_state before one two → Linked plum_state after one two
    linked_after one two link = go (same_name one name) refl
      where
        go : (b : Bool) → same_name one name ≡ b → Linked plum_state after one two
        go true is =
            let here : one ≡ name = (same_name-Decides one name).0 is in
            let same : Some link.1.0 ≡ Some step.acts.node =
            sym link.1.1 ∙ subst (λ n. node_of n before.nodes ≡ Some step.acts.node) (sym here) step.acts.known in
            let node : link.1.0 ≡ step.acts.node = cc in
            let cores : Some link.0 ≡ Some old = sym link.1.2 ∙ ap (λ (n : NodeState Plum). n.core) node ∙ step.acts.running in
            let core : link.0 ≡ old = cc in (
              new,
              subst (λ n. Runs after n new) (sym here) runs_new,
              subst (λ ns. has_name ns two ≡ true) (sym same_active) (subst (λ (c : Plum). has_name (plum_state c).active two ≡ true) core link.2),
              runs_still two link.3,
            )
        go false is = (link.0, runs_on one link.0 (λ e. false≢true (sym is ∙ (same_name-Decides one name).1 e)) link.1, link.2, runs_still two link.3)

    symmetric_after : IsSymmetric plum_state after
    symmetric_after =
        record {
          both_ways = λ one two. (
            (λ link. linked_after two one ((calm.symmetric.both_ways one two).0 (linked_before one two link))),
            (λ link. linked_after one two ((calm.symmetric.both_ways one two).1 (linked_before two one link))),
          );
          members_run = λ one two core runs member. runs_still two (elim (ran one core runs) [
            | inl here ↦
                calm.symmetric.members_run name two old runs_old
                (subst (λ ns. has_name ns two ≡ true) same_active (subst (λ (c : Plum). has_name (plum_state c).active two ≡ true) (sym here.1) member))
            | inr there ↦ calm.symmetric.members_run one two core there.1 member
          ]);
        }

    -- a packet that was calm is calm
    calm_still : (packet : Packet Frame) → IsCalmPacket frame_content before packet → IsCalmPacket frame_content after packet
    calm_still packet is = record {
      broadcasts = is.broadcasts;
      arrives = runs_still packet.to is.arrives;
      is_answered = λ asks. runs_still packet.sender.name (is.is_answered asks);
    }

    -- what is sent is calm
    sends_calm : (framed : ℕ) (sends : List (Name × Body)) →
        GoRight old.gossip asker sends →
        Each (λ packet. IsCalmPacket frame_content after packet) (packets (origin_of step.acts.node) (numbered old.me framed sends))
    sends_calm framed [] right = tt
    sends_calm framed (send ∷ sends) right = (
      record {
        broadcasts = right.0.about_messages;
        arrives = runs_still send.0 (elim right.0.receiver [
          | inl member ↦
              calm.symmetric.members_run name send.0 old runs_old
              (subst (λ ns. has_name ns send.0 ≡ true) step.core.sound.members (sym (is_member-names old.gossip.peers.members send.0) ∙ member))
          | inr asked ↦ asker_runs send.0 asked
        ]);
        is_answered = λ asks. (new, subst (λ n. Runs after n new) named runs_new);
      },
      sends_calm (framed + 1) sends right.1,
    )

    -- so the group is calm afterwards
    pub calm_after : IsCalm plum_state frame_content after
    calm_after =
        record {
          packets =
              subst (λ ps. Each (λ number. IfSome (slice_get ps number) (λ packet. IsCalmPacket frame_content after packet)) after.flight)
              (sym step.acts.sending.sent)
              (subst (λ ks. Each (λ number.
              IfSome (slice_get (before.sent ++ packets (origin_of step.acts.node) step.acts.sends) number) (λ packet. IsCalmPacket frame_content after packet))
              ks) (sym step.acts.sending.flight)
              (each_joined _ step.staying (places (length before.sent) (length step.acts.sends)) stays sends));
          symmetric = symmetric_after;
        }
      where
        more : List (Packet Frame)
        more = packets (origin_of step.acts.node) step.acts.sends

        stays : Each (λ number. IfSome (slice_get (before.sent ++ packets (origin_of step.acts.node) step.acts.sends) number)
            (λ packet. IsCalmPacket frame_content after packet))
            step.staying
        stays = each_of_one _ step.staying (λ number one. (
            let flew : IsOneOf number before.flight = step.stayed number one in
            let within : number < length before.sent = one_of_each (λ n. n < length before.sent) before.flight number are_sent flew in
            let was : IfSome (slice_get before.sent number) (λ packet. IsCalmPacket frame_content before packet) =
            one_of_each (λ n. IfSome (slice_get before.sent n) (λ packet. IsCalmPacket frame_content before packet)) before.flight number calm.packets flew in
            subst (λ o. IfSome o (λ packet. IsCalmPacket frame_content after packet))
            (sym (get_left before.sent (packets (origin_of step.acts.node) step.acts.sends) number within)) (weaker (slice_get before.sent number) was)))
          where
            weaker : (o : Option (Packet Frame)) →
                IfSome o (λ packet. IsCalmPacket frame_content before packet) →
                IfSome o (λ packet. IsCalmPacket frame_content after packet)
            weaker None h = h
            weaker (Some packet) h = calm_still packet h

        sends : Each (λ number. IfSome (slice_get (before.sent ++ packets (origin_of step.acts.node) step.acts.sends) number)
            (λ packet. IsCalmPacket frame_content after packet))
            (places (length before.sent) (length step.acts.sends))
        sends =
            subst (λ n. Each (λ number. IfSome (slice_get (before.sent ++ packets (origin_of step.acts.node) step.acts.sends) number)
            (λ packet. IsCalmPacket frame_content after packet)) (places (length before.sent) n))
            (length-map step.acts.sends (λ (send : Name × Frame). record { sender = origin_of step.acts.node; to = send.0; note = send.1 }))
            (at_places (λ packet. IsCalmPacket frame_content after packet)
            (before.sent ++ packets (origin_of step.acts.node) step.acts.sends)
            (packets (origin_of step.acts.node) step.acts.sends)
            (length before.sent)
            (get_behind before.sent (packets (origin_of step.acts.node) step.acts.sends))
            (subst (λ ss. Each (λ packet. IsCalmPacket frame_content after packet) (packets (origin_of step.acts.node) ss))
            (sym step.acts.stepped.sent) (sends_calm old.framed turn.sends turns.right)))
