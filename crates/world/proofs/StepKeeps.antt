-- A step of a core keeps what runs keep.
use Rattle.std.proofs.Common.{◌≡◌, ◌∙◌, ◌+◌, ℕ, List, [], ◌∷◌, ◌++◌, true, false, sym, ap, refl, subst, inl, inr, arith}
use Rattle.std.specs.List.{AllByRecursion as Each}
use Rattle.std.specs.Prelude.{◌≢◌, ◌⊎◌, Bool, Option, Some, None, IfSome, cond}
use Rattle.std.proofs.lemmas.Bool.{false≢true}
use Rattle.node_names.specs.NodeName.{Name}
use Rattle.node_names.specs.Limits.{Limits}
use Rattle.node_names.specs.Same.{same_name, same_name-Decides}
use Rattle.node_names.specs.declared.ids.Incarnation.{Incarnation}
use Rattle.node_names.specs.declared.ids.MsgId.{MsgId}
use Rattle.node_names.specs.declared.ids.Origin.{Origin}
use Rattle.protocol.specs.Content.{Content}
use Rattle.protocol.specs.CoreState.{CoreState}
use Rattle.protocol.specs.Delivery.{Delivery}
use Rattle.protocol.specs.DeliveryLaw.{Delivers, DeliversNews, count_after, ids}
use Rattle.protocol.specs.impl_proofs.NameLists.{each-map}
use Rattle.protocol.specs.Laws.{StepLaws}
use Rattle.protocol.specs.PayloadLaw.{Brings, IsKnownPayload}
use Rattle.protocol.specs.Stimulus.{Stimulus, IsNotFrom}
use Rattle.protocol.specs.declared.stimulus.StimulusOf.TheVariants.{Broadcast, Arrive, Fire, Flush, Down, Shuffle, Join}
use Rattle.world.specs.Entry.{Entry}
use Rattle.world.specs.Group.{node_of, put_node, origin_of, packets}
use Rattle.world.specs.History.{Said, Delivered, HasDelivery, broadcasts_of, counted_by, deliveries, incarnation_of, started_by}
use Rattle.world.specs.Honest.{Once}
use Rattle.world.specs.declared.node_state.NodeState.{NodeState}
use Rattle.world.specs.declared.packet.Packet.{Packet}
use Rattle.world.proofs.FindLemmas.{each-put_node, found_name, put_cases}
use Rattle.world.proofs.GivenLemmas.{given_either, given_fresh, given_here, given_id, once-append, once_few}
use Rattle.world.proofs.Kept.{IsStarted, Keeps, KeepsCore, KeepsPacket, each-append, each-both, each-weaken, highest_of, highest_of-found, highest_of-put}

-- The entry is of an event that is this stimulus to the core of the name: it starts nothing, counts as the core does,
-- and what it brings is said by then.
pub record IsStepOf {N : Type 0} (content : N → Content) (before : CoreState) (name : Name) (stimulus : Stimulus N) (entry : Entry) (past : List Entry) :
    Type 0 where
  pub starts_none : (other : Name) (last : Option Incarnation) → started_by other entry.event last ≡ last
  pub counts : (n : ℕ) → counted_by name entry.event n ≡ count_after n stimulus
  pub counts_no_other : (other : Name) (n : ℕ) → (other ≡ name → ⊥) → counted_by other entry.event n ≡ n
  pub from_other : IsNotFrom name stimulus
  pub brings : (id : MsgId) (p : List ℕ) → Brings content before stimulus id p → Said (entry ∷ past) id p

-- a step delivers at most one message
pub few : {N : Type 0} (content : N → Content) (before : CoreState) (stimulus : Stimulus N) (xs : List MsgId) →
    Delivers content before stimulus xs →
    (xs ≡ []) ⊎ ((id : MsgId) × (xs ≡ id ∷ []))
few content before (Broadcast payload) xs e = inr (record { origin = before.me; seq = before.count + 1 }, e)
few content before (Arrive sender note dice) xs e = few_news (content note).carried e
  where
    few_news : (o : Option (MsgId × List ℕ)) → DeliversNews before o xs → (xs ≡ []) ⊎ ((id : MsgId) × (xs ≡ id ∷ []))
    few_news None none = inl none
    few_news (Some carried) news = elim news [ inl new ↦ inr (carried.0, new.1) | inr old ↦ inl old.1 ]
few content before (Fire id) xs e = inl e
few content before Flush xs e = inl e
few content before (Down peer dice) xs e = inl e
few content before (Shuffle dice) xs e = inl e
few content before (Join contact) xs e = inl e

-- a node in the place of one of the same name and incarnation leaves the last incarnations
pub highest_stays : {C : Type 0} (other : Name) (node found : NodeState C) (nodes : List (NodeState C)) →
    node_of node.name nodes ≡ Some found →
    found.highest ≡ node.highest →
    highest_of other (put_node node nodes) ≡ highest_of other nodes
highest_stays {C} other node found nodes known same = highest_of-put other node nodes ∙ go (same_name other node.name) refl
  where
    go : (b : Bool) → same_name other node.name ≡ b → cond b (Some node.highest) (highest_of other nodes) ≡ highest_of other nodes
    go false is = refl
    go true is =
        let here : other ≡ node.name = (same_name-Decides other node.name).0 is in
        sym (ap (λ name. highest_of name nodes) here ∙ highest_of-found node.name nodes found known ∙ ap Some same)

module _
    {C N : Type 0}
    (state : C → CoreState)
    (content : N → Content)
    (is_sound : Limits → C → Type 0)
    (limits : Limits)
    (past : List Entry)
    (entry : Entry)
    (nodes : List (NodeState C))
    (sent : List (Packet N))
    (node : NodeState C)
    (old new : C)
    (stimulus : Stimulus N)
    (sends : List (Name × N))
    (kept : Keeps state content is_sound limits past nodes sent)
    (known : node_of node.name nodes ≡ Some node)
    (core : KeepsCore state is_sound limits past node old)
    (law : StepLaws content (state old) stimulus sends entry.given (state new))
    (step : IsStepOf content (state old) node.name stimulus entry past)
    (sound : is_sound limits new)
  where
    -- what was held or came with the step was said by then
    known_said : (id : MsgId) (p : List ℕ) → IsKnownPayload content (state old) stimulus id p → Said (entry ∷ past) id p
    known_said id p h = elim h [ inl held ↦ inr (core.holds id p held) | inr brought ↦ step.brings id p brought ]

    -- the core of the step
    core_stepped : KeepsCore state is_sound limits (entry ∷ past) (record node { core = Some new }) new
    core_stepped =
        record {
          sound = sound;
          is_me = law.identity ∙ core.is_me;
          counts = law.deliveries.counted ∙ sym (step.counts (state old).count) ∙ ap (λ n. counted_by node.name entry.event n) core.counts;
          holds = λ id p e. known_said id p (law.payloads.held id p e);
          has = λ id d. elim (given_either (deliveries past) entry.given (state new).me id d) [
            | inl before ↦ (law.deliveries.grows id).1 (inl (core.has id (subst (λ me. HasDelivery (deliveries past) me id) law.identity before)))
            | inr now ↦ (law.deliveries.grows id).1 (inr (given_id entry.given (state new).me id now))
          ];
        }

    -- a core of another name
    core_stays : (found : NodeState C) (other : C) →
        (found.name ≡ node.name → ⊥) →
        KeepsCore state is_sound limits past found other →
        KeepsCore state is_sound limits (entry ∷ past) found other
    core_stays found other differs before =
        record {
          sound = before.sound;
          is_me = before.is_me;
          counts = before.counts ∙ sym (step.counts_no_other found.name (broadcasts_of found.name past) differs);
          holds = λ id p e. inr (before.holds id p e);
          has = λ id d. elim (given_either (deliveries past) entry.given (state other).me id d) [
            | inl earlier ↦ before.has id earlier
            | inr now ↦
                let here : (state other).me ≡ (state old).me = given_here (state old).me entry.given (state other).me id law.deliveries.here now in
                absurd (differs (ap (λ (o : Origin). o.name) (sym before.is_me ∙ here ∙ core.is_me)))
          ];
        }

    -- every core
    cores_step : (name : Name) (found : NodeState C) (other : C) →
        node_of name (put_node (record node { core = Some new }) nodes) ≡ Some found →
        found.core ≡ Some other →
        KeepsCore state is_sound limits (entry ∷ past) found other
    cores_step name found other at runs =
        elim (put_cases name (record node { core = Some new }) found nodes at) [
          | inl here ↦
              subst (λ (n : NodeState C). n.core ≡ Some other → KeepsCore state is_sound limits (entry ∷ past) n other) here.1
              (λ e.
              let same : Some new ≡ Some other = e in
              let is : new ≡ other = cc in subst (λ k. KeepsCore state is_sound limits (entry ∷ past) (record node { core = Some new }) k) is core_stepped)
              runs
          | inr there ↦ core_stays found other (λ e. there.0 (found_name name nodes found there.1 ∙ e)) (kept.cores name found other there.1 runs)
        ]

    -- every packet
    packets_step : Each (λ packet. KeepsPacket content (entry ∷ past) packet) (sent ++ packets (origin_of node) sends)
    packets_step =
        each-append (λ packet. KeepsPacket content (entry ∷ past) packet) sent (packets (origin_of node) sends)
        (each-weaken (λ packet. KeepsPacket content past packet) (λ packet. KeepsPacket content (entry ∷ past) packet) sent
        (λ packet h. record { from_other = h.from_other; carries = λ id p e. inr (h.carries id p e) }) kept.packets)
        (each-map (λ (send : Name × N). record { sender = origin_of node; to = send.0; note = send.1 })
        (λ packet. KeepsPacket content (entry ∷ past) packet) sends
        (each-both (λ send. send.0 ≢ (state old).me.name)
        (λ send. (id : MsgId) (p : List ℕ) → (content send.1).carried ≡ Some (id, p) → IsKnownPayload content (state old) stimulus id p)
        (λ send. KeepsPacket content (entry ∷ past) (record { sender = origin_of node; to = send.0; note = send.1 }))
        sends
        (λ send away carried. record {
          from_other = λ e. away (sym e ∙ ap (λ (o : Origin). o.name) (sym core.is_me));
          carries = λ id p e. known_said id p (carried id p e);
        })
        law.views law.payloads.sent))

    -- whoever delivered was started
    below_step : (origin : Origin) (id : MsgId) → Delivered (entry ∷ past) origin id → IsStarted (entry ∷ past) origin
    below_step origin id d =
        elim (given_either (deliveries past) entry.given origin id d) [
          | inl before ↦
              let was : IsStarted past origin = kept.below origin id before in
              record { last = was.last; started = step.starts_none origin.name (incarnation_of origin.name past) ∙ was.started; not_later = was.not_later }
          | inr now ↦
              let here : origin_of node ≡ origin = sym (given_here (state old).me entry.given origin id law.deliveries.here now ∙ core.is_me) in
              subst (λ o. IsStarted (entry ∷ past) o) here (record {
                last = node.highest;
                started =
                    step.starts_none node.name (incarnation_of node.name past) ∙ sym (kept.highest node.name) ∙ highest_of-found node.name nodes node known;
                not_later = omega arith;
              })
        ]

    -- nothing is delivered twice
    once_step : Once (entry ∷ past)
    once_step =
        once-append (deliveries past) entry.given kept.once (once_few entry.given (few content (state old) stimulus (ids entry.given) law.deliveries.exact))
        (λ origin id before now.
        let here : origin ≡ (state old).me = given_here (state old).me entry.given origin id law.deliveries.here now in
        let had : (state old).has id ≡ true = core.has id (subst (λ o. HasDelivery (deliveries past) o id) here before) in
        let lacked : (state old).has id ≡ false = given_fresh (state old).has entry.given origin id law.deliveries.fresh now in
        false≢true (sym lacked ∙ had))

    -- all together
    pub step_keeps : Keeps state content is_sound limits (entry ∷ past)
        (put_node (record node { core = Some new }) nodes) (sent ++ packets (origin_of node) sends)
    step_keeps =
        record {
          highest =
              λ name. highest_stays name (record node { core = Some new }) node nodes known refl
              ∙ kept.highest name
              ∙ sym (step.starts_none name (incarnation_of name past));
          cores = cores_step;
          sound = each-put_node (λ (n : NodeState C). IfSome n.core (λ k. is_sound limits k)) (record node { core = Some new }) nodes kept.sound sound;
          packets = packets_step;
          below = below_step;
          honest = (
            each-weaken (λ (d : Delivery). IsKnownPayload content (state old) stimulus d.id d.payload)
                (λ (d : Delivery). Said (entry ∷ past) d.id d.payload) entry.given (λ d h. known_said d.id d.payload h) law.payloads.delivered,
            kept.honest,
          );
          once = once_step;
        }
