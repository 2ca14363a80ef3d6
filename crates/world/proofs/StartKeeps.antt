-- A start keeps what runs keep.
use Rattle.std.proofs.Common.{◌≡◌, ◌∙◌, ◌<◌, ◌≤◌, ℕ, List, [], ◌∷◌, ◌++◌, true, false, sym, ap, refl, subst, inl, inr, arith}
use Rattle.std.specs.List.{AllByRecursion as Each}
use Rattle.std.specs.Prelude.{◌≢◌, Bool, Option, Some, None, IfSome, cond}
use Rattle.node_names.specs.NodeName.{Name}
use Rattle.node_names.specs.Limits.{Limits}
use Rattle.node_names.specs.Same.{same_name, same_name-Decides}
use Rattle.node_names.specs.declared.ids.Incarnation.{Incarnation}
use Rattle.node_names.specs.declared.ids.MsgId.{MsgId}
use Rattle.node_names.specs.declared.ids.Origin.{Origin}
use Rattle.protocol.specs.Content.{Content}
use Rattle.protocol.specs.CoreState.{CoreState}
use Rattle.protocol.specs.Delivery.{Delivery}
use Rattle.protocol.specs.impl_proofs.NameLists.{each-map}
use Rattle.protocol.specs.Laws.{IsSilent, StartLaws}
use Rattle.world.specs.Entry.{Entry}
use Rattle.world.specs.Group.{node_of, put_node, packets}
use Rattle.world.specs.History.{Said, Delivered, HasDelivery, broadcasts_of, counted_by, deliveries, incarnation_of, started_by}
use Rattle.world.specs.Honest.{AreOnce, Once}
use Rattle.world.specs.declared.node_state.NodeState.{NodeState}
use Rattle.world.specs.declared.packet.Packet.{Packet}
use Rattle.world.proofs.FindLemmas.{each-put_node, found_name, name_is, put_cases, tells_apart}
use Rattle.world.proofs.GivenLemmas.{given_either, once-append}
use Rattle.world.proofs.Kept.{IsStarted, Keeps, KeepsCore, KeepsPacket, each-append, each-both, each-weaken, greater_than-last, highest_of, highest_of-put}

-- an entry that gives nothing adds no delivery
pub delivered_before : (past : List Entry) (entry : Entry) (origin : Origin) (id : MsgId) →
    entry.given ≡ [] →
    Delivered (entry ∷ past) origin id →
    Delivered past origin id
delivered_before past entry origin id none d =
    elim (given_either (deliveries past) entry.given origin id d) [
      | inl before ↦ before
      | inr now ↦ let no : HasDelivery [] origin id = subst (λ ds. HasDelivery ds origin id) none now in absurd no
    ]

-- so what was delivered once stays so
pub once_before : (past : List Entry) (entry : Entry) → entry.given ≡ [] → Once past → Once (entry ∷ past)
once_before past entry none once =
    once-append (deliveries past) entry.given once (subst (λ ds. AreOnce ds) (sym none) tt)
    (λ origin id before now. let no : HasDelivery [] origin id = subst (λ ds. HasDelivery ds origin id) none now in absurd no)

-- and what is said of each of its deliveries holds
pub each_given : (P : Delivery → Type 0) (given : List Delivery) → given ≡ [] → Each P given
each_given P given none = subst (λ ds. Each P ds) (sym none) tt

module _
    {C N : Type 0}
    (state : C → CoreState)
    (content : N → Content)
    (is_sound : Limits → C → Type 0)
    (limits : Limits)
    (past : List Entry)
    (entry : Entry)
    (nodes : List (NodeState C))
    (sent : List (Packet N))
    (me : Origin)
    (peers : List Name)
    (new : C)
    (sends : List (Name × N))
    (kept : Keeps state content is_sound limits past nodes sent)
    (fresh : IfSome (node_of me.name nodes) (λ node. node.highest.0 < me.incarnation.0))
    (law : StartLaws content me peers sends (state new))
    (sound : is_sound limits new)
    (none : entry.given ≡ [])
    (begins : (other : Name) (last : Option Incarnation) → started_by other entry.event last ≡ cond (same_name other me.name) (Some me.incarnation) last)
    (resets : (other : Name) (n : ℕ) → counted_by other entry.event n ≡ cond (same_name other me.name) 0 n)
  where
    -- the last start before was of a smaller incarnation
    greater : (last : Incarnation) → incarnation_of me.name past ≡ Some last → last.0 < me.incarnation.0
    greater = greater_than-last me.name me.incarnation nodes past (kept.highest me.name) fresh

    -- so the new run delivered nothing yet
    nothing_yet : (id : MsgId) → Delivered past me id → ⊥
    nothing_yet id d =
        let was : IsStarted past me = kept.below me id d in
        let later : me.incarnation.0 ≤ was.last.0 = was.not_later in
        let less : was.last.0 < me.incarnation.0 = greater was.last was.started in
        absurd (omega arith)

    -- the core of the start
    core_started : KeepsCore state is_sound limits (entry ∷ past) (record { name = me.name; highest = me.incarnation; core = Some new }) new
    core_started =
        record {
          sound = sound;
          is_me = law.is_me;
          counts = law.counts_nothing ∙ sym (resets me.name (broadcasts_of me.name past) ∙ ap (λ b. cond b 0 (broadcasts_of me.name past)) (name_is me.name));
          holds = λ id p e. let no : None ≡ Some p = sym (law.holds_nothing id) ∙ e in cc;
          has = λ id d. absurd (nothing_yet id (subst (λ o. Delivered past o id) law.is_me (delivered_before past entry (state new).me id none d)));
        }

    -- a core of another name
    core_waits : (found : NodeState C) (other : C) →
        (found.name ≡ me.name → ⊥) →
        KeepsCore state is_sound limits past found other →
        KeepsCore state is_sound limits (entry ∷ past) found other
    core_waits found other differs before =
        record {
          sound = before.sound;
          is_me = before.is_me;
          counts =
              before.counts
              ∙ sym
              (resets found.name (broadcasts_of found.name past) ∙ ap (λ b. cond b 0 (broadcasts_of found.name past)) (tells_apart found.name me.name differs));
          holds = λ id p e. inr (before.holds id p e);
          has = λ id d. before.has id (delivered_before past entry (state other).me id none d);
        }

    -- every core
    cores_start : (name : Name) (found : NodeState C) (other : C) →
        node_of name (put_node (record { name = me.name; highest = me.incarnation; core = Some new }) nodes) ≡ Some found →
        found.core ≡ Some other →
        KeepsCore state is_sound limits (entry ∷ past) found other
    cores_start name found other at runs =
        elim (put_cases name (record { name = me.name; highest = me.incarnation; core = Some new }) found nodes at) [
          | inl here ↦
              subst (λ (n : NodeState C). n.core ≡ Some other → KeepsCore state is_sound limits (entry ∷ past) n other) here.1
              (λ e.
              let same : Some new ≡ Some other = e in
              let is : new ≡ other = cc in
              subst
              (λ k. KeepsCore state is_sound limits (entry ∷ past) (record { name = me.name; highest = me.incarnation; core = Some new }) k) is core_started)
              runs
          | inr there ↦ core_waits found other (λ e. there.0 (found_name name nodes found there.1 ∙ e)) (kept.cores name found other there.1 runs)
        ]

    -- every packet
    packets_start : Each (λ packet. KeepsPacket content (entry ∷ past) packet) (sent ++ packets me sends)
    packets_start =
        each-append (λ packet. KeepsPacket content (entry ∷ past) packet) sent (packets me sends)
        (each-weaken (λ packet. KeepsPacket content past packet) (λ packet. KeepsPacket content (entry ∷ past) packet) sent
        (λ packet h. record { from_other = h.from_other; carries = λ id p e. inr (h.carries id p e) }) kept.packets)
        (each-map (λ (send : Name × N). record { sender = me; to = send.0; note = send.1 }) (λ packet. KeepsPacket content (entry ∷ past) packet) sends
        (each-both (λ send. send.0 ≢ me.name) (λ send. IsSilent (content send.1))
        (λ send. KeepsPacket content (entry ∷ past) (record { sender = me; to = send.0; note = send.1 })) sends
        (λ send away silent. record { from_other = λ e. away (sym e); carries = λ id p e. let no : None ≡ Some (id, p) = sym silent.carries_nothing ∙ e in cc })
        law.sends_to_others law.sends_silent))

    -- whoever delivered was started, and is not later than the new start
    below_start : (origin : Origin) (id : MsgId) → Delivered (entry ∷ past) origin id → IsStarted (entry ∷ past) origin
    below_start origin id d = go (same_name origin.name me.name) refl (kept.below origin id (delivered_before past entry origin id none d))
      where
        go : (b : Bool) → same_name origin.name me.name ≡ b → IsStarted past origin → IsStarted (entry ∷ past) origin
        go true is was =
            let here : origin.name ≡ me.name = (same_name-Decides origin.name me.name).0 is in
            let less : was.last.0 < me.incarnation.0 = greater was.last (subst (λ name. incarnation_of name past ≡ Some was.last) here was.started) in
            let earlier : origin.incarnation.0 ≤ was.last.0 = was.not_later in
            record {
              last = me.incarnation;
              started = begins origin.name (incarnation_of origin.name past) ∙ ap (λ b. cond b (Some me.incarnation) (incarnation_of origin.name past)) is;
              not_later = omega arith;
            }
        go false is was = record {
          last = was.last;
          started =
              begins origin.name (incarnation_of origin.name past) ∙ ap (λ b. cond b (Some me.incarnation) (incarnation_of origin.name past)) is ∙ was.started;
          not_later = was.not_later;
        }

    -- the last start of each name
    highest_start : (name : Name) →
        highest_of name (put_node (record { name = me.name; highest = me.incarnation; core = Some new }) nodes) ≡ incarnation_of name (entry ∷ past)
    highest_start name =
        highest_of-put name (record { name = me.name; highest = me.incarnation; core = Some new }) nodes
        ∙ ap (λ last. cond (same_name name me.name) (Some me.incarnation) last) (kept.highest name)
        ∙ sym (begins name (incarnation_of name past))

    -- all together
    pub start_keeps : Keeps state content is_sound limits (entry ∷ past)
        (put_node (record { name = me.name; highest = me.incarnation; core = Some new }) nodes) (sent ++ packets me sends)
    start_keeps =
        record {
          highest = highest_start;
          cores = cores_start;
          sound =
              each-put_node (λ (n : NodeState C). IfSome n.core (λ k. is_sound limits k))
              (record { name = me.name; highest = me.incarnation; core = Some new }) nodes kept.sound sound;
          packets = packets_start;
          below = below_start;
          honest = (each_given (λ (d : Delivery). Said (entry ∷ past) d.id d.payload) entry.given none, kept.honest);
          once = once_before past entry none kept.once;
        }
