-- A step that takes a packet also sends silent packets: what such a step must satisfy. Proofs only; nothing here has
-- to be trusted.
use Rattle.std.specs.Prelude.{◌≡◌, ◌≢◌, ◌⊎◌, ◌+◌, ◌&&◌, ℕ, Bool, true, false, List, [], ◌∷◌, ◌++◌, Option}
use Rattle.std.specs.Prelude.{Some, None, is_some, not, nat_le, ◌==◌, count_by, refl, if◌then◌else◌}
use Rattle.std.specs.List.{AllByRecursion as Each}
use Rattle.std.proofs.Common.{inl, inr, sym, ◌∙◌, ap, add-zero}
use Rattle.std.proofs.lemmas.Bool.{false≢true}
use Rattle.node_names.specs.NodeName.{Name}
use Rattle.node_names.specs.Same.{same_id, same_name, has_name}
use Rattle.node_names.specs.declared.dice.Dice.{Dice}
use Rattle.node_names.specs.declared.ids.MsgId.{MsgId}
use Rattle.node_names.specs.declared.ids.Origin.{Origin}
use Rattle.protocol.specs.AskLaw.{AsksFor}
use Rattle.protocol.specs.CoreState.{CoreState}
use Rattle.protocol.specs.Delivery.{Delivery}
use Rattle.protocol.specs.DeliveryLaw.{ids}
use Rattle.protocol.specs.HoldLaw.{IsAskedBy, packets_with}
use Rattle.protocol.specs.Laws.{IsSilent, StepLaws}
use Rattle.protocol.specs.Lists.{IsOneOf}
use Rattle.protocol.specs.PayloadLaw.{IsKnownPayload}
use Rattle.protocol.specs.SpreadLaw.{GetsShare, entries_queued, is_carried, packets_carrying}
use Rattle.protocol.specs.Stimulus.{Stimulus}
use Rattle.protocol.specs.declared.stimulus.StimulusOf.TheVariants as on
use Rattle.missing.specs.Wants.{first_want}
use Rattle.frames.specs.Body.{Body}
use Rattle.frames.specs.Content.{frame_content}
use Rattle.frames.specs.Frame.{Frame}
use Rattle.peer_sets.specs.Members.{is_member}
use Rattle.gossip_core.specs.State.{GossipState}
use Rattle.gossip_core.specs.Table.{passed_by, shortcut}
use Rattle.node_core.specs.impl_proofs.Members.{count-append, counts_none, each-append}
use Rattle.node_core.specs.impl_proofs.Numbered.{each-numbered}
use Rattle.node_core.specs.impl_proofs.Resting.{carry_none, each_part}
use Rattle.node_core.specs.Steps.{numbered}

-- ---- the packets

-- Bodies after others are numbered after them.
pub record Behind (me : Origin) (framed : ℕ) (P : Name → Body → Type 0) (sends more : List (Name × Body)) : Type 0 where
  pub frames : List (Name × Frame)
  pub are : numbered me framed (sends ++ more) ≡ numbered me framed sends ++ frames
  pub each : Each (λ send. P send.0 send.1.body) frames

pub behind : (me : Origin) (framed : ℕ) (P : Name → Body → Type 0) (sends more : List (Name × Body)) →
    Each (λ send. P send.0 send.1) more →
    Behind me framed P sends more
behind me framed P [] more h = record { frames = numbered me framed more; are = refl; each = each-numbered me P framed more h }
behind me framed P (send ∷ sends) more h =
    let later : Behind me (framed + 1) P sends more = behind me (framed + 1) P sends more h in
    record {
      frames = later.frames;
      are = ap (λ frames. (send.0, record { sender = me; number = framed + 1; body = send.1 }) ∷ frames) later.are;
      each = later.each;
    }

-- what does not pass does not count
counts_same : {X : Type 0} (test : X → Bool) (xs ys : List X) → Each (λ y. test y ≡ false) ys → count_by test (xs ++ ys) ≡ count_by test xs
counts_same test xs ys none = count-append test xs ys ∙ ap (λ n. count_by test xs + n) (counts_none test ys none) ∙ add-zero (count_by test xs)

and_false : (b : Bool) → (b && false) ≡ false
and_false true = refl
and_false false = refl

each_carries_none : (id : MsgId) (test : Name → Bool) (more : List (Name × Frame)) →
    Each (λ send. IsSilent (frame_content send.1)) more →
    Each (λ send. (test send.0 && is_carried id (frame_content send.1).carried) ≡ false) more
each_carries_none id test [] h = tt
each_carries_none id test (send ∷ more) h =
    (ap (λ o. test send.0 && is_carried id o) h.0.carries_nothing ∙ and_false (test send.0), each_carries_none id test more h.1)

each_with_none : (id : MsgId) (more : List (Name × Frame)) →
    Each (λ send. IsSilent (frame_content send.1)) more →
    Each (λ send. is_carried id (frame_content send.1).carried ≡ false) more
each_with_none id [] h = tt
each_with_none id (send ∷ more) h = (ap (is_carried id) h.0.carries_nothing, each_with_none id more h.1)

-- ---- the laws

module _ (before after : CoreState) (sender : Origin) (frame : Frame) (dice : Dice) (sends more : List (Name × Frame)) (given : List Delivery)
    (silent : Each (λ send. IsSilent (frame_content send.1)) more) (to_others : Each (λ send. send.0 ≢ before.me.name) more) where
  abbrev stimulus : Stimulus Frame
  stimulus = on.Arrive sender frame dice

  carrying_same : (id : MsgId) (name : Name) → packets_carrying frame_content id name (sends ++ more) ≡ packets_carrying frame_content id name sends
  carrying_same id name =
      counts_same (λ (send : Name × Frame). same_name name send.0 && is_carried id (frame_content send.1).carried) sends more
      (each_carries_none id (same_name name) more silent)

  with_same : (id : MsgId) → packets_with frame_content id (sends ++ more) ≡ packets_with frame_content id sends
  with_same id = counts_same (λ (send : Name × Frame). is_carried id (frame_content send.1).carried) sends more (each_with_none id more silent)

  -- what holds of each packet that carries a message
  carried : (P : Name → MsgId → List ℕ → Type 0) →
      Each (λ send. (id : MsgId) (p : List ℕ) → (frame_content send.1).carried ≡ Some (id, p) → P send.0 id p) sends →
      Each (λ send. (id : MsgId) (p : List ℕ) → (frame_content send.1).carried ≡ Some (id, p) → P send.0 id p) (sends ++ more)
  carried P h =
      each-append (λ (send : Name × Frame). (id : MsgId) (p : List ℕ) → (frame_content send.1).carried ≡ Some (id, p) → P send.0 id p) sends more h
      (carry_none P more (each_part (λ (send : Name × Frame). IsSilent (frame_content send.1))
      (λ send. (frame_content send.1).carried ≡ None) (λ send s. s.carries_nothing) more silent))

  shares : (id : MsgId) (name : Name) → GetsShare frame_content stimulus sends after id name → GetsShare frame_content stimulus (sends ++ more) after id name
  shares id name share =
      record {
        one = λ member apart. ap (λ n. n + entries_queued id name after.queued) (carrying_same id name) ∙ share.one member apart;
        none_to_strangers = λ stranger. ap (λ n. n + entries_queued id name after.queued) (carrying_same id name) ∙ share.none_to_strangers stranger;
        none_back = λ back. ap (λ n. n + entries_queued id name after.queued) (carrying_same id name) ∙ share.none_back back;
      }

  -- an entry stays, or is removed for a reason
  abbrev Stays : List (Name × Frame) → MsgId × Name × ℕ → Type 0
  Stays packets entry =
      IsOneOf entry after.wants ⊎ IsOneOf entry.0 (ids given) ⊎ AsksFor frame_content stimulus packets entry.0 entry.1 ⊎ (has_name after.active entry.1 ≡ false)

  pub silent_besides : StepLaws frame_content before stimulus sends given after → StepLaws frame_content before stimulus (sends ++ more) given after
  silent_besides laws =
      record {
        identity = laws.identity;
        payloads =
            record {
              sent = carried (λ name id p. IsKnownPayload frame_content before stimulus id p) laws.payloads.sent;
              delivered = laws.payloads.delivered;
              held = laws.payloads.held;
              sender_has = carried (λ name id p. after.has id ≡ true) laws.payloads.sender_has;
            };
        deliveries = laws.deliveries;
        views = each-append (λ (send : Name × Frame). send.0 ≢ before.me.name) sends more laws.views to_others;
        spread =
            each_part (λ (d : Delivery). (name : Name) → GetsShare frame_content stimulus sends after d.id name)
            (λ d. (name : Name) → GetsShare frame_content stimulus (sends ++ more) after d.id name)
            (λ d share name. shares d.id name (share name))
            given laws.spread;
        queue =
            record {
              appears = laws.queue.appears;
              leaves = (
                each-append (λ (send : Name × Frame). (frame_content send.1).announced ≡ []) sends more laws.queue.leaves.0
                    (each_part (λ (send : Name × Frame). IsSilent (frame_content send.1))
                    (λ send. (frame_content send.1).announced ≡ []) (λ send s. s.announces_nothing) more silent),
                laws.queue.leaves.1,
              );
            };
        wants = laws.wants;
        asks =
            record {
              fires =
                  each-append (λ (send : Name × Frame). (frame_content send.1).asked ≡ None) sends more laws.asks.fires
                  (each_part (λ (send : Name × Frame). IsSilent (frame_content send.1))
                  (λ send. (frame_content send.1).asked ≡ None) (λ send s. s.asks_nothing) more silent);
              entry_stays = each_part (Stays sends) (Stays (sends ++ more)) stays before.wants laws.asks.entry_stays;
              timer_stays = laws.asks.timer_stays;
            };
        holds =
            record {
              answers = λ id name asked held. let one = laws.holds.answers id name asked held in (carrying_same id name ∙ one.0, with_same id ∙ one.1);
              only =
                  carried
                  (λ name id p. IsOneOf id (ids given) ⊎ (IsAskedBy frame_content stimulus id name × (is_some (before.payload id) ≡ true))) laws.holds.only;
            };
      }
    where
      stays : (entry : MsgId × Name × ℕ) → Stays sends entry → Stays (sends ++ more) entry
      stays entry (inl there) = inl there
      stays entry (inr (inl delivered)) = inr (inl delivered)
      stays entry (inr (inr (inl asks))) = absurd asks.0
      stays entry (inr (inr (inr gone))) = inr (inr (inr gone))

-- ---- the peer that takes the sender's place

-- the peer that announced a message first has an entry
pub first_stands : (id : MsgId) (wants : List (MsgId × Name × ℕ)) (first : Name × ℕ) →
    first_want id wants ≡ Some first →
    (j : MsgId) × IsOneOf (j, first.0, first.1) wants
first_stands id [] first none = absurd (false≢true (ap is_some none))
first_stands id (entry ∷ wants) first found = go (first_stands id wants first) (same_id id entry.0) found
  where
    inside : (x y : Name × ℕ) → Some x ≡ Some y → x ≡ y
    inside x y e = cc

    go : (first_want id wants ≡ Some first → (j : MsgId) × IsOneOf (j, first.0, first.1) wants) →
        (b : Bool) →
        (if b then Some (entry.1, entry.2) else first_want id wants) ≡ Some first →
        (j : MsgId) × IsOneOf (j, first.0, first.1) (entry ∷ wants)
    go rest true e =
        let same : (entry.1, entry.2) ≡ first = inside (entry.1, entry.2) first e in (entry.0, inl (λ i. (entry.0, (sym same i).0, (sym same i).1)))
    go rest false e = let later = rest e in (later.0, inr later.1)

-- and it takes the sender's place, if any peer does
pub shortcut_is_first : (g : GossipState) (sender : Name) (id : MsgId) (round : ℕ) (peer : Name) →
    shortcut g sender id round ≡ Some peer →
    (announced : ℕ) × (first_want id g.missing.wants ≡ Some (peer, announced))
shortcut_is_first g sender id round peer = tuned (g.threshold == 0)
  where
    none : None ≡ Some peer → ⊥
    none e = false≢true (ap is_some e)

    passed : (o : Option (Name × ℕ)) → passed_by g.threshold sender round o ≡ Some peer → (announced : ℕ) × (o ≡ Some (peer, announced))
    passed None e = absurd (none e)
    passed (Some first) e = go (not (same_name first.0 sender) && nat_le (first.1 + g.threshold) round) e
      where
        name_is : (x y : Name) → Some x ≡ Some y → x ≡ y
        name_is x y e = cc

        go : (b : Bool) → (if b then Some first.0 else None) ≡ Some peer → (announced : ℕ) × (Some first ≡ Some (peer, announced))
        go true e = let same : first.0 ≡ peer = name_is first.0 peer e in (first.1, λ i. Some (same i, first.1))
        go false e = absurd (none e)

    member : (b : Bool) →
        (if b then passed_by g.threshold sender round (first_want id g.missing.wants) else None) ≡ Some peer →
        (announced : ℕ) × (first_want id g.missing.wants ≡ Some (peer, announced))
    member true e = passed (first_want id g.missing.wants) e
    member false e = absurd (none e)

    tuned : (b : Bool) →
        (if b then None else if is_member g.peers.members sender then passed_by g.threshold sender round (first_want id g.missing.wants) else None)
        ≡ Some peer →
        (announced : ℕ) × (first_want id g.missing.wants ≡ Some (peer, announced))
    tuned true e = absurd (none e)
    tuned false e = member (is_member g.peers.members sender) e
