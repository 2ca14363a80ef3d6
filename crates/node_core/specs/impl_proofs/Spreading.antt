-- A message is delivered and forwarded: what such a step must satisfy. Proofs only; nothing here has to be trusted.
use Rattle.std.specs.Prelude.{◌≡◌, ◌≢◌, ◌⊎◌, ◌+◌, ◌&&◌, ◌||◌, ℕ, Bool, true, false, not, cond, List}
use Rattle.std.specs.Prelude.{[], ◌∷◌, ◌++◌, Option, Some, None, is_some, map, filter, count_by, refl}
use Rattle.std.specs.FinSet as set
use Rattle.std.specs.List.{AllByRecursion as Each, IsDistinct}
use Rattle.std.specs.Map.{keys_of, lookup}
use Rattle.std.specs.Ordering.{eq_by_cmp}
use Rattle.std.proofs.Common.{inl, inr, sym, ◌∙◌, ap, subst, zero-add, arith}
use Rattle.std.proofs.lemmas.Bool.{false≢true, true≢false}
use Rattle.std.proofs.lemmas.List.Sums.{sum_by-cons}
use Rattle.node_names.specs.NodeName.{Name}
use Rattle.node_names.specs.Order.{id_cmp}
use Rattle.node_names.specs.Same.{same_id, same_id-Decides, same_name, same_name-Decides, has_name, is_left_out}
use Rattle.node_names.specs.declared.ids.MsgId.{MsgId}
use Rattle.node_names.specs.declared.ids.Origin.{Origin}
use Rattle.protocol.specs.AskLaw.{Fires, AsksNothing}
use Rattle.protocol.specs.CoreState.{CoreState}
use Rattle.protocol.specs.Delivery.{Delivery}
use Rattle.protocol.specs.DeliveryLaw.{Delivers, count_after}
use Rattle.protocol.specs.impl_proofs.NameLists.{each-map, each-all}
use Rattle.protocol.specs.impl_proofs.Held.{found_after_push, same_inside, same_id-refl}
use Rattle.protocol.specs.HoldLaw.{IsAskedBy}
use Rattle.protocol.specs.Laws.{StepLaws}
use Rattle.protocol.specs.Lists.{IsOneOf}
use Rattle.protocol.specs.PayloadLaw.{Brings, IsKnownPayload}
use Rattle.protocol.specs.QueueLaw.{FlushesQueue, AnnouncesNothing, KeepsQueue}
use Rattle.protocol.specs.SpreadLaw.{GetsShare, packets_carrying, entries_queued, is_carried, is_from}
use Rattle.protocol.specs.Stimulus.{Stimulus}
use Rattle.protocol.specs.ViewLaw.{ViewLaw}
use Rattle.protocol.specs.WantLaw.{Announces}
use Rattle.frames.specs.Body.{Body}
use Rattle.frames.specs.Content.{body_content, frame_content}
use Rattle.frames.specs.Frame.{Frame}
use Rattle.known_messages.specs.Held.{kept_last}
use Rattle.peer_sets.specs.Members.{names, is_eager_kind, eager_but, lazy_but}
use Rattle.peer_sets.specs.Queue.{with_entries, is_queued}
use Rattle.peer_sets.specs.declared.members.PeerKind.{PeerKind}
use Rattle.peer_sets.specs.declared.members.PeerKind.TheVariants.{Eager, Lazy}
use Rattle.gossip_core.proofs.IdOrder.{id_ties, id_total}
use Rattle.gossip_core.specs.State.{GossipState}
use Rattle.gossip_core.specs.Table.{gossip_to}
use Rattle.node_core.specs.impl_proofs.Keeping.{found_kept, once_pushed}
use Rattle.node_core.specs.impl_proofs.Members.{of_each, each_one, one_of_left, one_of_append, one_of_map, counts_once, counts_none, count-append}
use Rattle.node_core.specs.impl_proofs.Numbered.{each-numbered, carrying-numbered}
use Rattle.node_core.specs.Plum.{IsWhole, state_with}
use Rattle.node_core.specs.Steps.{numbered}
use Rattle.node_core.specs.impl_proofs.Whole.{not_held}

-- ---- which members get a packet, and which an entry

-- among the packets to these names, a name gets one for each time that it is there
carries_to_each : (id : MsgId) (round : ℕ) (payload : List ℕ) (name : Name) (receivers : List Name) →
    packets_carrying body_content id name (map (gossip_to id round payload) receivers) ≡ count_by (same_name name) receivers
carries_to_each id round payload name [] = refl
carries_to_each id round payload name (other ∷ receivers) =
    sum_by-cons (λ (send : Name × Body). cond (same_name name send.0 && is_carried id (body_content send.1).carried) 1 0)
    (gossip_to id round payload other) (map (gossip_to id round payload) receivers)
    ∙ ap (λ b. cond (same_name name other && b) 1 0 + packets_carrying body_content id name (map (gossip_to id round payload) receivers)) (same_id-refl id)
    ∙ ap (λ b. cond b 1 0 + packets_carrying body_content id name (map (gossip_to id round payload) receivers)) (and_true (same_name name other))
    ∙ ap (λ n. cond (same_name name other) 1 0 + n) (carries_to_each id round payload name receivers)
    ∙ sym (sum_by-cons (λ x. cond (same_name name x) 1 0) other receivers)
  where
    and_true : (b : Bool) → (b && true) ≡ b
    and_true true = refl
    and_true false = refl

-- and of the entries for these names likewise
queued_for_each : (id : MsgId) (round : ℕ) (name : Name) (receivers : List Name) →
    entries_queued id name (map (λ peer. (peer, id, round)) receivers) ≡ count_by (same_name name) receivers
queued_for_each id round name [] = refl
queued_for_each id round name (other ∷ receivers) =
    sum_by-cons (λ (entry : Name × MsgId × ℕ). cond (same_name name entry.0 && same_id id entry.1) 1 0)
    (other, id, round) (map (λ peer. (peer, id, round)) receivers)
    ∙ ap (λ b. cond (same_name name other && b) 1 0 + entries_queued id name (map (λ peer. (peer, id, round)) receivers)) (same_id-refl id)
    ∙ ap (λ b. cond b 1 0 + entries_queued id name (map (λ peer. (peer, id, round)) receivers)) (and_true (same_name name other))
    ∙ ap (λ n. cond (same_name name other) 1 0 + n) (queued_for_each id round name receivers)
    ∙ sym (sum_by-cons (λ x. cond (same_name name x) 1 0) other receivers)
  where
    and_true : (b : Bool) → (b && true) ≡ b
    and_true true = refl
    and_true false = refl

-- a name is among the eager and the lazy members but one as often as among the members, unless it is that one
split_count : (left_out : Option Name) (name : Name) (members : List (Name × PeerKind)) →
    count_by (same_name name) (eager_but left_out members) + count_by (same_name name) (lazy_but left_out members)
    ≡ cond (is_left_out left_out name) 0 (count_by (same_name name) (names members))
split_count left_out name [] = go (is_left_out left_out name)
  where
    go : (b : Bool) → ◌≡◌ {A = ℕ} (0 + 0) (cond b 0 0)
    go true = refl
    go false = refl
split_count left_out name (member ∷ members) =
    go member.1 (is_left_out left_out member.0) (same_name name member.0) (is_left_out left_out name) refl same_left (split_count left_out name members)
  where
    same_left : same_name name member.0 ≡ true → is_left_out left_out name ≡ is_left_out left_out member.0
    same_left same = ap (is_left_out left_out) ((same_name-Decides name member.0).0 same)

    eager : List Name
    eager = eager_but left_out members

    lazy : List Name
    lazy = lazy_but left_out members

    Count : PeerKind → Bool → Bool → Type 0
    Count kind out left =
        count_by (same_name name) (names (cond (is_eager_kind kind && not out)
        ((member.0, kind) ∷ filter (λ m. is_eager_kind m.1 && not (is_left_out left_out m.0)) members)
        (filter (λ m. is_eager_kind m.1 && not (is_left_out left_out m.0)) members)))
        + count_by (same_name name) (names (cond (not (is_eager_kind kind) && not out)
        ((member.0, kind) ∷ filter (λ m. not (is_eager_kind m.1) && not (is_left_out left_out m.0)) members)
        (filter (λ m. not (is_eager_kind m.1) && not (is_left_out left_out m.0)) members)))
        ≡ cond left 0 (count_by (same_name name) (member.0 ∷ names members))

    one_more : (xs : List Name) → count_by (same_name name) (member.0 ∷ xs) ≡ cond (same_name name member.0) 1 0 + count_by (same_name name) xs
    one_more xs = sum_by-cons (λ x. cond (same_name name x) 1 0) member.0 xs

    -- the member is left out
    out_stays : (same left : Bool) →
        same_name name member.0 ≡ same →
        (same ≡ true → left ≡ true) →
        count_by (same_name name) eager + count_by (same_name name) lazy ≡ cond left 0 (count_by (same_name name) (names members)) →
        count_by (same_name name) eager + count_by (same_name name) lazy ≡ cond left 0 (count_by (same_name name) (member.0 ∷ names members))
    out_stays same true is e later = later
    out_stays true false is e later = absurd (false≢true (e refl))
    out_stays false false is e later =
        later
        ∙ sym
        (one_more (names members) ∙ ap (λ b. cond b 1 0 + count_by (same_name name) (names members)) is ∙ zero-add (count_by (same_name name) (names members)))

    -- the member is counted
    counted_more : (same left : Bool) →
        same_name name member.0 ≡ same →
        (same ≡ true → left ≡ false) →
        (n : ℕ) →
        n ≡ cond left 0 (count_by (same_name name) (names members)) →
        cond (same_name name member.0) 1 0 + n ≡ cond left 0 (count_by (same_name name) (member.0 ∷ names members))
    counted_more true true is e n later = absurd (true≢false (e refl))
    counted_more false true is e n later = ap (λ b. cond b 1 0 + n) is ∙ zero-add n ∙ later
    counted_more same false is e n later = ap (λ m. cond (same_name name member.0) 1 0 + m) later ∙ sym (one_more (names members))

    go : (kind : PeerKind) (out same left : Bool) →
        same_name name member.0 ≡ same →
        (same_name name member.0 ≡ true → left ≡ out) →
        count_by (same_name name) eager + count_by (same_name name) lazy ≡ cond left 0 (count_by (same_name name) (names members)) →
        Count kind out left
    go Eager true same left is e later = out_stays same left is (λ s. e (is ∙ s)) later
    go Lazy true same left is e later = out_stays same left is (λ s. e (is ∙ s)) later
    go Eager false same left is e later =
        ap (λ n. n + count_by (same_name name) lazy) (one_more eager)
        ∙ regroup (cond (same_name name member.0) 1 0) (count_by (same_name name) eager) (count_by (same_name name) lazy)
        ∙ counted_more same left is (λ s. e (is ∙ s)) (count_by (same_name name) eager + count_by (same_name name) lazy) later
      where
        regroup : (a b c : ℕ) → (a + b) + c ≡ a + (b + c)
        regroup a b c = omega arith
    go Lazy false same left is e later =
        ap (λ n. count_by (same_name name) eager + n) (one_more lazy)
        ∙ regroup (cond (same_name name member.0) 1 0) (count_by (same_name name) eager) (count_by (same_name name) lazy)
        ∙ counted_more same left is (λ s. e (is ∙ s)) (count_by (same_name name) eager + count_by (same_name name) lazy) later
      where
        regroup : (a b c : ℕ) → b + (a + c) ≡ a + (b + c)
        regroup a b c = omega arith

-- ---- a message that is not known

module _
    (g : GossipState)
    (whole : IsWhole g)
    (active passive : List Name)
    (members : names g.peers.members ≡ active)
    (me : Origin)
    (others : has_name active g.me.name ≡ false)
    (framed : ℕ)
    (id : MsgId)
    (lacked : set.contains g.known id ≡ false)
    (left_out : Option Name)
    (round : ℕ)
    (payload : List ℕ) where
  receivers : List Name
  receivers = lazy_but left_out g.peers.members

  -- nothing waits for it
  none_queued : (name : Name) → entries_queued id name g.peers.queued ≡ 0
  none_queued name =
      counts_none (λ (entry : Name × MsgId × ℕ). same_name name entry.0 && same_id id entry.1) g.peers.queued (each_one _ g.peers.queued
      (λ entry h. go entry (same_id id entry.1) refl (of_each (λ e. set.contains g.known e.1 ≡ true) g.peers.queued entry whole.queued_is_known h)))
    where
      and_false : (b : Bool) → (b && false) ≡ false
      and_false true = refl
      and_false false = refl

      go : (entry : Name × MsgId × ℕ) (b : Bool) →
          same_id id entry.1 ≡ b →
          set.contains g.known entry.1 ≡ true →
          (same_name name entry.0 && same_id id entry.1) ≡ false
      go entry true same known = absurd (true≢false (sym known ∙ ap (set.contains g.known) (sym ((same_id-Decides id entry.1).0 same)) ∙ lacked))
      go entry false same known = ap (λ b. same_name name entry.0 && b) same ∙ and_false (same_name name entry.0)

  -- so no entry stands in the way of another
  free : (peer : Name) → is_queued peer id g.peers.queued ≡ false
  free peer = go g.peers.queued whole.queued_is_known
    where
      go : (queued : List (Name × MsgId × ℕ)) → Each (λ entry. set.contains g.known entry.1 ≡ true) queued → is_queued peer id queued ≡ false
      go [] h = refl
      go (entry ∷ queued) h = one (go queued h.1) (same_id id entry.1) refl
        where
          and_false : (b : Bool) → (b && false) ≡ false
          and_false true = refl
          and_false false = refl

          one : is_queued peer id queued ≡ false →
              (b : Bool) →
              same_id id entry.1 ≡ b →
              (same_name peer entry.0 && same_id id entry.1 || is_queued peer id queued) ≡ false
          one rest true same = absurd (true≢false (sym h.0 ∙ ap (set.contains g.known) (sym ((same_id-Decides id entry.1).0 same)) ∙ lacked))
          one rest false same =
              ap (λ b. same_name peer entry.0 && b || is_queued peer id queued) same
              ∙ ap (λ b. b || is_queued peer id queued) (and_false (same_name peer entry.0))
              ∙ rest

  all_free : (peers : List Name) → filter (λ peer. not (is_queued peer id g.peers.queued)) peers ≡ peers
  all_free [] = refl
  all_free (peer ∷ peers) =
      ap (λ b. cond (not b) (peer ∷ filter (λ p. not (is_queued p id g.peers.queued)) peers) (filter (λ p. not (is_queued p id g.peers.queued)) peers))
      (free peer)
      ∙ ap (λ ps. peer ∷ ps) (all_free peers)

  -- the queue gets an entry for each lazy member except `left_out`
  abbrev pub queue_now : List (Name × MsgId × ℕ)
  queue_now = with_entries (lazy_but left_out g.peers.members) id round g.peers.queued

  queue_is : with_entries (lazy_but left_out g.peers.members) id round g.peers.queued
      ≡ g.peers.queued ++ map (λ peer. (peer, id, round)) (lazy_but left_out g.peers.members)
  queue_is = ap (λ ps. g.peers.queued ++ map (λ peer. (peer, id, round)) ps) (all_free (lazy_but left_out g.peers.members))

  abbrev pub bodies : List (Name × Body)
  bodies = map (gossip_to id round payload) (eager_but left_out g.peers.members)

  -- each member except `left_out` gets a packet or an entry
  share : (name : Name) →
      packets_carrying frame_content id name (numbered me framed bodies) + entries_queued id name queue_now
      ≡ cond (is_left_out left_out name) 0 (cond (has_name active name) 1 0)
  share name =
      ap (λ n. n + entries_queued id name queue_now)
      (carrying-numbered me id name framed bodies ∙ carries_to_each id round payload name (eager_but left_out g.peers.members))
      ∙ ap (λ n. count_by (same_name name) (eager_but left_out g.peers.members) + n) entries
      ∙ split_count left_out name g.peers.members
      ∙ ap (λ n. cond (is_left_out left_out name) 0 n)
      (ap (count_by (same_name name)) members ∙ counts_once name active (subst (IsDistinct same_name) members whole.peers.distinct))
    where
      entries : entries_queued id name queue_now ≡ count_by (same_name name) (lazy_but left_out g.peers.members)
      entries =
          ap (entries_queued id name) queue_is
          ∙ count-append (λ (entry : Name × MsgId × ℕ). same_name name entry.0 && same_id id entry.1) g.peers.queued
          (map (λ peer. (peer, id, round)) (lazy_but left_out g.peers.members))
          ∙ ap (λ n. n + entries_queued id name (map (λ peer. (peer, id, round)) (lazy_but left_out g.peers.members))) (none_queued name)
          ∙ zero-add (entries_queued id name (map (λ peer. (peer, id, round)) (lazy_but left_out g.peers.members)))
          ∙ queued_for_each id round name (lazy_but left_out g.peers.members)

  -- ---- what is known then

  known_now : (j : MsgId) → set.contains (set.insert g.known id) j ≡ true → (set.contains g.known j ≡ true) ⊎ (j ≡ id)
  known_now j is = go (eq_by_cmp id_cmp j id) (set.contains g.known j) refl refl (sym (set.contains-insert id_total g.known id j) ∙ is)
    where
      go : (new was : Bool) → eq_by_cmp id_cmp j id ≡ new → set.contains g.known j ≡ was → (new || was) ≡ true → (set.contains g.known j ≡ true) ⊎ (j ≡ id)
      go true was is_new is_was e = inr ((same_id-Decides j id).0 (id_ties j id ∙ is_new))
      go false was is_new is_was e = inl (is_was ∙ e)

  stays_known : (j : MsgId) → set.contains g.known j ≡ true → set.contains (set.insert g.known id) j ≡ true
  stays_known j is = set.contains-insert id_total g.known id j ∙ ap (λ b. eq_by_cmp id_cmp j id || b) is ∙ or_true (eq_by_cmp id_cmp j id)
    where
      or_true : (b : Bool) → (b || true) ≡ true
      or_true true = refl
      or_true false = refl

  is_known : set.contains (set.insert g.known id) id ≡ true
  is_known = set.contains-insert id_total g.known id id ∙ ap (λ b. b || set.contains g.known id) (sym (id_ties id id) ∙ same_id-refl id)

  -- each packet carries the message
  each_carries : (P : Name → MsgId → List ℕ → Type 0) →
      ((peer : Name) → P peer id payload) →
      Each (λ (send : Name × Frame). (j : MsgId) (q : List ℕ) → (frame_content send.1).carried ≡ Some (j, q) → P send.0 j q) (numbered me framed bodies)
  each_carries P all =
      each-numbered me (λ to body. (j : MsgId) (q : List ℕ) → (body_content body).carried ≡ Some (j, q) → P to j q) framed bodies
      (each-map (gossip_to id round payload)
      (λ send. (j : MsgId) (q : List ℕ) → (body_content send.1).carried ≡ Some (j, q) → P send.0 j q) (eager_but left_out g.peers.members)
      (each-all (λ peer. (j : MsgId) (q : List ℕ) → Some (id, payload) ≡ Some (j, q) → P peer j q)
      (λ peer j q e. subst (λ (m : MsgId × List ℕ). P peer m.0 m.1) (same_inside (id, payload) (j, q) e) (all peer)) (eager_but left_out g.peers.members)))

  -- and nothing else
  each_sent : (P : Name → Body → Type 0) →
      ((peer : Name) → P peer (gossip_to id round payload peer).1) →
      Each (λ (send : Name × Frame). P send.0 send.1.body) (numbered me framed bodies)
  each_sent P all =
      each-numbered me P framed bodies (each-map (gossip_to id round payload)
      (λ send. P send.0 send.1)
      (eager_but left_out g.peers.members)
      (each-all (λ peer. P peer (gossip_to id round payload peer).1) all (eager_but left_out g.peers.members)))

  eager_are_active : Each (λ peer. has_name active peer ≡ true) (eager_but left_out g.peers.members)
  eager_are_active = each_one _ (eager_but left_out g.peers.members) (λ peer h. subst (λ ns. has_name ns peer ≡ true) members (go g.peers.members peer h))
    where
      go : (ms : List (Name × PeerKind)) (peer : Name) → IsOneOf peer (eager_but left_out ms) → has_name (names ms) peer ≡ true
      go [] peer none = absurd none
      go (m ∷ ms) peer h = one (go ms peer) (is_eager_kind m.1 && not (is_left_out left_out m.0)) h
        where
          or_true : (b : Bool) → (b || true) ≡ true
          or_true true = refl
          or_true false = refl

          one : (IsOneOf peer (eager_but left_out ms) → has_name (names ms) peer ≡ true) →
              (b : Bool) →
              IsOneOf peer (names (cond b (m ∷ filter (λ k. is_eager_kind k.1 && not (is_left_out left_out k.0)) ms)
              (filter (λ k. is_eager_kind k.1 && not (is_left_out left_out k.0)) ms))) →
              (same_name peer m.0 || has_name (names ms) peer) ≡ true
          one rest true (inl same) = ap (λ b. b || has_name (names ms) peer) ((same_name-Decides peer m.0).1 same)
          one rest true (inr later) = ap (λ b. same_name peer m.0 || b) (rest later) ∙ or_true (same_name peer m.0)
          one rest false later = ap (λ b. same_name peer m.0 || b) (rest later) ∙ or_true (same_name peer m.0)

  module _ (wants : List (MsgId × Name × ℕ)) (timers : List MsgId) (count : ℕ) (stimulus : Stimulus Frame) where
    abbrev before : CoreState
    before = state_with active passive g

    abbrev after : CoreState
    after = record (state_with active passive g) {
      has = set.contains (set.insert g.known id);
      payload = λ j. lookup (same_id j) (kept_last g.keep (g.held ++ (id, payload) ∷ []));
      held = keys_of (kept_last g.keep (g.held ++ (id, payload) ∷ []));
      queued = queue_now;
      wants = wants;
      timers = timers;
      count = count;
    }

    abbrev given : List Delivery
    given = record { node = me; id = id; payload = payload } ∷ []

    pub spreads_lawfully :
        g.me ≡ me
        → Brings frame_content before stimulus id payload
        → Delivers frame_content before stimulus (id ∷ [])
        → count ≡ count_after g.spent stimulus
        → ((name : Name) → is_from name stimulus ≡ is_left_out left_out name)
        → (AnnouncesNothing frame_content (numbered me framed bodies) × KeepsQueue before after
        → FlushesQueue frame_content before stimulus (numbered me framed bodies) after)
        → (AsksNothing frame_content (numbered me framed bodies) → Fires frame_content before stimulus (numbered me framed bodies) after)
        → ((name : Name) (j : MsgId) (r : ℕ) → Announces frame_content stimulus name j r → ⊥)
        → ((j : MsgId) (name : Name) → IsAskedBy frame_content stimulus j name → ⊥)
        → ((entry : MsgId × Name × ℕ) → IsOneOf entry wants → IsOneOf entry g.missing.wants)
        → ((entry : MsgId × Name × ℕ) → IsOneOf entry g.missing.wants → IsOneOf entry wants ⊎ (entry.0 ≡ id))
        → ((j : MsgId) → IsOneOf j timers → IsOneOf j g.missing.timers)
        → ((j : MsgId) → IsOneOf j g.missing.timers → IsOneOf j timers ⊎ (j ≡ id))
        → StepLaws frame_content before stimulus (numbered me framed bodies) given after
    spreads_lawfully its brings exact counted from flushes fires announces asks fewer_wants kept_wants fewer_timers kept_timers =
        record {
          identity = refl;
          payloads =
              record {
                sent = each_carries (λ peer j q. IsKnownPayload frame_content before stimulus j q) (λ peer. inr brings);
                delivered = (inr brings, tt);
                held =
                    λ j q e. elim (found_after_push g.held id payload j q
                    (found_kept g.keep (g.held ++ (id, payload) ∷ []) (once_pushed g.held id payload whole.held_once (not_held g whole id lacked)) j q e)) [
                      | inl was ↦ inl was
                      | inr same ↦
                          inr (subst (λ k. Brings frame_content before stimulus k q) (sym same.0)
                          (subst (Brings frame_content before stimulus id) (sym same.1) brings))
                    ];
                sender_has = each_carries (λ peer j q. set.contains (set.insert g.known id) j ≡ true) (λ peer. is_known);
              };
          deliveries =
              record {
                exact = exact;
                here = (sym its, tt);
                fresh = (lacked, tt);
                grows = λ j. (grown j, known j);
                counted = counted;
              };
          views = views;
          spread = (gets, tt);
          queue =
              record {
                appears = each_one _ queue_now appears;
                leaves = flushes (
                  each_sent (λ peer body. (body_content body).announced ≡ []) (λ peer. refl),
                  each_one _ g.peers.queued (λ entry h. inl (subst (IsOneOf entry) (sym queue_is)
                      (one_of_left entry g.peers.queued (map (λ peer. (peer, id, round)) (lazy_but left_out g.peers.members)) h))),
                );
              };
          wants =
              record {
                taken = λ name j r a. absurd (announces name j r a);
                appears = each_one _ wants (λ entry h. inl (fewer_wants entry h));
                arms = each_one _ timers (λ j h. inl (fewer_timers j h));
              };
          asks =
              record {
                fires = fires (each_sent (λ peer body. (body_content body).asked ≡ None) (λ peer. refl));
                entry_stays = each_one _ g.missing.wants (λ entry h. elim (kept_wants entry h) [ inl stays ↦ inl stays | inr same ↦ inr (inl (inl same)) ]);
                timer_stays = each_one _ g.missing.timers (λ j h. elim (kept_timers j h) [ inl stays ↦ inl stays | inr same ↦ inr (inl (inl same)) ]);
              };
          holds =
              record {
                answers = λ j name a. absurd (asks j name a);
                only =
                    each_carries (λ peer j q. IsOneOf j (id ∷ []) ⊎ (IsAskedBy frame_content stimulus j peer × (is_some (lookup (same_id j) g.held) ≡ true)))
                    (λ peer. inl (inl refl));
              };
        }
      where
        grown : (j : MsgId) → set.contains (set.insert g.known id) j ≡ true → (set.contains g.known j ≡ true) ⊎ IsOneOf j (id ∷ [])
        grown j is = elim (known_now j is) [ inl was ↦ inl was | inr same ↦ inr (inl same) ]

        known : (j : MsgId) → (set.contains g.known j ≡ true) ⊎ IsOneOf j (id ∷ []) → set.contains (set.insert g.known id) j ≡ true
        known j (inl was) = stays_known j was
        known j (inr (inl same)) = subst (λ k. set.contains (set.insert g.known id) k ≡ true) (sym same) is_known
        known j (inr (inr none)) = absurd none

        views : ViewLaw before (numbered me framed bodies)
        views =
            each-numbered me (λ to body. to ≢ g.me.name) framed bodies
            (each-map (gossip_to id round payload) (λ send. send.0 ≢ g.me.name) (eager_but left_out g.peers.members) (each_one _
            (eager_but left_out g.peers.members)
            (λ peer h. apart peer (of_each (λ p. has_name active p ≡ true) (eager_but left_out g.peers.members) peer eager_are_active h))))
          where
            apart : (peer : Name) → has_name active peer ≡ true → peer ≢ g.me.name
            apart peer is same = true≢false (sym is ∙ ap (has_name active) same ∙ others)

        appears : (entry : Name × MsgId × ℕ) → IsOneOf entry queue_now → IsOneOf entry g.peers.queued ⊎ IsOneOf entry.1 (id ∷ [])
        appears entry h =
            elim (one_of_append entry g.peers.queued (map (λ peer. (peer, id, round)) (lazy_but left_out g.peers.members)) (subst (IsOneOf entry) queue_is h)) [
              | inl was ↦ inl was
              | inr new ↦
                  let found : (peer : Name) × IsOneOf peer (lazy_but left_out g.peers.members) × (entry ≡ (peer, id, round)) =
                  one_of_map (λ peer. (peer, id, round)) entry (lazy_but left_out g.peers.members) new in
                  inr (inl (ap (λ (x : Name × MsgId × ℕ). x.1) found.2))
            ]

        gets : (name : Name) → GetsShare frame_content stimulus (numbered me framed bodies) after id name
        gets name =
            record {
              one = λ member not_from. share name ∙ sent_to (is_left_out left_out name) (has_name active name) (sym (from name) ∙ not_from) member;
              none_to_strangers = λ stranger. share name ∙ not_to_strangers (is_left_out left_out name) (has_name active name) stranger;
              none_back = λ back. share name ∙ not_back (is_left_out left_out name) (has_name active name) (sym (from name) ∙ back);
            }
          where
            sent_to : (left has : Bool) → left ≡ false → has ≡ true → ◌≡◌ {A = ℕ} (cond left 0 (cond has 1 0)) 1
            sent_to true has l h = absurd (true≢false l)
            sent_to false true l h = refl
            sent_to false false l h = absurd (false≢true h)

            not_to_strangers : (left has : Bool) → has ≡ false → ◌≡◌ {A = ℕ} (cond left 0 (cond has 1 0)) 0
            not_to_strangers true has h = refl
            not_to_strangers false true h = absurd (true≢false h)
            not_to_strangers false false h = refl

            not_back : (left has : Bool) → left ≡ true → ◌≡◌ {A = ℕ} (cond left 0 (cond has 1 0)) 0
            not_back true has l = refl
            not_back false has l = absurd (false≢true l)
