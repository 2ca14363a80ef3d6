-- The queue is announced: what such a step must satisfy. Proofs only; nothing here has to be trusted.
use Rattle.std.specs.Prelude.{◌≡◌, ◌≢◌, ◌+◌, ◌≤◌, ◌<◌, ◌&&◌, ◌||◌, ◌==◌, ℕ, zero, suc, Bool, true, false, not, cond}
use Rattle.std.specs.Prelude.{List, [], ◌∷◌, ◌++◌, Some, None, map, filter, take, drop, length, refl, if◌then◌else◌}
use Rattle.std.specs.List.{AllByRecursion as Each, IsDistinct, flat_map}
use Rattle.std.proofs.Common.{inl, sym, ◌∙◌, ap, zero-add, add-zero, arith, length-drop}
use Rattle.std.proofs.lemmas.Bool.{true≢false}
use Rattle.std.proofs.lemmas.List.{take-append-drop}
use Rattle.std.proofs.lemmas.List.Sums.{sum_by-cons}
use Rattle.std.proofs.lemmas.Map.Keys.{IsDistinct-tail}
use Rattle.std.proofs.lemmas.Map.Views.{any-filter_same}
use Rattle.node_names.specs.NodeName.{Name}
use Rattle.node_names.specs.Same.{same_id, same_name, same_name-Decides, has_name}
use Rattle.node_names.specs.declared.ids.MsgId.{MsgId}
use Rattle.node_names.specs.declared.ids.Origin.{Origin}
use Rattle.protocol.specs.CoreState.{CoreState}
use Rattle.protocol.specs.impl_proofs.NameLists.{each-filter, distinct-filter}
use Rattle.protocol.specs.Laws.{StepLaws}
use Rattle.protocol.specs.QueueLaw.{times_announced, times_queued}
use Rattle.protocol.specs.QueueLaw as law
use Rattle.protocol.specs.declared.stimulus.StimulusOf.TheVariants as on
use Rattle.frames.specs.Body.{Body}
use Rattle.frames.specs.Content.{body_content, frame_content}
use Rattle.frames.specs.Frame.{Frame}
use Rattle.frames.specs.declared.TheConstants.{MAX_ANNOUNCEMENTS}
use Rattle.frames.specs.declared.body.BodyOf.TheVariants.{IHave}
use Rattle.peer_sets.specs.Members.{names, is_member}
use Rattle.peer_sets.specs.Queue.{waiting_for, receivers}
use Rattle.peer_sets.proofs.MemberLemmas.{is_member-names}
use Rattle.gossip_core.proofs.PacketLemmas.{packets_to-step}
use Rattle.gossip_core.specs.Announcements.{packets_to, announcements, in_frames}
use Rattle.gossip_core.specs.State.{GossipState}
use Rattle.node_core.specs.impl_proofs.Members.{each_one, of_each, each-append, count-append, lacks_the_first, differs}
use Rattle.node_core.specs.impl_proofs.Numbered.{each-numbered, announced-numbered}
use Rattle.node_core.specs.Plum.{IsWhole, state_with}
use Rattle.node_core.specs.impl_proofs.Resting.{delivers_nothing, carry_none, CarryNothing}
use Rattle.node_core.specs.Steps.{numbered}

module _ (name : Name) (id : MsgId) (round : ℕ) where
  -- how often the packets announce the id to the name
  abbrev told : List (Name × Body) → ℕ
  told sends = law.announcements body_content name id round sends

  -- how often these entries name it
  abbrev times : List (MsgId × ℕ) → ℕ
  times entries = times_announced id round entries

  told-append : (xs ys : List (Name × Body)) → told (xs ++ ys) ≡ told xs + told ys
  told-append [] ys = sym (zero-add (told ys))
  told-append (x ∷ xs) ys =
      ap (λ n. (if same_name name x.0 then times (body_content x.1).announced else 0) + n) (told-append xs ys)
      ∙ regroup (if same_name name x.0 then times (body_content x.1).announced else 0) (told xs) (told ys)
    where
      regroup : (a b c : ℕ) → a + (b + c) ≡ (a + b) + c
      regroup a b c = omega arith

  if-add : (b : Bool) (m n k : ℕ) → k ≡ m + n → (if b then m else 0) + (if b then n else 0) ≡ (if b then k else 0)
  if-add true m n k e = sym e
  if-add false m n k e = refl

  if-zero : (b : Bool) → ◌≡◌ {A = ℕ} 0 (if b then 0 else 0)
  if-zero true = refl
  if-zero false = refl

  -- the packets for a peer announce its entries, to it alone
  told_to : (peer : Name) (fuel : ℕ) (entries : List (MsgId × ℕ)) →
      length entries ≤ fuel →
      told (packets_to (peer, entries)) ≡ (if same_name name peer then times entries else 0)
  told_to peer fuel [] enough = if-zero (same_name name peer)
  told_to peer zero (entry ∷ entries) enough = absurd (not_none (length entries) enough)
    where
      not_none : (n : ℕ) → suc n ≤ 0 → ⊥
      not_none n h = omega (arith, h)
  told_to peer (suc fuel) (entry ∷ entries) enough =
      ap told (packets_to-step peer (entry ∷ entries) (some (length entries)))
      ∙ ap (λ n. (if same_name name peer then times (take MAX_ANNOUNCEMENTS (entry ∷ entries)) else 0) + n)
      (told_to peer fuel (drop MAX_ANNOUNCEMENTS (entry ∷ entries)) (omega (arith, enough, length-drop MAX_ANNOUNCEMENTS (entry ∷ entries))))
      ∙ if-add (same_name name peer) (times (take MAX_ANNOUNCEMENTS (entry ∷ entries)))
      (times (drop MAX_ANNOUNCEMENTS (entry ∷ entries))) (times (entry ∷ entries))
      (ap times (sym (take-append-drop MAX_ANNOUNCEMENTS (entry ∷ entries))) ∙ count-append (λ (e : MsgId × ℕ). same_id id e.0 && (round == e.1))
      (take MAX_ANNOUNCEMENTS (entry ∷ entries)) (drop MAX_ANNOUNCEMENTS (entry ∷ entries)))
    where
      some : (n : ℕ) → 0 < suc n
      some n = omega arith

  -- what waits for the name is what is queued for it
  times_waiting : (queued : List (Name × MsgId × ℕ)) → times (waiting_for name queued) ≡ times_queued name id round queued
  times_waiting [] = refl
  times_waiting (entry ∷ queued) =
      go (times_waiting queued) (same_name name entry.0)
      ∙ sym (sum_by-cons (λ (e : Name × MsgId × ℕ). cond (same_name name e.0 && (same_id id e.1 && (round == e.2))) 1 0) entry queued)
    where
      go : times (waiting_for name queued) ≡ times_queued name id round queued →
          (b : Bool) →
          times
          (map (λ (e : Name × MsgId × ℕ). (e.1, e.2)) (cond b (entry ∷ filter (λ e. same_name name e.0) queued) (filter (λ e. same_name name e.0) queued)))
          ≡ cond (b && (same_id id entry.1 && (round == entry.2))) 1 0 + times_queued name id round queued
      go rest true =
          sum_by-cons (λ (e : MsgId × ℕ). cond (same_id id e.0 && (round == e.1)) 1 0) (entry.1, entry.2) (waiting_for name queued)
          ∙ ap (λ n. cond (same_id id entry.1 && (round == entry.2)) 1 0 + n) rest
      go rest false = rest ∙ sym (zero-add (times_queued name id round queued))

  -- a name for which nothing waits has no entry in the queue
  none_waits : (queued : List (Name × MsgId × ℕ)) → has_name (receivers queued) name ≡ false → times_queued name id round queued ≡ 0
  none_waits [] lacks = refl
  none_waits (entry ∷ queued) lacks =
      sum_by-cons (λ (e : Name × MsgId × ℕ). cond (same_name name e.0 && (same_id id e.1 && (round == e.2))) 1 0) entry queued
      ∙ ap (λ b. cond (b && (same_id id entry.1 && (round == entry.2))) 1 0 + times_queued name id round queued) apart
      ∙ zero-add (times_queued name id round queued)
      ∙ none_waits queued
      (sym (any-filter_same (same_name name) (λ peer. not (same_name entry.0 peer)) true (λ peer same. ap not (same_as peer same)) (receivers queued))
      ∙ or_right (same_name name entry.0) _ lacks)
    where
      or_left : (a b : Bool) → (a || b) ≡ false → a ≡ false
      or_left true b h = h
      or_left false b h = refl

      or_right : (a b : Bool) → (a || b) ≡ false → b ≡ false
      or_right true b h = absurd (true≢false h)
      or_right false b h = h

      apart : same_name name entry.0 ≡ false
      apart = or_left (same_name name entry.0) _ lacks

      same_as : (peer : Name) → same_name name peer ≡ true → same_name entry.0 peer ≡ false
      same_as peer same = go (same_name entry.0 peer) refl
        where
          go : (b : Bool) → same_name entry.0 peer ≡ b → b ≡ false
          go true is =
              absurd (true≢false
              (sym ((same_name-Decides name entry.0).1 ((same_name-Decides name peer).0 same ∙ sym ((same_name-Decides entry.0 peer).0 is))) ∙ apart))
          go false is = refl

  -- the packets for distinct receivers
  told_to_all : (queued : List (Name × MsgId × ℕ)) (peers : List Name) →
      IsDistinct same_name peers →
      told (flat_map packets_to (map (λ peer. (peer, waiting_for peer queued)) peers)) ≡ (if has_name peers name then times_queued name id round queued else 0)
  told_to_all queued [] distinct = refl
  told_to_all queued (peer ∷ peers) distinct =
      told-append (packets_to (peer, waiting_for peer queued)) (flat_map packets_to (map (λ p. (p, waiting_for p queued)) peers))
      ∙ ap (λ n. n + told (flat_map packets_to (map (λ p. (p, waiting_for p queued)) peers)))
      (told_to peer (length (waiting_for peer queued)) (waiting_for peer queued) (same_length (length (waiting_for peer queued))))
      ∙ ap (λ n. (if same_name name peer then times (waiting_for peer queued) else 0) + n)
      (told_to_all queued peers (IsDistinct-tail same_name peer peers distinct))
      ∙ go (same_name name peer) (has_name peers name) refl (lacks_the_first name peer peers distinct)
    where
      same_length : (n : ℕ) → n ≤ n
      same_length n = omega arith

      go : (b has : Bool) →
          same_name name peer ≡ b →
          (b ≡ true → has ≡ false) →
          (if b then times (waiting_for peer queued) else 0) + (if has then times_queued name id round queued else 0)
          ≡ (if b || has then times_queued name id round queued else 0)
      go true true is apart = absurd (true≢false (apart refl))
      go true false is apart =
          add-zero (times (waiting_for peer queued)) ∙ ap (λ p. times (waiting_for p queued)) (sym ((same_name-Decides name peer).0 is)) ∙ times_waiting queued
      go false has is apart = zero-add (if has then times_queued name id round queued else 0)

  pub told_all : (queued : List (Name × MsgId × ℕ)) → IsDistinct same_name (receivers queued) → told (announcements queued) ≡ times_queued name id round queued
  told_all queued distinct = told_to_all queued (receivers queued) distinct ∙ go (has_name (receivers queued) name) refl
    where
      go : (b : Bool) → has_name (receivers queued) name ≡ b → (if b then times_queued name id round queued else 0) ≡ times_queued name id round queued
      go true is = refl
      go false is = sym (none_waits queued is)

-- the receivers are distinct
receivers_differ : (queued : List (Name × MsgId × ℕ)) → IsDistinct same_name (receivers queued)
unfolding IsDistinct
receivers_differ [] = tt
receivers_differ (entry ∷ queued) =
    (others (receivers queued), distinct-filter (λ peer. not (same_name entry.0 peer)) (receivers queued) (receivers_differ queued))
  where
    others : (peers : List Name) → Each (λ later. same_name entry.0 later ≡ false) (filter (λ peer. not (same_name entry.0 peer)) peers)
    others [] = tt
    others (peer ∷ peers) = go (others peers) (same_name entry.0 peer) refl
      where
        go : Each (λ later. same_name entry.0 later ≡ false) (filter (λ p. not (same_name entry.0 p)) peers) →
            (b : Bool) →
            same_name entry.0 peer ≡ b →
            Each (λ later. same_name entry.0 later ≡ false)
            (cond (not b) (peer ∷ filter (λ p. not (same_name entry.0 p)) peers) (filter (λ p. not (same_name entry.0 p)) peers))
        go rest true is = rest
        go rest false is = (is, rest)

-- what holds of each entry's receiver holds of each receiver
each_receiver : (P : Name → Type 0) (queued : List (Name × MsgId × ℕ)) → Each (λ entry. P entry.0) queued → Each P (receivers queued)
each_receiver P [] h = tt
each_receiver P (entry ∷ queued) h = (h.0, each-filter P (λ peer. not (same_name entry.0 peer)) (receivers queued) (each_receiver P queued h.1))

-- what holds of each announcement to each receiver holds of each packet
each_packet : (P : Name → Body → Type 0) (queued : List (Name × MsgId × ℕ)) (peers : List Name) →
    Each (λ peer. (entries : List (MsgId × ℕ)) → P peer (IHave entries)) peers →
    Each (λ send. P send.0 send.1) (flat_map packets_to (map (λ peer. (peer, waiting_for peer queued)) peers))
each_packet P queued [] h = tt
each_packet P queued (peer ∷ peers) h =
    each-append (λ send. P send.0 send.1) (packets_to (peer, waiting_for peer queued))
    (flat_map packets_to (map (λ p. (p, waiting_for p queued)) peers)) (go (in_frames (waiting_for peer queued))) (each_packet P queued peers h.1)
  where
    go : (frames : List (List (MsgId × ℕ))) → Each (λ (send : Name × Body). P send.0 send.1) (map (λ entries. (peer, IHave entries)) frames)
    go [] = tt
    go (entries ∷ frames) = (h.0 entries, go frames)

module _ (g : GossipState) (whole : IsWhole g) (active passive : List Name) (members : names g.peers.members ≡ active)
    (me : Origin) (others : has_name active g.me.name ≡ false) (framed : ℕ) where
  abbrev before : CoreState
  before = state_with active passive g

  -- what holds of each announcement to an active name holds of each frame
  each_sent : (P : Name → Body → Type 0) →
      ((peer : Name) (entries : List (MsgId × ℕ)) → has_name active peer ≡ true → P peer (IHave entries)) →
      Each (λ (send : Name × Frame). P send.0 send.1.body) (numbered me framed (announcements g.peers.queued))
  each_sent P all =
      each-numbered me P framed (announcements g.peers.queued)
      (each_packet P g.peers.queued (receivers g.peers.queued)
      (each_receiver (λ peer. (entries : List (MsgId × ℕ)) → P peer (IHave entries)) g.peers.queued
      (each_one _ g.peers.queued (λ entry h entries.
      all entry.0 entries (is_active entry.0 (of_each (λ e. is_member g.peers.members e.0 ≡ true) g.peers.queued entry whole.peers.for_members h))))))
    where
      is_active : (peer : Name) → is_member g.peers.members peer ≡ true → has_name active peer ≡ true
      is_active peer is = sym (is_member-names g.peers.members peer ∙ ap (λ ns. has_name ns peer) members) ∙ is

  pub flushes_lawfully : StepLaws frame_content before on.Flush (numbered me framed (announcements g.peers.queued)) []
      (state_with active passive (record g { peers = record g.peers { queued = [] } }))
  flushes_lawfully =
      delivers_nothing before on.Flush (numbered me framed (announcements g.peers.queued)) active passive [] g.missing.wants g.missing.timers refl refl
      (carry_none (λ to id p. (before.payload id ≡ Some p) × (before.has id ≡ true)) (numbered me framed (announcements g.peers.queued)) carry)
      (each_sent (λ to body. to ≢ g.me.name) (λ peer entries is. differs active peer g.me.name is others))
      (record {
        appears = tt;
        leaves = (
          λ name id round. announced-numbered me name id round framed (announcements g.peers.queued)
              ∙ told_all name id round g.peers.queued (receivers_differ g.peers.queued),
          refl,
        );
      })
      (record {
        taken = λ name id round a. absurd a;
        appears = each_one _ g.missing.wants (λ entry h. inl h);
        arms = each_one _ g.missing.timers (λ id h. inl h);
      })
      (record {
        fires = each_sent (λ to body. (body_content body).asked ≡ None) (λ peer entries is. refl);
        entry_stays = each_one _ g.missing.wants (λ entry h. inl h);
        timer_stays = each_one _ g.missing.timers (λ id h. inl h);
      })
      (record { answers = λ id name a. absurd a; only = carry_none _ (numbered me framed (announcements g.peers.queued)) carry })
    where
      carry : CarryNothing (numbered me framed (announcements g.peers.queued))
      carry = each_sent (λ to body. (body_content body).carried ≡ None) (λ peer entries is. refl)
