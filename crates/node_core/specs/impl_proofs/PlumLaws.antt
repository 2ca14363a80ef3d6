-- The core meets all nine laws. A proof only; nothing here has to be trusted.
use Rattle.std.specs.Prelude.{◌≡◌, ◌≢◌, ◌⊎◌, ◌+◌, ◌<◌, ◌≤◌, ◌&&◌, ◌||◌, ℕ, Bool, true, false, not, cond, List, [], ◌∷◌}
use Rattle.std.specs.Prelude.{◌++◌, Option, Some, None, is_some, IsSome, length, map, filter, refl, if◌then◌else◌}
use Rattle.std.specs.FinSet as set
use Rattle.std.specs.List.{AllByRecursion as Each, IsDistinct}
use Rattle.std.specs.Map.{keys_of, lookup}
use Rattle.std.specs.Option.{unwrap_or}
use Rattle.std.proofs.Common.{inl, inr, sym, ◌∙◌, ap, subst, arith}
use Rattle.std.proofs.lemmas.Bool.{false≢true, true≢false}
use Rattle.std.proofs.lemmas.List.Folds.{list_any-append}
use Rattle.std.proofs.lemmas.List.Sums.{sum_by-cons}
use Rattle.std.proofs.lemmas.Map.Keys.{IsDistinct-head, IsDistinct-tail}
use Rattle.std.proofs.Math.Nat.{lt_irrefl, le_trans}
use Rattle.std.proofs.Math.Numerals.{lt-add-one}
use Rattle.node_names.specs.NodeName.{Name}
use Rattle.node_names.specs.Limits.{Limits}
use Rattle.node_names.specs.Same.{same_id, same_id-Decides, same_name, same_name-Decides, same_name-laws, has_id, has_name}
use Rattle.node_names.specs.declared.dice.Dice.{Dice}
use Rattle.node_names.specs.declared.ids.MsgId.{MsgId}
use Rattle.node_names.specs.declared.ids.Origin.{Origin}
use Rattle.protocol.specs.AskLaw.{Fires, AsksNothing}
use Rattle.protocol.specs.CoreState.{CoreState}
use Rattle.protocol.specs.Delivery.{Delivery}
use Rattle.protocol.specs.DeliveryLaw.{IsNews, Delivers, count_after, ids}
use Rattle.protocol.specs.Content.{Content}
use Rattle.protocol.specs.impl_proofs.NameLists.{and_left, and_right}
use Rattle.protocol.specs.HoldLaw.{IsAskedBy, KeepsLast, packets_with}
use Rattle.protocol.specs.impl_proofs.Held.{found_by_key}
use Rattle.protocol.specs.Laws.{IsSilent, Laws, StateLaws, StepLaws}
use Rattle.protocol.specs.Lists.{IsOneOf}
use Rattle.protocol.specs.QueueLaw.{FlushesQueue, AnnouncesNothing, KeepsQueue}
use Rattle.protocol.specs.SpreadLaw.{packets_carrying, entries_queued, is_carried}
use Rattle.protocol.specs.Stimulus.{Stimulus, IsNotFrom}
use Rattle.protocol.specs.WantLaw.{Announces, entries_wanted}
use Rattle.protocol.specs.declared.stimulus.StimulusOf.TheVariants as on
use Rattle.frames.specs.Body.{Body}
use Rattle.frames.specs.Content.{body_content, frame_content, membership}
use Rattle.frames.specs.Frame.{Frame}
use Rattle.frames.specs.declared.body.BodyOf.TheVariants as body
use Rattle.views.specs.Names.{others}
use Rattle.views.proofs.CallerLemmas.{lacks-others}
use Rattle.membership.proofs.About.{table_is_about_membership}
use Rattle.membership.proofs.LawfulRows.{table_is_lawful}
use Rattle.membership.specs.Event.{Event}
use Rattle.membership.specs.declared.event.EventOf.TheVariants as heard_of
use Rattle.membership.specs.Laws.{IsFromAnother, Lawful}
use Rattle.membership.specs.Membership.{Membership, Turn, still}
use Rattle.membership.specs.Table.{table}
use Rattle.missing.proofs.SoundLemmas.{sound-got, sound-announced_all, sound-taken_first}
use Rattle.missing.specs.Missing.{announced_all, taken_first}
use Rattle.missing.specs.Timers.{with_timers, without_timer}
use Rattle.missing.specs.Wants as want
use Rattle.peer_sets.specs.Queue as queue
use Rattle.missing.specs.Wants.{first_want, with_wants, without_first, without_id}
use Rattle.peer_sets.specs.Members.{names, is_member, with_kind}
use Rattle.peer_sets.proofs.MemberLemmas.{is_member-names, names-with_kind}
use Rattle.peer_sets.specs.declared.members.PeerKind.TheVariants.{Eager, Lazy}
use Rattle.gossip_core.specs.State.{GossipState}
use Rattle.gossip_core.specs.Table.{Outcome, outcome, repeated, first_copy, shortcut, swapped, asked, answer}
use Rattle.gossip_core.specs.Table.{is_news, next_id, next_round, quiet, with_peer, after_downs, after_ups}
use Rattle.gossip_core.specs.declared.call.CallOf.TheVariants as call
use Rattle.gossip_core.specs.Table.{Call}
use Rattle.node_core.specs.impl_proofs.Members.{each_one, of_each, one_of_filter, one_of_passing, one_of_names, one_of_ids, counts_none, differs}
use Rattle.node_core.specs.impl_proofs.Numbered.{each-numbered, carrying-numbered, with-numbered}
use Rattle.node_core.specs.Plum.{Plum, IsSoundPlum, IsWhole, IsLacked, plum_state, state_with}
use Rattle.node_core.specs.Steps.{Turned, PlumSteps, PlumStarts, turned, heard, idle, is_joined}
use Rattle.node_core.specs.Steps.{greeting, by_gossip, by_membership, gone_on, numbered, delivered_at}
use Rattle.node_core.specs.impl_proofs.Starting as starting
use Rattle.node_core.specs.impl_proofs.Firing.{fires_lawfully}
use Rattle.node_core.specs.impl_proofs.Flushing.{flushes_lawfully}
use Rattle.node_core.specs.impl_proofs.Keeping.{keeps_all_listed, keeps_delivered}
use Rattle.node_core.specs.impl_proofs.Moving.{Linked, after_all_downs, after_all_ups, members_after_downs, members_after_ups}
use Rattle.node_core.specs.impl_proofs.Resting.{leaves_all, delivers_nothing, carry_none, each_part, keeps_all, CarryNothing}
use Rattle.node_core.specs.impl_proofs.Spreading.{spreads_lawfully}
use Rattle.node_core.specs.impl_proofs.Swapping.{behind, first_stands, shortcut_is_first, silent_besides}
use Rattle.node_core.specs.impl_proofs.Wanting.{hears_lawfully, news_is, is_news_to, stood, was_armed}
use Rattle.node_core.specs.impl_proofs.Whole.{whole-with_kind, whole-flushed, whole-with_missing, whole-with_member, whole-without_member, whole-spread}

-- what holds of both branches holds of the one that is taken
either : {X : Type 0} (P : X → Type 0) (b : Bool) (x y : X) → (b ≡ true → P x) → (b ≡ false → P y) → P (if b then x else y)
either P true x y p q = p refl
either P false x y p q = q refl

-- what two equal options hold is equal
inside : {X : Type 0} (x y : X) → Some x ≡ Some y → x ≡ y
inside x y e = ap (λ o. unwrap_or o x) e

-- ---- every call leaves a whole gossip

-- the entries except those of an id are entries, of other ids
others_wanted : (id : MsgId) (wants : List (MsgId × Name × ℕ)) (entry : MsgId × Name × ℕ) →
    IsOneOf entry (without_id id wants) →
    IsOneOf entry wants × (entry.0 ≢ id)
others_wanted id wants entry h =
    let kept : IsOneOf entry wants × (not (same_id id entry.0) ≡ true) = one_of_filter (λ e. not (same_id id e.0)) entry wants h in
    (kept.0, λ same. absurd (false≢true (sym (ap not ((same_id-Decides id entry.0).1 (sym same))) ∙ kept.1)))

others_armed : (id : MsgId) (timers : List MsgId) (other : MsgId) → IsOneOf other (without_timer id timers) → IsOneOf other timers × (other ≢ id)
others_armed id timers other h =
    let kept : IsOneOf other timers × (not (same_id id other) ≡ true) = one_of_filter (λ e. not (same_id id e)) other timers h in
    (kept.0, λ same. absurd (false≢true (sym (ap not ((same_id-Decides id other).1 (sym same))) ∙ kept.1)))

-- and what is not kept is of that id
kept_wanted : (id : MsgId) (wants : List (MsgId × Name × ℕ)) (entry : MsgId × Name × ℕ) →
    IsOneOf entry wants →
    IsOneOf entry (without_id id wants) ⊎ (entry.0 ≡ id)
kept_wanted id wants entry h = go (same_id id entry.0) refl
  where
    go : (b : Bool) → same_id id entry.0 ≡ b → IsOneOf entry (without_id id wants) ⊎ (entry.0 ≡ id)
    go true is = inr (sym ((same_id-Decides id entry.0).0 is))
    go false is = inl (one_of_passing (λ e. not (same_id id e.0)) entry wants h (ap not is))

kept_armed : (id : MsgId) (timers : List MsgId) (other : MsgId) → IsOneOf other timers → IsOneOf other (without_timer id timers) ⊎ (other ≡ id)
kept_armed id timers other h = go (same_id id other) refl
  where
    go : (b : Bool) → same_id id other ≡ b → IsOneOf other (without_timer id timers) ⊎ (other ≡ id)
    go true is = inr (sym ((same_id-Decides id other).0 is))
    go false is = inl (one_of_passing (λ e. not (same_id id e)) other timers h (ap not is))

-- the node's own next message is not known
next_is_lacked : (g : GossipState) → IsWhole g → set.contains g.known (next_id g) ≡ false
next_is_lacked g whole = go (set.contains g.known (next_id g)) refl
  where
    go : (b : Bool) → set.contains g.known (next_id g) ≡ b → b ≡ false
    go true is =
        let bounds : (0 < g.spent + 1) × (g.spent + 1 ≤ g.spent) = whole.store.counted (next_id g) is refl in
        absurd (lt_irrefl g.spent (le_trans (lt-add-one g.spent) bounds.1))
    go false is = refl

-- the entries except the first of an id are entries
fewer_first : (id : MsgId) (wants : List (MsgId × Name × ℕ)) (entry : MsgId × Name × ℕ) → IsOneOf entry (without_first id wants) → IsOneOf entry wants
fewer_first id [] entry none = none
fewer_first id (e ∷ wants) entry h = go (fewer_first id wants entry) (same_id id e.0) h
  where
    go : (IsOneOf entry (without_first id wants) → IsOneOf entry wants) →
        (b : Bool) →
        IsOneOf entry (if b then wants else e ∷ without_first id wants) →
        IsOneOf entry (e ∷ wants)
    go rest true later = inr later
    go rest false (inl same) = inl same
    go rest false (inr later) = inr (rest later)

module _ (g : GossipState) (whole : IsWhole g) where
  abbrev IsWholeAfter : Outcome → Type 0
  IsWholeAfter done = IsWhole done.state

  fired : (id : MsgId) (first : Option (Name × ℕ)) →
      IsWhole (record g { missing = taken_first id g.missing }) →
      IsWholeAfter (asked id first (record g { missing = taken_first id g.missing }))
  fired id None after = after
  fired id (Some first) after = whole-with_kind (record g { missing = taken_first id g.missing }) after first.0 Eager

  taken : (id : MsgId) → IsWhole (record g { missing = taken_first id g.missing })
  taken id =
      whole-with_missing g whole (without_first id g.missing.wants)
      (if is_some (first_want id g.missing.wants) then g.missing.timers else without_timer id g.missing.timers) (sound-taken_first id g.missing whole.missing)
      (λ entry h. inl (fewer_first id g.missing.wants entry h))
      (λ j h. inl (fewer (is_some (first_want id g.missing.wants)) j h))
    where
      fewer : (b : Bool) (j : MsgId) → IsOneOf j (if b then g.missing.timers else without_timer id g.missing.timers) → IsOneOf j g.missing.timers
      fewer true j h = h
      fewer false j h = (others_armed id g.missing.timers j h).0

  swapped_whole : (sender : Name) (announcer : Option Name) (done : Outcome) → IsWholeAfter done → IsWholeAfter (swapped sender announcer done)
  swapped_whole sender None done after = after
  swapped_whole sender (Some peer) done after = whole-with_kind (with_peer peer Eager done.state) (whole-with_kind done.state after peer Eager) sender Lazy

  pub stays_whole : (c : Call) → IsWhole (outcome g c).state
  stays_whole (call.Broadcast payload) =
      whole-spread g whole None (next_id g) 0 payload (g.spent + 1) g.missing.wants g.missing.timers
      (next_is_lacked g whole) (omega arith) (λ own. (omega arith, omega arith)) whole.missing
      (λ entry h. (h, λ same. foreign entry.0 same (of_each (λ e. IsLacked g.known g.me e.0) g.missing.wants entry whole.wants_lacked h)))
      (λ j h. (h, λ same. foreign j same (of_each (λ i. IsLacked g.known g.me i) g.missing.timers j whole.timers_lacked h)))
    where
      foreign : (id : MsgId) → id ≡ next_id g → IsLacked g.known g.me id → ⊥
      foreign id same lacked = lacked.foreign (ap (λ (i : MsgId). i.origin) same)
  stays_whole (call.OnGossip sender id round payload) =
      either IsWholeAfter (set.contains g.known id) (repeated sender g)
      (if is_news g id then swapped sender (shortcut g sender id round) (first_copy sender id round payload g) else quiet g)
      (λ is. either IsWholeAfter
      (is_member g.peers.members sender)
      (record { state = with_peer sender Lazy g; sends = (sender, body.Prune) ∷ []; delivered = None })
      (quiet g)
      (λ member. whole-with_kind g whole sender Lazy)
      (λ stranger. whole))
      (λ is. either IsWholeAfter
      (is_news g id)
      (swapped sender (shortcut g sender id round) (first_copy sender id round payload g))
      (quiet g)
      (λ news. swapped_whole sender (shortcut g sender id round) (first_copy sender id round payload g) (first_whole sender id round payload news))
      (λ old. whole))
    where
      first_whole : (sender : Name) (id : MsgId) (round : ℕ) (payload : List ℕ) → is_news g id ≡ true → IsWholeAfter (first_copy sender id round payload g)
      first_whole sender id round payload news =
          whole-with_kind _
          (whole-spread g whole
          (Some sender)
          id
          (next_round round)
          payload g.spent
          (without_id id g.missing.wants)
          (without_timer id g.missing.timers)
          (news_is g id news).unknown
          (omega arith)
          (λ own. absurd ((news_is g id news).foreign own))
          (sound-got id g.missing whole.missing)
          (others_wanted id g.missing.wants)
          (others_armed id g.missing.timers))
          sender Eager
  stays_whole (call.OnIHave sender entries) =
      either IsWholeAfter (is_member g.peers.members sender)
      (quiet (record g { missing = announced_all sender (filter (λ entry. is_news g entry.0) entries) g.missing })) (quiet g)
      (λ member.
      whole-with_missing g whole
      (with_wants sender (filter (λ entry. is_news g entry.0) entries) g.missing.wants)
      (with_timers (filter (λ entry. is_news g entry.0) entries) g.missing.timers)
      (sound-announced_all sender (filter (λ entry. is_news g entry.0) entries) g.missing whole.missing)
      (λ entry h. elim (stood sender (filter (λ e. is_news g e.0) entries) g.missing.wants entry h) [
        | inl was ↦ inl was
        | inr new ↦ inr (
          ap (has_name (names g.peers.members)) new.0 ∙ sym (is_member-names g.peers.members sender) ∙ member,
          news_is g entry.0 (one_of_filter (λ e. is_news g e.0) (entry.0, entry.2) entries new.1).1,
        )
      ])
      (λ j h. elim (was_armed (filter (λ e. is_news g e.0) entries) g.missing.timers j h) [
        | inl was ↦ inl was
        | inr new ↦ inr (news_is g j (one_of_filter (λ e. is_news g e.0) (j, new.0) entries new.1).1)
      ]))
      (λ stranger. whole)
  stays_whole (call.Fire id) =
      either IsWholeAfter (has_id g.missing.timers id) (asked id (first_want id g.missing.wants) (record g { missing = taken_first id g.missing }))
      (quiet g) (λ is. fired id (first_want id g.missing.wants) (taken id)) (λ is. whole)
  stays_whole (call.OnGraft sender id round) = whole-with_kind g whole sender Eager
  stays_whole (call.OnGraftPeer sender) = whole-with_kind g whole sender Eager
  stays_whole (call.OnPrune sender) = whole-with_kind g whole sender Lazy
  stays_whole call.Flush = whole-flushed g whole
  stays_whole (call.Up peer) = whole-with_member g whole peer
  stays_whole (call.Down peer) = whole-without_member g whole peer

-- ---- the gossip's calls

-- the call leaves the names of the members, the node and its run, and how many messages it keeps as they are
abbrev Stays : GossipState → Outcome → Type 0
Stays g done = (names done.state.peers.members ≡ names g.peers.members) × (done.state.me ≡ g.me) × (done.state.keep ≡ g.keep)

module _ (limits : Limits) (core : Plum) (sound : IsSoundPlum limits core) where
  abbrev g : GossipState
  g = core.gossip

  abbrev active : List Name
  active = core.membership.views.active

  abbrev passive : List Name
  passive = core.membership.views.passive

  abbrev before : CoreState
  before = plum_state core

  -- what has to be shown of a step, and that it leads to a sound core
  abbrev Lawful_step : Stimulus Frame → Turned → Type 0
  Lawful_step stimulus t =
      StepLaws frame_content (plum_state core) stimulus (numbered core.me core.framed t.sends) (delivered_at core.me t.delivered) (plum_state (gone_on core t))
      × IsSoundPlum limits (gone_on core t)

  -- the node's own name is not among the active names
  own_is_owner : core.gossip.me.name ≡ core.membership.views.owner
  own_is_owner = ap (λ (o : Origin). o.name) sound.its_gossip ∙ sym sound.owner

  not_active : has_name core.membership.views.active core.gossip.me.name ≡ false
  not_active = ap (has_name core.membership.views.active) own_is_owner ∙ sound.views.active_of_others

  -- a call after which the members stay leaves a sound core
  sound_after : (c : Call) → Stays core.gossip (outcome core.gossip c) → IsSoundPlum limits (gone_on core (by_gossip core.membership core.gossip c))
  sound_after c stays =
      record {
        views = sound.views;
        its_limits = sound.its_limits;
        its_keep = stays.2 ∙ sound.its_keep;
        owner = sound.owner;
        its_gossip = stays.1 ∙ sound.its_gossip;
        members = stays.0 ∙ sound.members;
        whole = stays_whole core.gossip sound.whole c;
      }

  -- ---- the application broadcasts

  broadcasts : (payload : List ℕ) → Lawful_step (on.Broadcast payload) (by_gossip core.membership core.gossip (call.Broadcast payload))
  broadcasts payload = (
    spreads_lawfully core.gossip sound.whole active passive sound.members core.me not_active core.framed
        (next_id core.gossip)
        (next_is_lacked core.gossip sound.whole)
        None 0 payload core.gossip.missing.wants core.gossip.missing.timers
        (core.gossip.spent + 1)
        (on.Broadcast payload)
        sound.its_gossip (refl, refl) refl refl (λ name. refl) (λ h. h) (λ h. h) (λ name j round a. a) (λ j name a. a)
        (λ entry h. h) (λ entry h. inl h) (λ j h. h) (λ j h. inl h),
    sound_after (call.Broadcast payload) (refl, refl, refl),
  )

  -- ---- a packet of the gossip came

  module _ (sender : Origin) (another : sender.name ≢ core.gossip.me.name) (by : Origin) (number : ℕ) (dice : Dice) where
    abbrev arrives : Body → Stimulus Frame
    arrives said = on.Arrive sender (record { sender = by; number = number; body = said }) dice

    -- a packet without a request asks for no message
    none_asked : (j : MsgId) → None ≡ Some j → ⊥
    none_asked j e = false≢true (ap is_some e)

    -- a message that is no news
    module _ (id : MsgId) (round : ℕ) (payload : List ℕ) (old : IsNews before id → ⊥) where
      abbrev Old : List (Name × Body) → Type 0
      Old sends = StepLaws frame_content (plum_state core) (arrives (body.Gossip id round payload)) (numbered core.me core.framed sends) [] (plum_state core)

      leaves_old : Old []
      leaves_old =
          leaves_all before (arrives (body.Gossip id round payload)) [] (inr (old, refl)) refl tt tt (tt, keeps_all before) (λ name j r a is. a.1) tt
          (record { answers = λ j name a. absurd (none_asked j a.0); only = tt })

      prunes_old : Old ((sender.name, body.Prune) ∷ [])
      prunes_old =
          leaves_all before (arrives (body.Gossip id round payload)) (numbered core.me core.framed ((sender.name, body.Prune) ∷ [])) (inr (old, refl)) refl
          (carry_none (λ to j p. (before.payload j ≡ Some p) × (before.has j ≡ true)) (numbered core.me core.framed ((sender.name, body.Prune) ∷ [])) (
            refl,
            tt,
          ))
          (another, tt) ((refl, tt), keeps_all before) (λ name j r a is. a.1) (refl, tt)
          (record {
            answers = λ j name a. absurd (none_asked j a.0);
            only = carry_none
                (λ to j p. IsOneOf j [] ⊎ (IsAskedBy frame_content (arrives (body.Gossip id round payload)) j to × (is_some (before.payload j) ≡ true)))
                (numbered core.me core.framed ((sender.name, body.Prune) ∷ [])) (refl, tt);
          })

    -- what is sent and left when a message comes
    abbrev Gossips : MsgId → ℕ → List ℕ → Outcome → Type 0
    Gossips id round payload done =
        StepLaws frame_content (plum_state core) (arrives (body.Gossip id round payload))
        (numbered core.me core.framed done.sends) (delivered_at core.me done.delivered) (state_with active passive done.state)

    -- a peer that announced a message before is not the node itself
    announced_by_another : (id : MsgId) (round : ℕ) (peer : Name) → shortcut core.gossip sender.name id round ≡ Some peer → peer ≢ core.gossip.me.name
    announced_by_another id round peer is =
        let first = shortcut_is_first core.gossip sender.name id round peer is in
        let stands = first_stands id core.gossip.missing.wants (peer, first.0) first.1 in
        let member : has_name (names core.gossip.peers.members) peer ≡ true =
        of_each (λ e. has_name (names core.gossip.peers.members) e.1 ≡ true) core.gossip.missing.wants
        (stands.0, peer, first.0) sound.whole.wants_of_members stands.1 in
        differs active peer core.gossip.me.name (sym (ap (λ ns. has_name ns peer) sound.members) ∙ member) not_active

    gossips : (id : MsgId) (round : ℕ) (payload : List ℕ) →
        StepLaws frame_content
        (plum_state core)
        (arrives (body.Gossip id round payload))
        (numbered core.me core.framed (outcome core.gossip (call.OnGossip sender.name id round payload)).sends)
        (delivered_at core.me (outcome core.gossip (call.OnGossip sender.name id round payload)).delivered)
        (state_with active passive (outcome core.gossip (call.OnGossip sender.name id round payload)).state)
    gossips id round payload =
        either (Gossips id round payload) (set.contains core.gossip.known id) (repeated sender.name core.gossip) (if is_news core.gossip id
        then swapped sender.name (shortcut core.gossip sender.name id round) (first_copy sender.name id round payload core.gossip)
        else quiet core.gossip)
        (λ known.
        either (Gossips id round payload) (is_member core.gossip.peers.members sender.name)
        (record { state = with_peer sender.name Lazy core.gossip; sends = (sender.name, body.Prune) ∷ []; delivered = None }) (quiet core.gossip)
        (λ member. prunes_old id round payload (λ news. true≢false (sym known ∙ news.0)))
        (λ stranger. leaves_old id round payload (λ news. true≢false (sym known ∙ news.0))))
        (λ unknown.
        either (Gossips id round payload) (is_news core.gossip id)
        (swapped sender.name (shortcut core.gossip sender.name id round) (first_copy sender.name id round payload core.gossip)) (quiet core.gossip)
        (λ news. swaps (shortcut core.gossip sender.name id round) (announced_by_another id round)
        (first_copy sender.name id round payload core.gossip) (first unknown news))
        (λ own. leaves_old id round payload (λ news. true≢false (sym (is_news_to core.gossip id news.0 news.1) ∙ own))))
      where
        swaps : (announcer : Option Name) →
            ((peer : Name) → announcer ≡ Some peer → peer ≢ core.gossip.me.name) →
            (done : Outcome) →
            Gossips id round payload done →
            Gossips id round payload (swapped sender.name announcer done)
        swaps None away done laws = laws
        swaps (Some peer) away done laws =
            let packets : List (Name × Body) = (peer, body.GraftPeer) ∷ (sender.name, body.Prune) ∷ [] in
            let more = behind core.me core.framed (λ to said. IsSilent (body_content said) × (to ≢ core.gossip.me.name)) done.sends packets (
              (hushed, away peer refl),
              ((hushed, another), tt),
            ) in
            subst (λ sends. StepLaws frame_content (plum_state core) (arrives (body.Gossip id round payload)) sends
            (delivered_at core.me done.delivered) (state_with active passive done.state))
            (sym more.are)
            (silent_besides before
            (state_with active passive done.state)
            sender
            (record { sender = by; number = number; body = body.Gossip id round payload })
            dice
            (numbered core.me core.framed done.sends)
            more.frames
            (delivered_at core.me done.delivered)
            (each_part (λ (send : Name × Frame). IsSilent (body_content send.1.body) × (send.0 ≢ core.gossip.me.name))
            (λ send. IsSilent (frame_content send.1)) (λ send h. h.0) more.frames more.each)
            (each_part (λ (send : Name × Frame). IsSilent (body_content send.1.body) × (send.0 ≢ core.gossip.me.name))
            (λ send. send.0 ≢ core.gossip.me.name) (λ send h. h.1) more.frames more.each)
            laws)
          where
            hushed : IsSilent (body_content body.Prune)
            hushed = record { carries_nothing = refl; announces_nothing = refl; asks_nothing = refl }

        first : set.contains core.gossip.known id ≡ false →
            is_news core.gossip id ≡ true →
            Gossips id round payload (first_copy sender.name id round payload core.gossip)
        first unknown news =
            spreads_lawfully core.gossip sound.whole active passive sound.members core.me not_active core.framed id unknown
            (Some sender.name)
            (next_round round)
            payload
            (without_id id core.gossip.missing.wants)
            (without_timer id core.gossip.missing.timers)
            core.gossip.spent
            (arrives (body.Gossip id round payload))
            sound.its_gossip refl (inl ((unknown, (news_is core.gossip id news).foreign), refl)) refl
            (λ name. same_name-laws.symm name sender.name) (λ h. h) (λ h. h) (λ name j r a. a.1) (λ j name a. none_asked j a.0)
            (λ entry h. (others_wanted id core.gossip.missing.wants entry h).0) (kept_wanted id core.gossip.missing.wants)
            (λ j h. (others_armed id core.gossip.missing.timers j h).0) (kept_armed id core.gossip.missing.timers)

    swap_stays : (announcer : Option Name) (done : Outcome) → Stays core.gossip done → Stays core.gossip (swapped sender.name announcer done)
    swap_stays None done stays = stays
    swap_stays (Some peer) done stays = (
      names-with_kind sender.name Lazy (with_kind peer Eager done.state.peers.members) ∙ names-with_kind peer Eager done.state.peers.members ∙ stays.0,
      stays.1,
      stays.2,
    )

    gossip_stays : (id : MsgId) (round : ℕ) (payload : List ℕ) → Stays core.gossip (outcome core.gossip (call.OnGossip sender.name id round payload))
    gossip_stays id round payload =
        either (Stays core.gossip) (set.contains core.gossip.known id) (repeated sender.name core.gossip) (if is_news core.gossip id
        then swapped sender.name (shortcut core.gossip sender.name id round) (first_copy sender.name id round payload core.gossip)
        else quiet core.gossip)
        (λ known. either (Stays core.gossip)
        (is_member core.gossip.peers.members sender.name)
        (record { state = with_peer sender.name Lazy core.gossip; sends = (sender.name, body.Prune) ∷ []; delivered = None })
        (quiet core.gossip)
        (λ member. (names-with_kind sender.name Lazy core.gossip.peers.members, refl, refl))
        (λ stranger. (refl, refl, refl)))
        (λ unknown. either (Stays core.gossip)
        (is_news core.gossip id)
        (swapped sender.name (shortcut core.gossip sender.name id round) (first_copy sender.name id round payload core.gossip))
        (quiet core.gossip)
        (λ news. swap_stays (shortcut core.gossip sender.name id round) (first_copy sender.name id round payload core.gossip) (
          names-with_kind sender.name Eager core.gossip.peers.members,
          refl,
          refl,
        ))
        (λ own. (refl, refl, refl)))

    -- ---- a packet asks for a message

    grafts : (id : MsgId) (round : ℕ) →
        StepLaws frame_content (plum_state core) (arrives (body.Graft id round))
        (numbered core.me core.framed (answer sender.name id round (lookup (same_id id) core.gossip.held))) [] (plum_state core)
    grafts id round = go (lookup (same_id id) core.gossip.held) refl
      where
        go : (o : Option (List ℕ)) →
            lookup (same_id id) core.gossip.held ≡ o →
            StepLaws frame_content (plum_state core) (arrives (body.Graft id round))
            (numbered core.me core.framed (answer sender.name id round o)) [] (plum_state core)
        go None lacks =
            leaves_all before (arrives (body.Graft id round)) [] refl refl tt tt (tt, keeps_all before) (λ name j r a is. a.1) tt
            (record { answers = λ j name a held. absurd (false≢true (sym (ap is_some (lacks_too j (same_asked j a.0))) ∙ held)); only = tt })
          where
            same_asked : (j : MsgId) → Some id ≡ Some j → j ≡ id
            same_asked j e = sym (inside id j e)

            lacks_too : (j : MsgId) → j ≡ id → lookup (same_id j) core.gossip.held ≡ None
            lacks_too j same = ap (λ i. lookup (same_id i) core.gossip.held) same ∙ lacks
        go (Some p) holds =
            leaves_all before (arrives (body.Graft id round)) sends refl refl (carried, tt)
            (another, tt) ((refl, tt), keeps_all before) (λ name j r a is. a.1) (refl, tt)
            (record { answers = λ j name a held. (one_to j name a.0 a.1, one_in_all j a.0); only = (only, tt) })
          where
            sends : List (Name × Frame)
            sends = numbered core.me core.framed ((sender.name, body.Gossip id round p) ∷ [])

            carried : (j : MsgId) (q : List ℕ) →
                ◌≡◌ {A = Option (MsgId × List ℕ)} (Some (id, p)) (Some (j, q)) →
                (before.payload j ≡ Some q) × (before.has j ≡ true)
            carried j q e = subst (λ (m : MsgId × List ℕ). (before.payload m.0 ≡ Some m.1) × (before.has m.0 ≡ true))
                (inside {X = MsgId × List ℕ} (id, p) (j, q) e) (holds, sound.whole.store.held_is_known id (ap is_some holds))

            only : (j : MsgId) (q : List ℕ) →
                ◌≡◌ {A = Option (MsgId × List ℕ)} (Some (id, p)) (Some (j, q)) →
                IsOneOf j [] ⊎ (IsAskedBy frame_content (arrives (body.Graft id round)) j sender.name × IsSome (before.payload j))
            only j q e =
                subst (λ (m : MsgId × List ℕ).
                IsOneOf m.0 [] ⊎ (IsAskedBy frame_content (arrives (body.Graft id round)) m.0 sender.name × IsSome (before.payload m.0)))
                (inside {X = MsgId × List ℕ} (id, p) (j, q) e) (inr ((refl, refl), ap is_some holds))

            one_in_all : (j : MsgId) → Some id ≡ Some j → packets_with frame_content j sends ≡ 1
            one_in_all j e =
                with-numbered core.me j core.framed ((sender.name, body.Gossip id round p) ∷ [])
                ∙ sum_by-cons (λ (send : Name × Body). cond (is_carried j (body_content send.1).carried) 1 0) (sender.name, body.Gossip id round p) []
                ∙ ap (λ b. cond b 1 0 + 0) ((same_id-Decides j id).1 (sym (inside id j e)))

            one_to : (j : MsgId) (name : Name) → Some id ≡ Some j → name ≡ sender.name → packets_carrying frame_content j name sends ≡ 1
            one_to j name e same =
                carrying-numbered core.me j name core.framed ((sender.name, body.Gossip id round p) ∷ [])
                ∙ sum_by-cons (λ (send : Name × Body). cond (same_name name send.0 && is_carried j (body_content send.1).carried) 1 0)
                (sender.name, body.Gossip id round p) []
                ∙ ap (λ b. cond (b && same_id j id) 1 0 + 0) ((same_name-Decides name sender.name).1 same)
                ∙ ap (λ b. cond b 1 0 + 0) ((same_id-Decides j id).1 (sym (inside id j e)))

    -- ---- a packet makes its sender lazy

    prunes : StepLaws frame_content (plum_state core) (arrives body.Prune) [] [] (plum_state core)
    prunes =
        leaves_all before (arrives body.Prune) [] refl refl tt tt (tt, keeps_all before) (λ name j r a is. a.1) tt
        (record { answers = λ j name a. absurd (none_asked j a.0); only = tt })

    -- ---- or eager

    grafts_peer : StepLaws frame_content (plum_state core) (arrives body.GraftPeer) [] [] (plum_state core)
    grafts_peer =
        leaves_all before (arrives body.GraftPeer) [] refl refl tt tt (tt, keeps_all before) (λ name j r a is. a.1) tt
        (record { answers = λ j name a. absurd (none_asked j a.0); only = tt })

  -- ---- a timer fires, and what waits is announced

  fire_stays : (id : MsgId) → Stays core.gossip (outcome core.gossip (call.Fire id))
  fire_stays id =
      either (Stays core.gossip) (has_id core.gossip.missing.timers id)
      (asked id (first_want id core.gossip.missing.wants) (record core.gossip { missing = taken_first id core.gossip.missing })) (quiet core.gossip)
      (λ is. go (first_want id core.gossip.missing.wants)) (λ is. (refl, refl, refl))
    where
      go : (first : Option (Name × ℕ)) → Stays core.gossip (asked id first (record core.gossip { missing = taken_first id core.gossip.missing }))
      go None = (refl, refl, refl)
      go (Some first) = (names-with_kind first.0 Eager core.gossip.peers.members, refl, refl)

  fires : (id : MsgId) → Lawful_step (on.Fire id) (by_gossip core.membership core.gossip (call.Fire id))
  fires id = (fires_lawfully core.gossip sound.whole active passive sound.members core.me not_active core.framed id, sound_after (call.Fire id) (fire_stays id))

  flushes : Lawful_step on.Flush (by_gossip core.membership core.gossip call.Flush)
  flushes = (flushes_lawfully core.gossip sound.whole active passive sound.members core.me not_active core.framed, sound_after call.Flush (refl, refl, refl))

-- ---- the membership's events

-- what is wholly sound stays so as links go down and come up
downs_whole : (downs : List Name) (g : GossipState) → IsWhole g → IsWhole (after_downs downs g)
downs_whole [] g whole = whole
downs_whole (name ∷ downs) g whole = downs_whole downs (outcome g (call.Down name)).state (whole-without_member g whole name)

ups_whole : (ups : List Name) (g : GossipState) → IsWhole g → IsWhole (after_ups ups g)
ups_whole [] g whole = whole
ups_whole (name ∷ ups) g whole = ups_whole ups (outcome g (call.Up name)).state (whole-with_member g whole name)

-- a name that is in both of two lists, of which all of one pass a test and none of the other, is in none
in_no_both : (test : Name → Bool) (xs ys : List Name) →
    Each (λ name. test name ≡ true) xs →
    Each (λ name. test name ≡ false) ys →
    (name : Name) →
    has_name xs name ≡ true →
    has_name ys name ≡ false
in_no_both test xs ys all none name is = go (has_name ys name) refl
  where
    go : (b : Bool) → has_name ys name ≡ b → b ≡ false
    go true there =
        absurd (true≢false
        (sym (of_each (λ n. test n ≡ true) xs name all (one_of_names name xs is)) ∙ of_each (λ n. test n ≡ false) ys name none (one_of_names name ys there)))
    go false there = refl

-- a name that is excepted is not among the others
not_among_others : (excepted ns : List Name) (name : Name) → has_name excepted name ≡ true → has_name (others excepted ns) name ≡ false
not_among_others excepted ns name is = go (has_name (others excepted ns) name) refl
  where
    go : (b : Bool) → has_name (others excepted ns) name ≡ b → b ≡ false
    go true there =
        let passes : IsOneOf name ns × (not (has_name excepted name) ≡ true) =
        one_of_filter (λ n. not (has_name excepted n)) name ns (one_of_names name (others excepted ns) there) in
        absurd (false≢true (sym (ap not is) ∙ passes.1))
    go false there = refl

module _ (limits : Limits) (core : Plum) (sound : IsSoundPlum limits core) (event : Event)
    (dice : Dice) (from : IsFromAnother core.membership.views.owner event) where
  turn : Turn
  turn = table event dice (still core.membership)

  lawful : Lawful core.membership (table event dice (still core.membership))
  lawful = table_is_lawful core.membership event dice sound.views from

  abbrev down : GossipState
  down = after_downs (table event dice (still core.membership)).downs core.gossip

  abbrev after : GossipState
  after = after_ups (table event dice (still core.membership)).ups (after_downs (table event dice (still core.membership)).downs core.gossip)

  went : Linked core.gossip (table event dice (still core.membership)).downs down
  went = after_all_downs (table event dice (still core.membership)).downs core.gossip

  came : Linked down [] after
  came = after_all_ups (table event dice (still core.membership)).ups down

  -- a peer that is gone is no longer active
  gone_is_inactive : (name : Name) →
      has_name (table event dice (still core.membership)).downs name ≡ true →
      has_name (table event dice (still core.membership)).views.active name ≡ false
  gone_is_inactive name is =
      ap (λ ns. has_name ns name) lawful.active_now
      ∙ list_any-append (same_name name) (others (table event dice (still core.membership)).downs core.membership.views.active)
      (table event dice (still core.membership)).ups
      ∙ ap (λ b. b || has_name (table event dice (still core.membership)).ups name)
      (not_among_others (table event dice (still core.membership)).downs core.membership.views.active name is)
      ∙ in_no_both (has_name core.membership.views.active) (table event dice (still core.membership)).downs
      (table event dice (still core.membership)).ups lawful.downs_were_active lawful.ups_were_not name is

  queue_stays : (entry : Name × MsgId × ℕ) →
      IsOneOf entry core.gossip.peers.queued →
      IsOneOf entry after.peers.queued ⊎ (has_name (table event dice (still core.membership)).views.active entry.0 ≡ false)
  queue_stays entry h =
      elim (went.queue_stays entry h) [
        | inl stays ↦ elim (came.queue_stays entry stays) [ inl still_there ↦ inl still_there | inr none ↦ absurd (false≢true none) ]
        | inr gone ↦ inr (gone_is_inactive entry.0 gone)
      ]

  wants_stay : (entry : MsgId × Name × ℕ) →
      IsOneOf entry core.gossip.missing.wants →
      IsOneOf entry after.missing.wants ⊎ (has_name (table event dice (still core.membership)).views.active entry.1 ≡ false)
  wants_stay entry h =
      elim (went.wants_stay entry h) [
        | inl stays ↦ elim (came.wants_stay entry stays) [ inl still_there ↦ inl still_there | inr none ↦ absurd (false≢true none) ]
        | inr gone ↦ inr (gone_is_inactive entry.1 gone)
      ]

  -- the node is the owner of its views
  is_owner : core.gossip.me.name ≡ core.membership.views.owner
  is_owner = ap (λ (o : Origin). o.name) sound.its_gossip ∙ sym sound.owner

  -- the members are the active names
  members_now : names after.peers.members ≡ (table event dice (still core.membership)).views.active
  members_now =
      members_after_ups down (table event dice (still core.membership)).ups lawful.one_up new
      ∙ ap (λ ns. ns ++ (table event dice (still core.membership)).ups) were
      ∙ sym lawful.active_now
    where
      were : names down.peers.members ≡ others (table event dice (still core.membership)).downs core.membership.views.active
      were =
          members_after_downs core.gossip (table event dice (still core.membership)).downs lawful.one_down
          ∙ ap (others (table event dice (still core.membership)).downs) sound.members

      new : Each (λ name. has_name (names down.peers.members) name ≡ false) (table event dice (still core.membership)).ups
      new =
          each_one _ (table event dice (still core.membership)).ups
          (λ name h. ap (λ ns. has_name ns name) were ∙ lacks-others (table event dice (still core.membership)).downs core.membership.views.active name
          (of_each (λ n. has_name core.membership.views.active n ≡ false) (table event dice (still core.membership)).ups name lawful.ups_were_not h))

  moved_soundly : IsSoundPlum limits (gone_on core (by_membership core.membership core.gossip event dice))
  moved_soundly =
      record {
        views = lawful.sound;
        its_limits = lawful.limits_stay ∙ sound.its_limits;
        its_keep = came.same.keep ∙ went.same.keep ∙ sound.its_keep;
        owner = lawful.owner_stays ∙ sound.owner;
        its_gossip = came.same.me ∙ went.same.me ∙ sound.its_gossip;
        members = members_now;
        whole =
            ups_whole (table event dice (still core.membership)).ups down
            (downs_whole (table event dice (still core.membership)).downs core.gossip sound.whole);
      }

  -- nothing but links changed
  same_otherwise : after ≡ record core.gossip { peers = after.peers; missing = record { wants = after.missing.wants; timers = core.gossip.missing.timers } }
  same_otherwise = λ i. record {
    me = (came.same.me ∙ went.same.me) i;
    threshold = (came.same.threshold ∙ went.same.threshold) i;
    keep = (came.same.keep ∙ went.same.keep) i;
    spent = (came.same.spent ∙ went.same.spent) i;
    peers = after.peers;
    missing = record { wants = after.missing.wants; timers = (came.same.timers ∙ went.same.timers) i };
    known = (came.same.known ∙ went.same.known) i;
    held = (came.same.held ∙ went.same.held) i;
  }

  sends : List (Name × Frame)
  sends = numbered core.me core.framed (table event dice (still core.membership)).sends

  -- what is sent is about membership alone
  about : (P : Body → Type 0) →
      ((said : Body) → body_content said ≡ membership → P said) →
      Each (λ (send : Name × Frame). P send.1.body) (numbered core.me core.framed (table event dice (still core.membership)).sends)
  about P all =
      each-numbered core.me (λ to said. P said) core.framed (table event dice (still core.membership)).sends
      (each_one _ (table event dice (still core.membership)).sends (λ send h. all send.1 (of_each (λ s. body_content s.1 ≡ membership)
      (table event dice (still core.membership)).sends send (table_is_about_membership core.membership event dice) h)))

  carry : CarryNothing (numbered core.me core.framed (table event dice (still core.membership)).sends)
  carry = about (λ said. (body_content said).carried ≡ None) (λ said is. ap (λ (c : Content). c.carried) is)

  moves_lawfully :
      (stimulus : Stimulus Frame)
      → Delivers frame_content (plum_state core) stimulus []
      → core.gossip.spent ≡ count_after core.gossip.spent stimulus
      → ((s : List (Name × Frame)) (a : CoreState)
      → AnnouncesNothing frame_content s × KeepsQueue (plum_state core) a
      → FlushesQueue frame_content (plum_state core) stimulus s a)
      → ((s : List (Name × Frame)) (a : CoreState) → AsksNothing frame_content s → Fires frame_content (plum_state core) stimulus s a)
      → ((name : Name) (j : MsgId) (r : ℕ) → Announces frame_content stimulus name j r → ⊥)
      → ((j : MsgId) (name : Name) → IsAskedBy frame_content stimulus j name → ⊥)
      → StepLaws frame_content
      (plum_state core)
      stimulus
      (numbered core.me core.framed (table event dice (still core.membership)).sends)
      []
      (plum_state (gone_on core (by_membership core.membership core.gossip event dice)))
  moves_lawfully stimulus exact counted flushes fires announces asks =
      subst (λ (h : GossipState). StepLaws frame_content
      (plum_state core)
      stimulus
      (numbered core.me core.framed (table event dice (still core.membership)).sends)
      []
      (state_with (table event dice (still core.membership)).views.active (table event dice (still core.membership)).views.passive h))
      (sym same_otherwise)
      (delivers_nothing (plum_state core) stimulus
      (numbered core.me core.framed (table event dice (still core.membership)).sends)
      (table event dice (still core.membership)).views.active
      (table event dice (still core.membership)).views.passive
      after.peers.queued after.missing.wants core.gossip.missing.timers exact counted
      (carry_none (λ to j p. ((plum_state core).payload j ≡ Some p) × ((plum_state core).has j ≡ true))
      (numbered core.me core.framed (table event dice (still core.membership)).sends) carry)
      (each-numbered core.me (λ to said. to ≢ core.gossip.me.name) core.framed (table event dice (still core.membership)).sends
      (each_one _ (table event dice (still core.membership)).sends (λ send h same.
      of_each (λ s. s.0 ≢ core.membership.views.owner) (table event dice (still core.membership)).sends send lawful.to_others h (same ∙ is_owner))))
      (record {
        appears = each_one _ after.peers.queued (λ entry h. inl (went.queue_was entry (came.queue_was entry h)));
        leaves =
            flushes (numbered core.me core.framed (table event dice (still core.membership)).sends) _ (
              about (λ said. (body_content said).announced ≡ []) (λ said is. ap (λ (c : Content). c.announced) is),
              each_one _ core.gossip.peers.queued queue_stays,
            );
      })
      (record {
        taken = λ name j r a. absurd (announces name j r a);
        appears = each_one _ after.missing.wants (λ entry h. inl (went.wants_were entry (came.wants_were entry h)));
        arms = each_one _ core.gossip.missing.timers (λ j h. inl h);
      })
      (record {
        fires =
            fires (numbered core.me core.framed (table event dice (still core.membership)).sends) _
            (about (λ said. (body_content said).asked ≡ None) (λ said is. ap (λ (c : Content). c.asked) is));
        entry_stays = each_one _ core.gossip.missing.wants (λ entry h. elim (wants_stay entry h) [ inl stays ↦ inl stays | inr gone ↦ inr (inr (inr gone)) ]);
        timer_stays = each_one _ core.gossip.missing.timers (λ j h. inl h);
      })
      (record {
        answers = λ j name a. absurd (asks j name a);
        only = carry_none (λ to j p. IsOneOf j [] ⊎ (IsAskedBy frame_content stimulus j to × (is_some ((plum_state core).payload j) ≡ true)))
            (numbered core.me core.framed (table event dice (still core.membership)).sends) carry;
      }))

-- ---- one entry for a place

-- if places are distinct, each is counted once
queued_once : (queued : List (Name × MsgId × ℕ)) →
    IsDistinct queue.same_place (map queue.place_of queued) →
    (name : Name) (id : MsgId) →
    entries_queued id name queued ≤ 1
queued_once [] distinct name id = omega arith
queued_once (entry ∷ queued) distinct name id =
    subst (λ n. n ≤ 1) (sym (sum_by-cons (λ (e : Name × MsgId × ℕ). cond (same_name name e.0 && same_id id e.1) 1 0) entry queued))
    (go (queued_once queued (IsDistinct-tail queue.same_place (queue.place_of entry) (map queue.place_of queued) distinct) name id)
    (same_name name entry.0 && same_id id entry.1) refl)
  where
    none_more : (es : List (Name × MsgId × ℕ)) →
        Each (λ place. queue.same_place (queue.place_of entry) place ≡ false) (map queue.place_of es) →
        name ≡ entry.0 →
        id ≡ entry.1 →
        Each (λ (e : Name × MsgId × ℕ). (same_name name e.0 && same_id id e.1) ≡ false) es
    none_more es apart n i =
        each_one _ es (λ e h. subst (λ m. (same_name m e.0 && same_id id e.1) ≡ false) (sym n)
        (subst (λ k. (same_name entry.0 e.0 && same_id k e.1) ≡ false) (sym i) (of_map es apart e h)))
      where
        of_map : (xs : List (Name × MsgId × ℕ)) →
            Each (λ place. queue.same_place (queue.place_of entry) place ≡ false) (map queue.place_of xs) →
            (e : Name × MsgId × ℕ) →
            IsOneOf e xs →
            (same_name entry.0 e.0 && same_id entry.1 e.1) ≡ false
        of_map [] h e none = absurd none
        of_map (x ∷ xs) h e (inl same) = ap (λ (y : Name × MsgId × ℕ). same_name entry.0 y.0 && same_id entry.1 y.1) same ∙ h.0
        of_map (x ∷ xs) h e (inr later) = of_map xs h.1 e later

    go : entries_queued id name queued ≤ 1 → (b : Bool) → (same_name name entry.0 && same_id id entry.1) ≡ b → cond b 1 0 + entries_queued id name queued ≤ 1
    go few true is =
        subst (λ n. 1 + n ≤ 1) (sym (counts_none (λ (e : Name × MsgId × ℕ). same_name name e.0 && same_id id e.1) queued (none_more queued
        (IsDistinct-head queue.same_place (queue.place_of entry) (map queue.place_of queued) distinct)
        ((same_name-Decides name entry.0).0 (and_left (same_name name entry.0) (same_id id entry.1) is))
        ((same_id-Decides id entry.1).0 (and_right (same_name name entry.0) (same_id id entry.1) is)))))
        (omega arith)
    go few false is = omega (arith, few)

wanted_once : (wants : List (MsgId × Name × ℕ)) →
    IsDistinct want.same_place (map want.place_of wants) →
    (id : MsgId) (name : Name) →
    entries_wanted id name wants ≤ 1
wanted_once [] distinct id name = omega arith
wanted_once (entry ∷ wants) distinct id name =
    subst (λ n. n ≤ 1) (sym (sum_by-cons (λ (e : MsgId × Name × ℕ). cond (same_id id e.0 && same_name name e.1) 1 0) entry wants))
    (go (wanted_once wants (IsDistinct-tail want.same_place (want.place_of entry) (map want.place_of wants) distinct) id name)
    (same_id id entry.0 && same_name name entry.1) refl)
  where
    none_more : (es : List (MsgId × Name × ℕ)) →
        Each (λ place. want.same_place (want.place_of entry) place ≡ false) (map want.place_of es) →
        id ≡ entry.0 →
        name ≡ entry.1 →
        Each (λ (e : MsgId × Name × ℕ). (same_id id e.0 && same_name name e.1) ≡ false) es
    none_more es apart i n =
        each_one _ es (λ e h. subst (λ k. (same_id k e.0 && same_name name e.1) ≡ false) (sym i)
        (subst (λ m. (same_id entry.0 e.0 && same_name m e.1) ≡ false) (sym n) (of_map es apart e h)))
      where
        of_map : (xs : List (MsgId × Name × ℕ)) →
            Each (λ place. want.same_place (want.place_of entry) place ≡ false) (map want.place_of xs) →
            (e : MsgId × Name × ℕ) →
            IsOneOf e xs →
            (same_id entry.0 e.0 && same_name entry.1 e.1) ≡ false
        of_map [] h e none = absurd none
        of_map (x ∷ xs) h e (inl same) = ap (λ (y : MsgId × Name × ℕ). same_id entry.0 y.0 && same_name entry.1 y.1) same ∙ h.0
        of_map (x ∷ xs) h e (inr later) = of_map xs h.1 e later

    go : entries_wanted id name wants ≤ 1 → (b : Bool) → (same_id id entry.0 && same_name name entry.1) ≡ b → cond b 1 0 + entries_wanted id name wants ≤ 1
    go few true is =
        subst (λ n. 1 + n ≤ 1) (sym (counts_none (λ (e : MsgId × Name × ℕ). same_id id e.0 && same_name name e.1) wants (none_more wants
        (IsDistinct-head want.same_place (want.place_of entry) (map want.place_of wants) distinct)
        ((same_id-Decides id entry.0).0 (and_left (same_id id entry.0) (same_name name entry.1) is))
        ((same_name-Decides name entry.1).0 (and_right (same_id id entry.0) (same_name name entry.1) is)))))
        (omega arith)
    go few false is = omega (arith, few)

-- ---- all together

module _ (limits : Limits) (core : Plum) (sound : IsSoundPlum limits core) where
  abbrev Step : Stimulus Frame → Turned → Type 0
  Step stimulus t =
      StepLaws frame_content (plum_state core) stimulus (numbered core.me core.framed t.sends) (delivered_at core.me t.delivered) (plum_state (gone_on core t))
      × IsSoundPlum limits (gone_on core t)

  -- a name that is not the node's own is not the owner's
  other_owner : (name : Name) → name ≢ core.gossip.me.name → name ≢ core.membership.views.owner
  other_owner name apart same = apart (same ∙ sym (own_is_owner limits core sound))

  -- of two tests that do not hold together the first does not hold
  or_left : (b other : Bool) → (b || other) ≡ false → b ≡ false
  or_left true other is = is
  or_left false other is = refl

  -- a name that is not the node's own is not the gossip's own
  not_own : (name : Name) → same_name name core.me.name ≡ false → name ≢ core.gossip.me.name
  not_own name apart same = false≢true (sym apart ∙ (same_name-Decides name core.me.name).1 (same ∙ ap (λ (o : Origin). o.name) sound.its_gossip))

  -- a core that only sends stays sound
  same_sound : (framed : ℕ) → IsSoundPlum limits (record core { framed = framed })
  same_sound framed = record {
    views = sound.views;
    its_limits = sound.its_limits;
    its_keep = sound.its_keep;
    owner = sound.owner;
    its_gossip = sound.its_gossip;
    members = sound.members;
    whole = sound.whole;
  }

  -- JOIN to another node
  greets : (contact : Name) →
      contact ≢ core.gossip.me.name →
      StepLaws frame_content (plum_state core) (on.Join contact) (numbered core.me core.framed ((contact, body.Join) ∷ [])) [] (plum_state core)
  greets contact another =
      leaves_all (plum_state core) (on.Join contact) (numbered core.me core.framed ((contact, body.Join) ∷ [])) refl refl
      ((λ id p e. absurd (false≢true (ap is_some e))), tt) (another, tt) ((refl, tt), keeps_all (plum_state core)) (λ name j r a is. a) (refl, tt)
      (record { answers = λ j name a. absurd a; only = ((λ id p e. absurd (false≢true (ap is_some e))), tt) })

  module _ (sender : Origin) (another : sender.name ≢ core.gossip.me.name) (by : Origin) (number : ℕ) (dice : Dice) where
    abbrev Heard : Body → Type 0
    Heard said = Step (on.Arrive sender (record { sender = by; number = number; body = said }) dice) (heard core.membership core.gossip sender.name said dice)

    no_id : (j : MsgId) → None ≡ Some j → ⊥
    no_id j e = false≢true (ap is_some e)

    hears : (said : Body) → Heard said
    hears body.Join = (
      moves_lawfully limits core sound
          (heard_of.Join sender.name)
          dice
          (other_owner sender.name another)
          (on.Arrive sender (record { sender = by; number = number; body = body.Join }) dice)
          refl refl
          (λ s a h. h)
          (λ s a h. h)
          (λ name j r a. a.1)
          (λ j name a. no_id j a.0),
      moved_soundly limits core sound (heard_of.Join sender.name) dice (other_owner sender.name another),
    )
    hears (body.ForwardJoin new ttl) = (
      moves_lawfully limits core sound
          (heard_of.ForwardJoin sender.name new ttl)
          dice
          (other_owner sender.name another)
          (on.Arrive sender (record { sender = by; number = number; body = body.ForwardJoin new ttl }) dice)
          refl refl
          (λ s a h. h)
          (λ s a h. h)
          (λ name j r a. a.1)
          (λ j name a. no_id j a.0),
      moved_soundly limits core sound (heard_of.ForwardJoin sender.name new ttl) dice (other_owner sender.name another),
    )
    hears (body.Neighbor high) = (
      moves_lawfully limits core sound
          (heard_of.Neighbor sender.name high)
          dice
          (other_owner sender.name another)
          (on.Arrive sender (record { sender = by; number = number; body = body.Neighbor high }) dice)
          refl refl
          (λ s a h. h)
          (λ s a h. h)
          (λ name j r a. a.1)
          (λ j name a. no_id j a.0),
      moved_soundly limits core sound (heard_of.Neighbor sender.name high) dice (other_owner sender.name another),
    )
    hears (body.NeighborReply accepted) = (
      moves_lawfully limits core sound
          (heard_of.Reply sender.name accepted)
          dice
          (other_owner sender.name another)
          (on.Arrive sender (record { sender = by; number = number; body = body.NeighborReply accepted }) dice)
          refl refl
          (λ s a h. h)
          (λ s a h. h)
          (λ name j r a. a.1)
          (λ j name a. no_id j a.0),
      moved_soundly limits core sound (heard_of.Reply sender.name accepted) dice (other_owner sender.name another),
    )
    hears body.Disconnect = (
      moves_lawfully limits core sound
          (heard_of.Disconnect sender.name)
          dice
          (other_owner sender.name another)
          (on.Arrive sender (record { sender = by; number = number; body = body.Disconnect }) dice)
          refl refl
          (λ s a h. h)
          (λ s a h. h)
          (λ name j r a. a.1)
          (λ j name a. no_id j a.0),
      moved_soundly limits core sound (heard_of.Disconnect sender.name) dice (other_owner sender.name another),
    )
    hears (body.Shuffle origin ttl ns) = (
      moves_lawfully limits core sound
          (heard_of.Shuffle sender.name origin ttl ns)
          dice
          (other_owner sender.name another)
          (on.Arrive sender (record { sender = by; number = number; body = body.Shuffle origin ttl ns }) dice)
          refl refl
          (λ s a h. h)
          (λ s a h. h)
          (λ name j r a. a.1)
          (λ j name a. no_id j a.0),
      moved_soundly limits core sound (heard_of.Shuffle sender.name origin ttl ns) dice (other_owner sender.name another),
    )
    hears (body.ShuffleReply ns) = (
      moves_lawfully limits core sound
          (heard_of.ShuffleReply sender.name ns)
          dice
          (other_owner sender.name another)
          (on.Arrive sender (record { sender = by; number = number; body = body.ShuffleReply ns }) dice)
          refl refl
          (λ s a h. h)
          (λ s a h. h)
          (λ name j r a. a.1)
          (λ j name a. no_id j a.0),
      moved_soundly limits core sound (heard_of.ShuffleReply sender.name ns) dice (other_owner sender.name another),
    )
    hears (body.Gossip id round payload) = (
      gossips limits core sound sender another by number dice id round payload,
      sound_after limits core sound (call.OnGossip sender.name id round payload)
          (gossip_stays limits core sound sender another by number dice id round payload),
    )
    hears (body.IHave entries) = (
      hears_lawfully core.gossip core.membership.views.active core.membership.views.passive sound.members core.me core.framed sender by number dice entries,
      sound_after limits core sound (call.OnIHave sender.name entries) (either (Stays core.gossip)
          (is_member core.gossip.peers.members sender.name)
          (quiet (record core.gossip { missing = announced_all sender.name (filter (λ entry. is_news core.gossip entry.0) entries) core.gossip.missing }))
          (quiet core.gossip)
          (λ is. (refl, refl, refl))
          (λ is. (refl, refl, refl))),
    )
    hears (body.Graft id round) = (
      grafts limits core sound sender another by number dice id round,
      sound_after limits core sound (call.OnGraft sender.name id round) (names-with_kind sender.name Eager core.gossip.peers.members, refl, refl),
    )
    hears body.Prune = (
      prunes limits core sound sender another by number dice,
      sound_after limits core sound (call.OnPrune sender.name) (names-with_kind sender.name Lazy core.gossip.peers.members, refl, refl),
    )
    hears body.GraftPeer = (
      grafts_peer limits core sound sender another by number dice,
      sound_after limits core sound (call.OnGraftPeer sender.name) (names-with_kind sender.name Eager core.gossip.peers.members, refl, refl),
    )

  step_is_lawful : (stimulus : Stimulus Frame) → IsNotFrom core.gossip.me.name stimulus → Step stimulus (turned core.me core.membership core.gossip stimulus)
  step_is_lawful (on.Broadcast payload) from = broadcasts limits core sound payload
  step_is_lawful (on.Arrive sender frame dice) from =
      either (Step (on.Arrive sender frame dice)) (same_name sender.name core.me.name)
      (idle core.membership core.gossip) (heard core.membership core.gossip sender.name frame.body dice)
      (λ own. absurd (from ((same_name-Decides sender.name core.me.name).0 own ∙ sym (ap (λ (o : Origin). o.name) sound.its_gossip))))
      (λ apart. hears sender from frame.sender frame.number dice frame.body)
  step_is_lawful (on.Fire id) from = fires limits core sound id
  step_is_lawful on.Flush from = flushes limits core sound
  step_is_lawful (on.Down peer dice) from = (
    moves_lawfully limits core sound (heard_of.Down peer) dice tt (on.Down peer dice) refl refl (λ s a h. h) (λ s a h. h) (λ name j r a. a) (λ j name a. a),
    moved_soundly limits core sound (heard_of.Down peer) dice tt,
  )
  step_is_lawful (on.Shuffle dice) from = (
    moves_lawfully limits core sound heard_of.Tick dice tt (on.Shuffle dice) refl refl (λ s a h. h) (λ s a h. h) (λ name j r a. a) (λ j name a. a),
    moved_soundly limits core sound heard_of.Tick dice tt,
  )
  step_is_lawful (on.Join contact) from =
      either (Step (on.Join contact)) (is_joined core.me core.membership contact)
      (idle core.membership core.gossip) (greeting core.membership core.gossip contact)
      (λ joined. (
        leaves_all (plum_state core) (on.Join contact) [] refl refl tt tt (tt, keeps_all (plum_state core))
            (λ name j r a is. a) tt (record { answers = λ j name a. absurd a; only = tt }),
        same_sound _,
      ))
      (λ apart. (
        greets contact (not_own contact (or_left (same_name contact core.me.name) (has_name core.membership.views.active contact) apart)),
        same_sound _,
      ))

  -- what a sound core shows is as the laws require
  always : StateLaws limits (plum_state core)
  always =
      record {
        views =
            record {
              active_within = subst (λ (l : Limits). length core.membership.views.active ≤ l.active) sound.its_limits sound.views.active_within;
              passive_within = subst (λ (l : Limits). length core.membership.views.passive ≤ l.passive) sound.its_limits sound.views.passive_within;
              active_distinct = sound.views.active_distinct;
              passive_distinct = sound.views.passive_distinct;
              active_of_others = ap (has_name core.membership.views.active) (own_is_owner limits core sound) ∙ sound.views.active_of_others;
              passive_of_others = ap (has_name core.membership.views.passive) (own_is_owner limits core sound) ∙ sound.views.passive_of_others;
            };
        counted = sound.whole.store.counted;
        holds = λ all. sound.whole.known_is_held (sound.its_keep ∙ all);
        lists = found_by_key core.gossip.held;
        queue =
            record {
              of_members =
                  each_one _ core.gossip.peers.queued
                  (λ entry h. sym (is_member-names core.gossip.peers.members entry.0 ∙ ap (λ ns. has_name ns entry.0) sound.members)
                  ∙ of_each (λ e. is_member core.gossip.peers.members e.0 ≡ true) core.gossip.peers.queued entry sound.whole.peers.for_members h);
              of_had = sound.whole.queued_is_known;
              once = queued_once core.gossip.peers.queued sound.whole.peers.once;
            };
        wants =
            record {
              by_members =
                  subst (λ ns. Each (λ (entry : MsgId × Name × ℕ). has_name ns entry.1 ≡ true) core.gossip.missing.wants)
                  sound.members sound.whole.wants_of_members;
              of_lacked =
                  each_one _ core.gossip.missing.wants (λ entry h.
                  unknown entry.0 (of_each (λ e. IsLacked core.gossip.known core.gossip.me e.0) core.gossip.missing.wants entry sound.whole.wants_lacked h));
              once = wanted_once core.gossip.missing.wants sound.whole.missing.once;
              armed =
                  each_one _ core.gossip.missing.wants (λ entry h. one_of_ids entry.0 core.gossip.missing.timers
                  (of_each (λ e. has_id core.gossip.missing.timers e.0 ≡ true) core.gossip.missing.wants entry sound.whole.missing.armed h));
              timers_lack =
                  each_one _ core.gossip.missing.timers
                  (λ id h. unknown id (of_each (λ i. IsLacked core.gossip.known core.gossip.me i) core.gossip.missing.timers id sound.whole.timers_lacked h));
            };
      }
    where
      unknown : (id : MsgId) → IsLacked core.gossip.known core.gossip.me id → set.contains core.gossip.known id ≡ false
      unknown id lacked = lacked.unknown

-- ---- what it lists

-- a call lists what it delivers
module _ (me : Origin) (g : GossipState) where
  abbrev Lists : Outcome → Type 0
  Lists done = KeepsLast g.keep (keys_of g.held) (ids (delivered_at me done.delivered)) (keys_of done.state.held)

  swap_lists : (sender : Name) (announcer : Option Name) (done : Outcome) → Lists done → Lists (swapped sender announcer done)
  swap_lists sender None done lists = lists
  swap_lists sender (Some peer) done lists = lists

  fire_lists : (id : MsgId) (first : Option (Name × ℕ)) → Lists (asked id first (record g { missing = taken_first id g.missing }))
  fire_lists id None = keeps_all_listed g.keep (keys_of g.held)
  fire_lists id (Some first) = keeps_all_listed g.keep (keys_of g.held)

  still_listed : KeepsLast g.keep (keys_of g.held) [] (keys_of g.held)
  still_listed = keeps_all_listed g.keep (keys_of g.held)

  call_lists : (c : Call) → Lists (outcome g c)
  call_lists (call.Broadcast payload) = keeps_delivered g.keep me g.held (next_id g) payload
  call_lists (call.OnGossip sender id round payload) =
      either Lists (set.contains g.known id) (repeated sender g)
      (if is_news g id then swapped sender (shortcut g sender id round) (first_copy sender id round payload g) else quiet g)
      (λ is. either Lists (is_member g.peers.members sender) (record { state = with_peer sender Lazy g; sends = (sender, body.Prune) ∷ []; delivered = None })
      (quiet g) (λ member. still_listed) (λ stranger. still_listed))
      (λ is. either Lists
      (is_news g id)
      (swapped sender (shortcut g sender id round) (first_copy sender id round payload g))
      (quiet g)
      (λ news. swap_lists sender (shortcut g sender id round) (first_copy sender id round payload g) (keeps_delivered g.keep me g.held id payload))
      (λ old. still_listed))
  call_lists (call.OnIHave sender entries) =
      either Lists
      (is_member g.peers.members sender)
      (quiet (record g { missing = announced_all sender (filter (λ entry. is_news g entry.0) entries) g.missing }))
      (quiet g)
      (λ member. still_listed)
      (λ stranger. still_listed)
  call_lists (call.Fire id) =
      either Lists (has_id g.missing.timers id) (asked id (first_want id g.missing.wants) (record g { missing = taken_first id g.missing }))
      (quiet g) (λ is. fire_lists id (first_want id g.missing.wants)) (λ is. still_listed)
  call_lists (call.OnGraft sender id round) = still_listed
  call_lists (call.OnGraftPeer sender) = still_listed
  call_lists (call.OnPrune sender) = still_listed
  call_lists call.Flush = still_listed
  call_lists (call.Up peer) = still_listed
  call_lists (call.Down peer) = still_listed

-- and so does a turn
module _ (me : Origin) (m : Membership) (g : GossipState) where
  abbrev TurnLists : Turned → Type 0
  TurnLists t = KeepsLast g.keep (keys_of g.held) (ids (delivered_at me t.delivered)) (keys_of t.gossip.held)

  moves_list : (event : Event) (dice : Dice) → TurnLists (by_membership m g event dice)
  moves_list event dice =
      let down : GossipState = after_downs (table event dice (still m)).downs g in
      let went : Linked g (table event dice (still m)).downs down = after_all_downs (table event dice (still m)).downs g in
      let came : Linked down [] (after_ups (table event dice (still m)).ups down) = after_all_ups (table event dice (still m)).ups down in
      subst (λ held. KeepsLast g.keep (keys_of g.held) [] (keys_of held)) (sym (came.same.held ∙ went.same.held)) (keeps_all_listed g.keep (keys_of g.held))

  heard_lists : (sender : Name) (said : Body) (dice : Dice) → TurnLists (heard m g sender said dice)
  heard_lists sender body.Join dice = moves_list (heard_of.Join sender) dice
  heard_lists sender (body.ForwardJoin new ttl) dice = moves_list (heard_of.ForwardJoin sender new ttl) dice
  heard_lists sender (body.Neighbor high) dice = moves_list (heard_of.Neighbor sender high) dice
  heard_lists sender (body.NeighborReply accepted) dice = moves_list (heard_of.Reply sender accepted) dice
  heard_lists sender body.Disconnect dice = moves_list (heard_of.Disconnect sender) dice
  heard_lists sender (body.Shuffle origin ttl ns) dice = moves_list (heard_of.Shuffle sender origin ttl ns) dice
  heard_lists sender (body.ShuffleReply ns) dice = moves_list (heard_of.ShuffleReply sender ns) dice
  heard_lists sender (body.Gossip id round payload) dice = call_lists me g (call.OnGossip sender id round payload)
  heard_lists sender (body.IHave entries) dice = call_lists me g (call.OnIHave sender entries)
  heard_lists sender (body.Graft id round) dice = call_lists me g (call.OnGraft sender id round)
  heard_lists sender body.Prune dice = call_lists me g (call.OnPrune sender)
  heard_lists sender body.GraftPeer dice = call_lists me g (call.OnGraftPeer sender)

  turn_lists : (stimulus : Stimulus Frame) → TurnLists (turned me m g stimulus)
  turn_lists (on.Broadcast payload) = call_lists me g (call.Broadcast payload)
  turn_lists (on.Arrive sender frame dice) =
      either TurnLists (same_name sender.name me.name) (idle m g) (heard m g sender.name frame.body dice)
      (λ own. keeps_all_listed g.keep (keys_of g.held)) (λ apart. heard_lists sender.name frame.body dice)
  turn_lists (on.Fire id) = call_lists me g (call.Fire id)
  turn_lists on.Flush = call_lists me g call.Flush
  turn_lists (on.Down peer dice) = moves_list (heard_of.Down peer) dice
  turn_lists (on.Shuffle dice) = moves_list heard_of.Tick dice
  turn_lists (on.Join contact) =
      either TurnLists (is_joined me m contact) (idle m g) (greeting m g contact)
      (λ joined. keeps_all_listed g.keep (keys_of g.held)) (λ apart. keeps_all_listed g.keep (keys_of g.held))

keeps_last : (limits : Limits) (old : Plum) →
    IsSoundPlum limits old →
    (stimulus : Stimulus Frame) (sends : List (Name × Frame)) (given : List Delivery) (new : Plum) →
    PlumSteps old stimulus sends given new →
    KeepsLast limits.keep (plum_state old).held (ids given) (plum_state new).held
keeps_last limits old sound stimulus packets given new steps =
    subst (λ keep. KeepsLast keep (plum_state old).held (ids given) (plum_state new).held) sound.its_keep
    (subst (λ n. KeepsLast old.gossip.keep (plum_state old).held (ids given) (plum_state n).held) (sym steps.leaves)
    (subst (λ d. KeepsLast old.gossip.keep (plum_state old).held (ids d) (plum_state (gone_on old (turned old.me old.membership old.gossip stimulus))).held)
    (sym steps.delivers)
    (turn_lists old.me old.membership old.gossip stimulus)))

-- The core meets the nine laws.
pub plum_lawful : Laws plum_state frame_content IsSoundPlum PlumStarts PlumSteps
plum_lawful =
    record {
      start = λ me limits peers contact sends core fit started. starting.starts_uncounted me limits peers contact sends core fit started;
      start_sound = λ me limits peers contact sends core fit started. starting.starts_soundly 0 0 me limits peers contact sends core fit started;
      always = always;
      keeps = λ limits old stimulus sends given new sound from steps. keeps_last limits old sound stimulus sends given new steps;
      step =
          λ limits old stimulus sends given new sound from steps. subst (λ n. StepLaws frame_content (plum_state old) stimulus sends given (plum_state n))
          (sym steps.leaves)
          (subst (λ d. StepLaws frame_content (plum_state old) stimulus sends d (plum_state (gone_on old (turned old.me old.membership old.gossip stimulus))))
          (sym steps.delivers) (subst (λ s. StepLaws frame_content
          (plum_state old)
          stimulus s
          (delivered_at old.me (turned old.me old.membership old.gossip stimulus).delivered)
          (plum_state (gone_on old (turned old.me old.membership old.gossip stimulus)))) (sym steps.sent) (step_is_lawful limits old sound stimulus from).0));
      step_sound =
          λ limits old stimulus sends given new sound from steps.
          subst (IsSoundPlum limits) (sym steps.leaves) (step_is_lawful limits old sound stimulus from).1;
    }
