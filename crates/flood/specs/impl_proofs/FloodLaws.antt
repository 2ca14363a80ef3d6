-- The flooding core meets all nine laws: a proof, with nothing to take on trust.
use Rattle.std.specs.Prelude.{◌≡◌, ◌≢◌, ◌⊎◌, ◌+◌, ◌<◌, ◌≤◌, ◌&&◌, ℕ, Bool, true, false, not, List, [], ◌∷◌}
use Rattle.std.specs.Prelude.{◌++◌, Option, Some, None, is_some, IsSome, length, refl, IsTrue, nat_le}
use Rattle.std.specs.Bool.{MatchBool}
use Rattle.std.specs.List.{AllByRecursion as Each, IsDistinct}
use Rattle.std.specs.Map.{keys_of, lookup}
use Rattle.std.specs.Set.{remove_key}
use Rattle.std.proofs.Common.{inl, inr, sym, ◌∙◌, ap, subst, append-nil, zero-le}
use Rattle.std.proofs.Math.Nat.{le_trans, lt_irrefl}
use Rattle.std.proofs.Math.Numerals.{lt-add-one}
use Rattle.std.proofs.lemmas.Bool.{true≢false, false≢true}
use Rattle.node_names.specs.NodeName.{Name}
use Rattle.node_names.specs.Limits.{Limits}
use Rattle.node_names.specs.Same.{same_name, same_id, same_origin, has_name, same_name-laws, same_origin-Decides, is_left_out}
use Rattle.node_names.specs.declared.dice.Dice.{Dice}
use Rattle.node_names.specs.declared.ids.MsgId.{MsgId}
use Rattle.node_names.specs.declared.ids.Origin.{Origin}
use Rattle.protocol.specs.AskLaw.{Fires}
use Rattle.protocol.specs.Delivery.{Delivery}
use Rattle.protocol.specs.DeliveryLaw.{Delivers, IsNews, count_after, ids}
use Rattle.protocol.specs.impl_proofs.NameLists.{and_left, and_right, not_true, within_bound, distinct_peers}
use Rattle.protocol.specs.impl_proofs.NameLists.{distinct_none, distinct-remove_key, shorter-remove_key, lacks-remove_key}
use Rattle.protocol.specs.impl_proofs.Held.{found_by_key, keys_after_push}
use Rattle.protocol.specs.HoldLaw.{IsAskedBy, KeepsLast}
use Rattle.protocol.specs.Laws.{IsSilent, Laws, StartLaws, StateLaws, StepLaws}
use Rattle.protocol.specs.Lists.{IsOneOf}
use Rattle.protocol.specs.PayloadLaw.{Brings}
use Rattle.protocol.specs.Peers.{are_peers, are_distinct, is_contact}
use Rattle.protocol.specs.QueueLaw.{FlushesQueue}
use Rattle.protocol.specs.SpreadLaw.{is_from}
use Rattle.protocol.specs.Stimulus.{Stimulus}
use Rattle.protocol.specs.WantLaw.{Announces}
use Rattle.protocol.specs.declared.stimulus.StimulusOf.TheVariants.{Broadcast, Arrive, Fire, Flush, Down, Shuffle, Join}
use Rattle.flood.specs.FloodCore.{Flooding, Message, FloodStarts, FloodSteps, Takes, IsIdle, DropsPeer, IsSoundFlooding}
use Rattle.flood.specs.FloodCore.{HoldsCounted, flood_state, note_content, others, is_news, payload_of}
use Rattle.flood.specs.impl_proofs.FloodSpread.{gets_share}
use Rattle.flood.specs.impl_proofs.FloodTakes.{taken_sends, taken_given, taken_core, by_takes, each_carries, takes_views}
use Rattle.flood.specs.impl_proofs.FloodTakes.{announces_nothing, asks_nothing, takes_payloads, takes_deliveries}
use Rattle.flood.specs.impl_proofs.Counted.{counts_others, counts_next}

-- ---- the start

-- peers that a node may start with are others
peers_are_others : (limits : Limits) (owner : Name) (peers : List Name) (contact : Option Name) →
    IsTrue (are_peers limits owner peers contact) →
    has_name peers owner ≡ false
peers_are_others limits owner peers contact fit =
    not_true (has_name peers owner) (and_left (not (has_name peers owner)) (not (is_contact contact owner)) (and_right (are_distinct peers)
    (not (has_name peers owner) && not (is_contact contact owner))
    (and_right (nat_le (length peers) limits.active) (are_distinct peers && (not (has_name peers owner) && not (is_contact contact owner))) fit)))

-- and fit the active view
peers_fit : (limits : Limits) (owner : Name) (peers : List Name) (contact : Option Name) →
    IsTrue (are_peers limits owner peers contact) →
    length peers ≤ limits.active
peers_fit limits owner peers contact fit =
    within_bound (length peers) limits.active
    (and_left (nat_le (length peers) limits.active) (are_distinct peers && (not (has_name peers owner) && not (is_contact contact owner))) fit)

starts_well : (me : Origin) (limits : Limits) (peers : List Name) (contact : Option Name) (sends : List (Name × Message)) (core : Flooding) →
    FloodStarts me limits peers contact sends core →
    StartLaws note_content me peers sends (flood_state core)
starts_well me limits peers contact sends core started =
    record {
      is_me = started.is_me;
      has_nothing = λ id. ap (λ held. is_some (lookup (same_id id) held)) started.holds_nothing;
      holds_nothing = λ id. ap (lookup (same_id id)) started.holds_nothing;
      lists_nothing = ap keys_of started.holds_nothing;
      active_are_peers = started.its_peers;
      passive_is_empty = refl;
      queue_is_empty = refl;
      wants_nothing = refl;
      arms_nothing = refl;
      counts_nothing = started.counts_nothing;
      sends_to_others = subst (Each (λ (send : Name × Message). send.0 ≢ me.name)) (sym started.silent) tt;
      sends_silent = subst (Each (λ (send : Name × Message). IsSilent (note_content send.1))) (sym started.silent) tt;
    }

-- a core that holds nothing has counted all that it holds
holds_none : (me : Origin) (held : List (MsgId × List ℕ)) (count : ℕ) → held ≡ [] → HoldsCounted me held count
holds_none me held count none id is mine = absurd (false≢true (subst (λ h. is_some (lookup (same_id id) h) ≡ true) none is))

starts_soundly : (me : Origin) (limits : Limits) (peers : List Name) (contact : Option Name) (sends : List (Name × Message)) (core : Flooding) →
    IsTrue (are_peers limits me.name peers contact) →
    FloodStarts me limits peers contact sends core →
    IsSoundFlooding limits core
starts_soundly me limits peers contact sends core fit started =
    record {
      within = subst (λ names. length names ≤ limits.active) (sym started.its_peers) (peers_fit limits me.name peers contact fit);
      distinct = subst (IsDistinct same_name) (sym started.its_peers) (distinct_peers limits me.name peers contact fit);
      of_others =
          subst (λ names. has_name names core.me.name ≡ false) (sym started.its_peers)
          (subst (λ (owner : Origin). has_name peers owner.name ≡ false) (sym started.is_me) (peers_are_others limits me.name peers contact fit));
      counted = holds_none core.me core.held core.count started.holds_nothing;
    }

-- ---- what always holds

stays_lawful : (limits : Limits) (core : Flooding) → IsSoundFlooding limits core → StateLaws limits (flood_state core)
stays_lawful limits core sound =
    record {
      views =
          record {
            active_within = sound.within;
            passive_within = zero-le;
            active_distinct = sound.distinct;
            passive_distinct = distinct_none;
            active_of_others = sound.of_others;
            passive_of_others = refl;
          };
      counted = sound.counted;
      holds = λ all id has. has;
      lists = found_by_key core.held;
      queue = record { of_members = tt; of_had = tt; once = λ name id. zero-le };
      wants = record { by_members = tt; of_lacked = tt; once = λ id name. zero-le; armed = tt; timers_lack = tt };
    }

-- ---- a message is taken

module _ (limits : Limits) (old : Flooding) (sound : IsSoundFlooding limits old) (id : MsgId)
    (payload : List ℕ) (left_out : Option Name) (count : ℕ) (stimulus : Stimulus Message) where
  -- taking a message that the stimulus brings meets each law, where the stimulus neither announces nor asks for
  -- anything
  takes_lawfully :
      Brings note_content (flood_state old) stimulus id payload
      → Delivers note_content (flood_state old) stimulus (id ∷ [])
      → is_some (payload_of old id) ≡ false
      → count ≡ count_after old.count stimulus
      → ((name : Name) → is_from name stimulus ≡ is_left_out left_out name)
      → FlushesQueue note_content (flood_state old) stimulus (taken_sends old id payload left_out) (flood_state (taken_core old id payload count))
      → Fires note_content (flood_state old) stimulus (taken_sends old id payload left_out) (flood_state (taken_core old id payload count))
      → ((name : Name) (j : MsgId) (round : ℕ) → Announces note_content stimulus name j round → ⊥)
      → ((j : MsgId) (name : Name) → IsAskedBy note_content stimulus j name → ⊥)
      → StepLaws note_content (flood_state old) stimulus (taken_sends old id payload left_out)
      (taken_given old id payload) (flood_state (taken_core old id payload count))
  takes_lawfully brings exact fresh counted from leaves fires announces asks =
      record {
        identity = refl;
        payloads = takes_payloads old id payload left_out count stimulus brings;
        deliveries = takes_deliveries old id payload left_out count stimulus exact fresh counted;
        views = takes_views old id payload left_out count sound.of_others;
        spread = (λ name. gets_share id payload left_out (taken_core old id payload count) sound.distinct stimulus name (from name), tt);
        queue = record { appears = tt; leaves = leaves };
        wants = record { taken = λ name j round a. absurd (announces name j round a); appears = tt; arms = tt };
        asks = record { fires = fires; entry_stays = tt; timer_stays = tt };
        holds =
            record {
              answers = λ j name a. absurd (asks j name a);
              only =
                  each_carries old id payload left_out count
                  (λ peer j q. IsOneOf j (id ∷ []) ⊎ (IsAskedBy note_content stimulus j peer × IsSome (payload_of old j))) (λ peer. inl (inl refl));
            };
      }

-- ---- nothing is taken

module _ (old : Flooding) (peers : List Name) (stimulus : Stimulus Message) where
  -- where the stimulus neither demands nor announces nor asks for anything, a core that only has other peers meets each
  -- law
  rests_lawfully :
      Delivers note_content (flood_state old) stimulus []
      → old.count ≡ count_after old.count stimulus
      → FlushesQueue note_content (flood_state old) stimulus [] (flood_state (record old { peers = peers }))
      → Fires note_content (flood_state old) stimulus [] (flood_state (record old { peers = peers }))
      → ((name : Name) (j : MsgId) (round : ℕ) → Announces note_content stimulus name j round → ⊥)
      → ((j : MsgId) (name : Name) → IsAskedBy note_content stimulus j name → ⊥)
      → StepLaws note_content (flood_state old) stimulus [] [] (flood_state (record old { peers = peers }))
  rests_lawfully exact counted leaves fires announces asks =
      record {
        identity = refl;
        payloads = record { sent = tt; delivered = tt; held = λ j q e. inl e; sender_has = tt };
        deliveries =
            record {
              exact = exact;
              here = tt;
              fresh = tt;
              grows = λ j. (λ h. inl h, λ h. elim h [ inl was ↦ was | inr none ↦ absurd none ]);
              counted = counted;
            };
        views = tt;
        spread = tt;
        queue = record { appears = tt; leaves = leaves };
        wants = record { taken = λ name j round a. absurd (announces name j round a); appears = tt; arms = tt };
        asks = record { fires = fires; entry_stays = tt; timer_stays = tt };
        holds = record { answers = λ j name a. absurd (asks j name a); only = tt };
      }

-- what holds of nothing sent and delivered and of the old core holds of an idle step
by_idle : (old : Flooding) {sends : List (Name × Message)} {given : List Delivery}
    {new : Flooding} (P : List (Name × Message) → List Delivery → Flooding → Type 0) → IsIdle old sends given new → P [] [] old → P sends given new
by_idle old {sends} {given} {new} P idle p =
    subst (λ n. P sends given n) (sym idle.stays) (subst (λ g. P sends g old) (sym idle.delivers_nothing) (subst (λ s. P s [] old) (sym idle.sends_nothing) p))

-- and likewise of a failed link
by_drops : (old : Flooding) (peer : Name) {sends : List (Name × Message)} {given : List Delivery}
    {new : Flooding} (P : List (Name × Message) → List Delivery → Flooding → Type 0) →
    DropsPeer old peer sends given new →
    P [] [] (record old { peers = remove_key (same_name peer) old.peers }) →
    P sends given new
by_drops old peer {sends} {given} {new} P drops p =
    subst (λ n. P sends given n) (sym drops.without) (subst (λ g. P sends g (record old { peers = remove_key (same_name peer) old.peers }))
    (sym drops.delivers_nothing) (subst (λ s. P s [] (record old { peers = remove_key (same_name peer) old.peers })) (sym drops.sends_nothing) p))

-- ---- news

-- the test of news tells what is news
news : (old : Flooding) (id : MsgId) → is_news old id ≡ true → IsNews (flood_state old) id
news old id h = (not_true (is_some (payload_of old id)) (and_left (not (is_some (payload_of old id))) (not (same_origin id.origin old.me)) h), apart)
  where
    apart : id.origin ≢ old.me
    apart same =
        let yes : same_origin id.origin old.me ≡ true = (same_origin-Decides id.origin old.me).1 same in
        let not_same : same_origin id.origin old.me ≡ false =
        not_true (same_origin id.origin old.me) (and_right (not (is_some (payload_of old id))) (not (same_origin id.origin old.me)) h) in
        absurd (true≢false (sym yes ∙ not_same))

-- and what is not
no_news : (old : Flooding) (id : MsgId) → is_news old id ≡ false → IsNews (flood_state old) id → ⊥
no_news old id h is = go (same_origin id.origin old.me) refl (sym (ap (λ b. not b && not (same_origin id.origin old.me)) is.0) ∙ h)
  where
    go : (b : Bool) → same_origin id.origin old.me ≡ b → not b ≡ false → ⊥
    go true same e = is.1 ((same_origin-Decides id.origin old.me).0 same)
    go false same e = absurd (true≢false e)

-- the core's own next message is not held
next_is_fresh : (me : Origin) (held : List (MsgId × List ℕ)) (count : ℕ) →
    HoldsCounted me held count →
    is_some (lookup (same_id (record { origin = me; seq = count + 1 })) held) ≡ false
next_is_fresh me held count counted = go (is_some (lookup (same_id (record { origin = me; seq = count + 1 })) held)) refl
  where
    go : (b : Bool) → is_some (lookup (same_id (record { origin = me; seq = count + 1 })) held) ≡ b → b ≡ false
    go true is =
        let bounds : (0 < count + 1) × (count + 1 ≤ count) = counted (record { origin = me; seq = count + 1 }) is refl in
        absurd (lt_irrefl count (le_trans (lt-add-one count) bounds.1))
    go false is = refl

-- ---- the steps

-- what a step has to show, and that it leads to a sound core
abbrev Lawful : Limits → Flooding → Stimulus Message → List (Name × Message) → List Delivery → Flooding → Type 0
Lawful limits old stimulus sends given new = StepLaws note_content (flood_state old) stimulus sends given (flood_state new) × IsSoundFlooding limits new

module _ (limits : Limits) (old : Flooding) (sound : IsSoundFlooding limits old) where
  broadcasts : (payload : List ℕ) →
      Lawful limits old
      (Broadcast payload)
      (taken_sends old (record { origin = old.me; seq = old.count + 1 }) payload None)
      (taken_given old (record { origin = old.me; seq = old.count + 1 }) payload)
      (taken_core old (record { origin = old.me; seq = old.count + 1 }) payload (old.count + 1))
  broadcasts payload =
      let id : MsgId = record { origin = old.me; seq = old.count + 1 } in (
        takes_lawfully limits old sound id payload None
            (old.count + 1)
            (Broadcast payload)
            (refl, refl)
            refl
            (next_is_fresh old.me old.held old.count sound.counted)
            refl
            (λ name. refl)
            (announces_nothing old id payload None old.count, tt)
            (asks_nothing old id payload None old.count)
            (λ name j round a. a)
            (λ j name a. a),
        record {
          within = sound.within;
          distinct = sound.distinct;
          of_others = sound.of_others;
          counted = counts_next old.me old.held old.count id payload sound.counted refl;
        },
      )

  takes_news : (sender : Origin) (note : Message) (dice : Dice) →
      IsNews (flood_state old) note.id →
      Lawful limits old (Arrive sender note dice) (taken_sends old note.id note.payload (Some sender.name))
      (taken_given old note.id note.payload) (taken_core old note.id note.payload old.count)
  takes_news sender note dice is = (
    takes_lawfully limits old sound note.id note.payload
        (Some sender.name)
        old.count
        (Arrive sender note dice)
        refl
        (inl (is, refl))
        is.0 refl
        (λ name. same_name-laws.symm name sender.name)
        (announces_nothing old note.id note.payload (Some sender.name) old.count, tt)
        (asks_nothing old note.id note.payload (Some sender.name) old.count)
        (λ name j round a. a.1)
        (λ j name a. absurd (false≢true (ap is_some a.0))),
    record {
      within = sound.within;
      distinct = sound.distinct;
      of_others = sound.of_others;
      counted = counts_others old.me old.held old.count note.id note.payload sound.counted is.1;
    },
  )

  leaves_known : (sender : Origin) (note : Message) (dice : Dice) →
      (IsNews (flood_state old) note.id → ⊥) →
      Lawful limits old (Arrive sender note dice) [] [] old
  leaves_known sender note dice known = (
    rests_lawfully old old.peers (Arrive sender note dice) (inr (known, refl)) refl
        (tt, tt) tt (λ name j round a. a.1) (λ j name a. absurd (false≢true (ap is_some a.0))),
    sound,
  )

  fires_nothing : (id : MsgId) → Lawful limits old (Fire id) [] [] old
  fires_nothing id = (
    rests_lawfully old old.peers (Fire id) refl refl (tt, tt)
        (inl (record { unarmed = λ h. h; unchanged = refl; silent = refl })) (λ name j round a. a) (λ j name a. a),
    sound,
  )

  flushes_nothing : Lawful limits old Flush [] [] old
  flushes_nothing = (rests_lawfully old old.peers Flush refl refl (λ name id round. refl, refl) tt (λ name j round a. a) (λ j name a. a), sound)

  shuffles_nothing : (dice : Dice) → Lawful limits old (Shuffle dice) [] [] old
  shuffles_nothing dice = (rests_lawfully old old.peers (Shuffle dice) refl refl (tt, tt) tt (λ name j round a. a) (λ j name a. a), sound)

  joins_nothing : (contact : Name) → Lawful limits old (Join contact) [] [] old
  joins_nothing contact = (rests_lawfully old old.peers (Join contact) refl refl (tt, tt) tt (λ name j round a. a) (λ j name a. a), sound)

  drops_peer : (peer : Name) (dice : Dice) → Lawful limits old (Down peer dice) [] [] (record old { peers = remove_key (same_name peer) old.peers })
  drops_peer peer dice = (
    rests_lawfully old (remove_key (same_name peer) old.peers) (Down peer dice) refl refl (tt, tt) tt (λ name j round a. a) (λ j name a. a),
    record {
      within = le_trans (shorter-remove_key (same_name peer) old.peers) sound.within;
      distinct = distinct-remove_key (same_name peer) old.peers sound.distinct;
      of_others = lacks-remove_key (same_name peer) old.me.name old.peers sound.of_others;
      counted = sound.counted;
    },
  )

  steps_lawfully : (stimulus : Stimulus Message) (sends : List (Name × Message)) (given : List Delivery) (new : Flooding) →
      FloodSteps old stimulus sends given new →
      Lawful limits old stimulus sends given new
  steps_lawfully (Broadcast payload) sends given new h =
      by_takes old (record { origin = old.me; seq = old.count + 1 }) payload None
      (old.count + 1) (Lawful limits old (Broadcast payload)) h.1 (broadcasts payload)
  steps_lawfully (Arrive sender note dice) sends given new h = go (is_news old note.id) refl h
    where
      go : (b : Bool) →
          is_news old note.id ≡ b →
          MatchBool b (Takes old note.id note.payload (others (Some sender.name) old.peers) old.count sends given new) (IsIdle old sends given new) →
          Lawful limits old (Arrive sender note dice) sends given new
      go true is t =
          by_takes old note.id note.payload (Some sender.name) old.count
          (Lawful limits old (Arrive sender note dice)) t (takes_news sender note dice (news old note.id is))
      go false is t = by_idle old (Lawful limits old (Arrive sender note dice)) t (leaves_known sender note dice (no_news old note.id is))
  steps_lawfully (Fire id) sends given new h = by_idle old (Lawful limits old (Fire id)) h (fires_nothing id)
  steps_lawfully Flush sends given new h = by_idle old (Lawful limits old Flush) h flushes_nothing
  steps_lawfully (Down peer dice) sends given new h = by_drops old peer (Lawful limits old (Down peer dice)) h (drops_peer peer dice)
  steps_lawfully (Shuffle dice) sends given new h = by_idle old (Lawful limits old (Shuffle dice)) h (shuffles_nothing dice)
  steps_lawfully (Join contact) sends given new h = by_idle old (Lawful limits old (Join contact)) h (joins_nothing contact)

-- ---- what is held

-- the core lists what it listed and then what it delivers, and forgets nothing
keeps_all : (keep : ℕ) (before delivered after : List MsgId) → after ≡ before ++ delivered → KeepsLast keep before delivered after
keeps_all keep before delivered after is =
    record {
      last = record { forgotten = []; in_order = sym is; enough = inl refl };
      stays = λ none. is ∙ ap (λ more. before ++ more) none ∙ append-nil before;
    }

takes_listed : (keep : ℕ) (old : Flooding) (id : MsgId) (payload : List ℕ) (left_out : Option Name)
    (count : ℕ) (sends : List (Name × Message)) (given : List Delivery) (new : Flooding) →
    Takes old id payload (others left_out old.peers) count sends given new →
    KeepsLast keep (flood_state old).held (ids given) (flood_state new).held
takes_listed keep old id payload left_out count sends given new t =
    by_takes old id payload left_out count (λ _ g n. KeepsLast keep (flood_state old).held (ids g) (flood_state n).held) t
    (keeps_all keep (flood_state old).held (id ∷ []) (keys_of (taken_core old id payload count).held) (keys_after_push old.held id payload))

idle_listed : (keep : ℕ) (old : Flooding) (sends : List (Name × Message)) (given : List Delivery) (new : Flooding) →
    IsIdle old sends given new →
    KeepsLast keep (flood_state old).held (ids given) (flood_state new).held
idle_listed keep old sends given new idle =
    by_idle old (λ _ g n. KeepsLast keep (flood_state old).held (ids g) (flood_state n).held) idle
    (keeps_all keep (flood_state old).held [] (flood_state old).held (sym (append-nil (flood_state old).held)))

steps_listed : (keep : ℕ) (old : Flooding) (stimulus : Stimulus Message) (sends : List (Name × Message)) (given : List Delivery) (new : Flooding) →
    FloodSteps old stimulus sends given new →
    KeepsLast keep (flood_state old).held (ids given) (flood_state new).held
steps_listed keep old (Broadcast payload) sends given new h =
    takes_listed keep old (record { origin = old.me; seq = old.count + 1 }) payload None (old.count + 1) sends given new h.1
steps_listed keep old (Arrive sender note dice) sends given new h = go (is_news old note.id) h
  where
    go : (b : Bool) →
        MatchBool b (Takes old note.id note.payload (others (Some sender.name) old.peers) old.count sends given new) (IsIdle old sends given new) →
        KeepsLast keep (flood_state old).held (ids given) (flood_state new).held
    go true t = takes_listed keep old note.id note.payload (Some sender.name) old.count sends given new t
    go false t = idle_listed keep old sends given new t
steps_listed keep old (Fire id) sends given new h = idle_listed keep old sends given new h
steps_listed keep old Flush sends given new h = idle_listed keep old sends given new h
steps_listed keep old (Down peer dice) sends given new h =
    by_drops old peer (λ _ g n. KeepsLast keep (flood_state old).held (ids g) (flood_state n).held) h
    (keeps_all keep (flood_state old).held [] (flood_state old).held (sym (append-nil (flood_state old).held)))
steps_listed keep old (Shuffle dice) sends given new h = idle_listed keep old sends given new h
steps_listed keep old (Join contact) sends given new h = idle_listed keep old sends given new h

-- ---- all together

pub flood_lawful : Laws flood_state note_content IsSoundFlooding FloodStarts FloodSteps
flood_lawful =
    record {
      start = λ me limits peers contact sends core fit started. starts_well me limits peers contact sends core started;
      start_sound = starts_soundly;
      always = stays_lawful;
      step = λ limits old stimulus sends given new sound from steps. (steps_lawfully limits old sound stimulus sends given new steps).0;
      step_sound = λ limits old stimulus sends given new sound from steps. (steps_lawfully limits old sound stimulus sends given new steps).1;
      keeps = λ limits old stimulus sends given new sound from steps. steps_listed limits.keep old stimulus sends given new steps;
    }
