-- What every call of a gossip preserves. Proofs only; nothing here has to be trusted.
use Rattle.std.specs.Prelude.{◌≡◌, ◌≢◌, ◌⊎◌, ◌<◌, ◌≤◌, ◌||◌, ℕ, Bool, true, false, not, List, [], ◌∷◌}
use Rattle.std.specs.Prelude.{◌++◌, Option, Some, None, filter, map, is_some, if◌then◌else◌, refl}
use Rattle.std.specs.FinSet as set
use Rattle.std.specs.List.{AllByRecursion as Each, IsDistinct}
use Rattle.std.specs.Map.{lookup}
use Rattle.std.specs.Ordering.{eq_by_cmp}
use Rattle.std.proofs.Common.{inl, inr, ap, sym, subst, ◌∙◌, arith}
use Rattle.std.proofs.lemmas.Bool.{true≢false}
use Rattle.node_names.specs.NodeName.{Name}
use Rattle.node_names.specs.Order.{id_cmp}
use Rattle.node_names.specs.Same.{same_id, same_id-Decides, same_name, has_name}
use Rattle.node_names.specs.declared.ids.MsgId.{MsgId}
use Rattle.protocol.specs.impl_proofs.Held.{stays_after_push, pushed_is_held, held_after_push}
use Rattle.protocol.specs.Lists.{IsOneOf}
use Rattle.known_messages.specs.Held.{kept_last}
use Rattle.missing.proofs.SoundLemmas as missings
use Rattle.missing.specs.Missing.{IsSound as IsMissingSound, without}
use Rattle.peer_sets.proofs.MemberLemmas.{names-with_kind, is_member-names, stays-with_member, stays-without_member}
use Rattle.peer_sets.proofs.SoundLemmas as sets
use Rattle.peer_sets.specs.Members.{names, lazy_but, with_member, without_member}
use Rattle.peer_sets.specs.PeerSets.{PeerSets, IsSound as AreSoundPeers}
use Rattle.peer_sets.specs.Queue.{with_entries, without_entries, is_queued}
use Rattle.peer_sets.specs.declared.members.PeerKind.{PeerKind}
use Rattle.gossip_core.proofs.IdOrder.{id_ties, id_total}
use Rattle.gossip_core.specs.State.{GossipState}
use Rattle.gossip_core.specs.Table.{outcome, with_peer}
use Rattle.gossip_core.specs.declared.call.CallOf.TheVariants.{Down}
use Rattle.node_core.specs.impl_proofs.Keeping.{all_kept, once_kept, once_pushed, was_held}
use Rattle.node_core.specs.impl_proofs.Members.{each_one, of_each, one_of_append, one_of_filter, one_of_map}
use Rattle.node_core.specs.Plum.{HeldOnce, IsWhole, IsLacked}

-- what holds of both branches holds of the one that is taken
either : {X : Type 0} (P : X → Type 0) (b : Bool) (x y : X) → (b ≡ true → P x) → (b ≡ false → P y) → P (if b then x else y)
either P true x y p q = p refl
either P false x y p q = q refl

each_part : {X : Type 0} (P Q : X → Type 0) → ((x : X) → P x → Q x) → (xs : List X) → Each P xs → Each Q xs
each_part P Q f [] h = tt
each_part P Q f (x ∷ xs) h = (f x h.0, each_part P Q f xs h.1)

-- ---- known ids

module _ (g : GossipState) (id : MsgId) where
  known_now : (j : MsgId) → set.contains (set.insert g.known id) j ≡ true → (set.contains g.known j ≡ true) ⊎ (j ≡ id)
  known_now j is = go (eq_by_cmp id_cmp j id) (set.contains g.known j) refl refl (sym (set.contains-insert id_total g.known id j) ∙ is)
    where
      go : (new was : Bool) → eq_by_cmp id_cmp j id ≡ new → set.contains g.known j ≡ was → (new || was) ≡ true → (set.contains g.known j ≡ true) ⊎ (j ≡ id)
      go true was is_new is_was e = inr ((same_id-Decides j id).0 (id_ties j id ∙ is_new))
      go false was is_new is_was e = inl (is_was ∙ e)

  stays_known : (j : MsgId) → set.contains g.known j ≡ true → set.contains (set.insert g.known id) j ≡ true
  stays_known j is = set.contains-insert id_total g.known id j ∙ ap (λ b. eq_by_cmp id_cmp j id || b) is ∙ or_true (eq_by_cmp id_cmp j id)
    where
      or_true : (b : Bool) → (b || true) ≡ true
      or_true true = refl
      or_true false = refl

  is_known : set.contains (set.insert g.known id) id ≡ true
  is_known = set.contains-insert id_total g.known id id ∙ ap (λ b. b || set.contains g.known id) (sym (id_ties id id) ∙ (same_id-Decides id id).1 refl)

  stays_lacked : (j : MsgId) → IsLacked g.known g.me j → j ≢ id → IsLacked (set.insert g.known id) g.me j
  stays_lacked j lacked other = record { unknown = go (set.contains (set.insert g.known id) j) refl; foreign = lacked.foreign }
    where
      go : (b : Bool) → set.contains (set.insert g.known id) j ≡ b → b ≡ false
      go true is = elim (known_now j is) [ inl was ↦ absurd (true≢false (sym was ∙ lacked.unknown)) | inr same ↦ absurd (other same) ]
      go false is = refl

-- what is not known is not held
pub not_held : (g : GossipState) → IsWhole g → (id : MsgId) → set.contains g.known id ≡ false → lookup (same_id id) g.held ≡ None
not_held g whole id unknown = go (lookup (same_id id) g.held) refl
  where
    go : (o : Option (List ℕ)) → lookup (same_id id) g.held ≡ o → o ≡ None
    go None is = refl
    go (Some p) is = absurd (true≢false (sym (whole.store.held_is_known id (ap is_some is)) ∙ unknown))

-- ---- the calls, by what they change

-- an empty queue is sound
sound_flushed : (peers : PeerSets) → AreSoundPeers peers → AreSoundPeers (record peers { queued = [] })
unfolding IsDistinct
sound_flushed peers sound = record { distinct = sound.distinct; for_members = tt; once = tt }

module _ (g : GossipState) (whole : IsWhole g) where
  -- a member is of another kind
  pub whole-with_kind : (name : Name) (kind : PeerKind) → IsWhole (with_peer name kind g)
  whole-with_kind name kind =
      record {
        peers = sets.sound-with_kind g.peers.members g.peers.queued whole.peers name kind;
        missing = whole.missing;
        store = record { counted = whole.store.counted; held_is_known = whole.store.held_is_known };
        held_once = whole.held_once;
        known_is_held = whole.known_is_held;
        queued_is_known = whole.queued_is_known;
        wants_of_members =
            subst (λ ns. Each (λ (entry : MsgId × Name × ℕ). has_name ns entry.1 ≡ true) g.missing.wants)
            (sym (names-with_kind name kind g.peers.members)) whole.wants_of_members;
        wants_lacked = whole.wants_lacked;
        timers_lacked = whole.timers_lacked;
      }

  -- the queue is empty
  pub whole-flushed : IsWhole (record g { peers = record g.peers { queued = [] } })
  whole-flushed =
      record {
        peers = sound_flushed g.peers whole.peers;
        missing = whole.missing;
        store = record { counted = whole.store.counted; held_is_known = whole.store.held_is_known };
        held_once = whole.held_once;
        known_is_held = whole.known_is_held;
        queued_is_known = tt;
        wants_of_members = whole.wants_of_members;
        wants_lacked = whole.wants_lacked;
        timers_lacked = whole.timers_lacked;
      }

  -- announcements are taken, or a firing takes one
  pub whole-with_missing : (wants : List (MsgId × Name × ℕ)) (timers : List MsgId) →
      IsMissingSound (record { wants = wants; timers = timers }) →
      ((entry : MsgId × Name × ℕ) →
      IsOneOf entry wants →
      IsOneOf entry g.missing.wants ⊎ ((has_name (names g.peers.members) entry.1 ≡ true) × IsLacked g.known g.me entry.0)) →
      ((id : MsgId) → IsOneOf id timers → IsOneOf id g.missing.timers ⊎ IsLacked g.known g.me id) →
      IsWhole (record g { missing = record { wants = wants; timers = timers } })
  whole-with_missing wants timers sound wanted armed =
      record {
        peers = whole.peers;
        missing = sound;
        store = record { counted = whole.store.counted; held_is_known = whole.store.held_is_known };
        held_once = whole.held_once;
        known_is_held = whole.known_is_held;
        queued_is_known = whole.queued_is_known;
        wants_of_members =
            each_one _ wants (λ entry h. elim (wanted entry h) [
              | inl was ↦ of_each (λ e. has_name (names g.peers.members) e.1 ≡ true) g.missing.wants entry whole.wants_of_members was
              | inr new ↦ new.0
            ]);
        wants_lacked =
            each_one _ wants (λ entry h. elim (wanted entry h) [
              | inl was ↦ of_each (λ e. IsLacked g.known g.me e.0) g.missing.wants entry whole.wants_lacked was
              | inr new ↦ new.1
            ]);
        timers_lacked =
            each_one _ timers
            (λ id h. elim (armed id h) [ inl was ↦ of_each (λ i. IsLacked g.known g.me i) g.missing.timers id whole.timers_lacked was | inr new ↦ new ]);
      }

  -- a link comes up
  pub whole-with_member : (name : Name) → IsWhole (record g { peers = record g.peers { members = with_member name g.peers.members } })
  whole-with_member name =
      record {
        peers = sets.sound-with_member g.peers.members g.peers.queued whole.peers name;
        missing = whole.missing;
        store = record { counted = whole.store.counted; held_is_known = whole.store.held_is_known };
        held_once = whole.held_once;
        known_is_held = whole.known_is_held;
        queued_is_known = whole.queued_is_known;
        wants_of_members =
            each_one _ g.missing.wants (λ entry h. sym (is_member-names (with_member name g.peers.members) entry.1)
            ∙ stays-with_member name g.peers.members entry.1 (is_member-names g.peers.members entry.1
            ∙ of_each (λ e. has_name (names g.peers.members) e.1 ≡ true) g.missing.wants entry whole.wants_of_members h));
        wants_lacked = whole.wants_lacked;
        timers_lacked = whole.timers_lacked;
      }

  -- a link goes down
  pub whole-without_member : (name : Name) → IsWhole (outcome g (Down name)).state
  whole-without_member name =
      record {
        peers = sets.sound-without g.peers.members g.peers.queued whole.peers name;
        missing = missings.sound-without name g.missing whole.missing;
        store = record { counted = whole.store.counted; held_is_known = whole.store.held_is_known };
        held_once = whole.held_once;
        known_is_held = whole.known_is_held;
        queued_is_known =
            each_one _ (without_entries name g.peers.queued) (λ entry h. of_each (λ e. set.contains g.known e.1 ≡ true)
            g.peers.queued entry whole.queued_is_known (one_of_filter (λ e. not (same_name name e.0)) entry g.peers.queued h).0);
        wants_of_members =
            each_one _ (without name g.missing).wants (λ entry h.
            let kept : IsOneOf entry g.missing.wants × (not (same_name name entry.1) ≡ true) =
            one_of_filter (λ e. not (same_name name e.1)) entry g.missing.wants h in
            sym (is_member-names (without_member name g.peers.members) entry.1) ∙ stays-without_member name g.peers.members entry.1
            (is_member-names g.peers.members entry.1
            ∙ of_each (λ e. has_name (names g.peers.members) e.1 ≡ true) g.missing.wants entry whole.wants_of_members kept.0)
            kept.1);
        wants_lacked =
            each_one _ (without name g.missing).wants (λ entry h. of_each (λ e. IsLacked g.known g.me e.0) g.missing.wants entry whole.wants_lacked
            (one_of_filter (λ e. not (same_name name e.1)) entry g.missing.wants h).0);
        timers_lacked = whole.timers_lacked;
      }

  -- a message is delivered
  pub whole-spread : (left_out : Option Name) (id : MsgId) (round : ℕ) (payload : List ℕ) (spent : ℕ) (wants : List (MsgId × Name × ℕ)) (timers : List MsgId) →
      set.contains g.known id ≡ false →
      g.spent ≤ spent →
      (id.origin ≡ g.me → (0 < id.seq) × (id.seq ≤ spent)) →
      IsMissingSound (record { wants = wants; timers = timers }) →
      ((entry : MsgId × Name × ℕ) → IsOneOf entry wants → IsOneOf entry g.missing.wants × (entry.0 ≢ id)) →
      ((j : MsgId) → IsOneOf j timers → IsOneOf j g.missing.timers × (j ≢ id)) →
      IsWhole (record g {
        spent = spent;
        peers = record g.peers { queued = with_entries (lazy_but left_out g.peers.members) id round g.peers.queued };
        missing = record { wants = wants; timers = timers };
        known = set.insert g.known id;
        held = kept_last g.keep (g.held ++ (id, payload) ∷ []);
      })
  whole-spread left_out id round payload spent wants timers unknown more mine sound wanted armed =
      record {
        peers = sets.sound-with_lazy g.peers.members g.peers.queued whole.peers left_out id round;
        missing = sound;
        store =
            record {
              counted =
                  λ j is own. elim (known_now g id j is) [
                    | inl was ↦ older (whole.store.counted j was own)
                    | inr same ↦ subst (λ (i : MsgId). (0 < i.seq) × (i.seq ≤ spent)) (sym same) (mine (sym (ap (λ (i : MsgId). i.origin) same) ∙ own))
                  ];
              held_is_known =
                  λ j is. elim (held_after_push g.held id payload j (was_held g.keep (g.held ++ (id, payload) ∷ []) pushed j is)) [
                    | inl was ↦ stays_known g id j (whole.store.held_is_known j was)
                    | inr same ↦ subst (λ i. set.contains (set.insert g.known id) i ≡ true) (sym same) (is_known g id)
                  ];
            };
        held_once = once_kept g.keep (g.held ++ (id, payload) ∷ []) pushed;
        known_is_held =
            λ none j is.
            subst (λ held. is_some (lookup (same_id j) held) ≡ true) (sym (all_kept g.keep (g.held ++ (id, payload) ∷ []) none)) (elim (known_now g id j is) [
              | inl was ↦ stays_after_push g.held id payload j (whole.known_is_held none j was)
              | inr same ↦ subst (λ i. is_some (lookup (same_id i) (g.held ++ (id, payload) ∷ [])) ≡ true) (sym same) (pushed_is_held g.held id payload)
            ]);
        queued_is_known = each_one _ (with_entries (lazy_but left_out g.peers.members) id round g.peers.queued) queued;
        wants_of_members =
            each_one _ wants
            (λ entry h. of_each (λ e. has_name (names g.peers.members) e.1 ≡ true) g.missing.wants entry whole.wants_of_members (wanted entry h).0);
        wants_lacked =
            each_one _ wants (λ entry h. stays_lacked g id entry.0
            (of_each (λ e. IsLacked g.known g.me e.0) g.missing.wants entry whole.wants_lacked (wanted entry h).0) (wanted entry h).1);
        timers_lacked =
            each_one _ timers
            (λ j h. stays_lacked g id j (of_each (λ i. IsLacked g.known g.me i) g.missing.timers j whole.timers_lacked (armed j h).0) (armed j h).1);
      }
    where
      pushed : HeldOnce (g.held ++ (id, payload) ∷ [])
      pushed = once_pushed g.held id payload whole.held_once (not_held g whole id unknown)

      older : {n : ℕ} → (0 < n) × (n ≤ g.spent) → (0 < n) × (n ≤ spent)
      older h = (h.0, omega (arith, h.1, more))

      new_peers : List Name
      new_peers = filter (λ peer. not (is_queued peer id g.peers.queued)) (lazy_but left_out g.peers.members)

      queued : (entry : Name × MsgId × ℕ) →
          IsOneOf entry
          (g.peers.queued ++ map (λ peer. (peer, id, round)) (filter (λ peer. not (is_queued peer id g.peers.queued)) (lazy_but left_out g.peers.members))) →
          set.contains (set.insert g.known id) entry.1 ≡ true
      queued entry h =
          elim (one_of_append entry g.peers.queued
          (map (λ peer. (peer, id, round)) (filter (λ peer. not (is_queued peer id g.peers.queued)) (lazy_but left_out g.peers.members))) h) [
            | inl was ↦ stays_known g id entry.1 (of_each (λ e. set.contains g.known e.1 ≡ true) g.peers.queued entry whole.queued_is_known was)
            | inr new ↦
                let found : (peer : Name)
                × IsOneOf peer (filter (λ p. not (is_queued p id g.peers.queued)) (lazy_but left_out g.peers.members))
                × (entry ≡ (peer, id, round)) =
                one_of_map (λ peer. (peer, id, round)) entry (filter (λ p. not (is_queued p id g.peers.queued)) (lazy_but left_out g.peers.members)) new in
                subst (λ i. set.contains (set.insert g.known id) i ≡ true) (sym (ap (λ (x : Name × MsgId × ℕ). x.1) found.2)) (is_known g id)
          ]
