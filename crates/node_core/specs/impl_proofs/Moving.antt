-- The views change, and the gossip is told: what such a step must satisfy. Proofs only; nothing here has to be trusted.
use Rattle.std.specs.Prelude.{◌≡◌, ◌⊎◌, ◌≤◌, ◌||◌, ℕ, suc, Bool, true, false, not, cond, List, [], ◌∷◌, ◌++◌, filter, length, refl, if◌then◌else◌}
use Rattle.std.specs.List.{AllByRecursion as Each}
use Rattle.std.proofs.Common.{inl, inr, sym, ◌∙◌, ap, arith}
use Rattle.std.proofs.lemmas.Bool.{true≢false}
use Rattle.node_names.specs.NodeName.{Name}
use Rattle.node_names.specs.Same.{same_name, same_name-laws, has_name}
use Rattle.node_names.specs.declared.ids.MsgId.{MsgId}
use Rattle.protocol.specs.Lists.{IsOneOf}
use Rattle.views.specs.Names.{others}
use Rattle.peer_sets.specs.Members.{names, is_member, with_member, without_member}
use Rattle.peer_sets.specs.declared.members.PeerKind.{PeerKind}
use Rattle.peer_sets.specs.declared.members.PeerKind.TheVariants.{Eager}
use Rattle.peer_sets.proofs.MemberLemmas.{is_member-names}
use Rattle.gossip_core.specs.State.{GossipState}
use Rattle.gossip_core.specs.Table.{outcome, after_downs, after_ups}
use Rattle.gossip_core.specs.declared.call.CallOf.TheVariants as call
use Rattle.node_core.specs.impl_proofs.Members.{one_of_filter, one_of_passing}

-- Only members, queue and entries changed.
pub record SameButLinks (g h : GossipState) : Type 0 where
  pub me : h.me ≡ g.me
  pub threshold : h.threshold ≡ g.threshold
  pub keep : h.keep ≡ g.keep
  pub spent : h.spent ≡ g.spent
  pub known : h.known ≡ g.known
  pub held : h.held ≡ g.held
  pub timers : h.missing.timers ≡ g.missing.timers

-- What a gossip is after links went down or came up: its members, and what waits for them or was announced by them.
pub record Linked (g : GossipState) (gone : List Name) (h : GossipState) : Type 0 where
  pub same : SameButLinks g h
  pub queue_was : (entry : Name × MsgId × ℕ) → IsOneOf entry h.peers.queued → IsOneOf entry g.peers.queued
  pub queue_stays : (entry : Name × MsgId × ℕ) → IsOneOf entry g.peers.queued → IsOneOf entry h.peers.queued ⊎ (has_name gone entry.0 ≡ true)
  pub wants_were : (entry : MsgId × Name × ℕ) → IsOneOf entry h.missing.wants → IsOneOf entry g.missing.wants
  pub wants_stay : (entry : MsgId × Name × ℕ) → IsOneOf entry g.missing.wants → IsOneOf entry h.missing.wants ⊎ (has_name gone entry.1 ≡ true)

-- one more name is gone
more_gone : (name : Name) (gone : List Name) (q : Name) → has_name gone q ≡ true → has_name (name ∷ gone) q ≡ true
more_gone name gone q is = ap (λ b. same_name q name || b) is ∙ or_true (same_name q name)
  where
    or_true : (b : Bool) → (b || true) ≡ true
    or_true true = refl
    or_true false = refl

first_gone : (name : Name) (gone : List Name) (q : Name) → same_name name q ≡ true → has_name (name ∷ gone) q ≡ true
first_gone name gone q is = ap (λ b. b || has_name gone q) (same_name-laws.symm q name ∙ is)

-- ---- links that went down

pub after_all_downs : (downs : List Name) (g : GossipState) → Linked g downs (after_downs downs g)
after_all_downs [] g =
    record {
      same = record { me = refl; threshold = refl; keep = refl; spent = refl; known = refl; held = refl; timers = refl };
      queue_was = λ entry h. h;
      queue_stays = λ entry h. inl h;
      wants_were = λ entry h. h;
      wants_stay = λ entry h. inl h;
    }
after_all_downs (name ∷ names) g =
    let later : Linked (outcome g (call.Down name)).state names (after_downs names (outcome g (call.Down name)).state) =
    after_all_downs names (outcome g (call.Down name)).state in
    record {
      same =
          record {
            me = later.same.me;
            threshold = later.same.threshold;
            keep = later.same.keep;
            spent = later.same.spent;
            known = later.same.known;
            held = later.same.held;
            timers = later.same.timers;
          };
      queue_was = λ entry h. (one_of_filter (λ e. not (same_name name e.0)) entry g.peers.queued (later.queue_was entry h)).0;
      queue_stays = λ entry h. queue_kept later entry h (same_name name entry.0) refl;
      wants_were = λ entry h. (one_of_filter (λ e. not (same_name name e.1)) entry g.missing.wants (later.wants_were entry h)).0;
      wants_stay = λ entry h. wants_kept later entry h (same_name name entry.1) refl;
    }
  where
    queue_kept :
        Linked (outcome g (call.Down name)).state names (after_downs names (outcome g (call.Down name)).state) →
        (entry : Name × MsgId × ℕ) →
        IsOneOf entry g.peers.queued
        → (b : Bool)
        → same_name name entry.0 ≡ b
        → IsOneOf entry (after_downs names (outcome g (call.Down name)).state).peers.queued ⊎ (has_name (name ∷ names) entry.0 ≡ true)
    queue_kept later entry h true is = inr (first_gone name names entry.0 is)
    queue_kept later entry h false is = elim (later.queue_stays entry (one_of_passing (λ e. not (same_name name e.0)) entry g.peers.queued h (ap not is))) [
      | inl stays ↦ inl stays
      | inr gone ↦ inr (more_gone name names entry.0 gone)
    ]

    wants_kept :
        Linked (outcome g (call.Down name)).state names (after_downs names (outcome g (call.Down name)).state) →
        (entry : MsgId × Name × ℕ) →
        IsOneOf entry g.missing.wants
        → (b : Bool)
        → same_name name entry.1 ≡ b
        → IsOneOf entry (after_downs names (outcome g (call.Down name)).state).missing.wants ⊎ (has_name (name ∷ names) entry.1 ≡ true)
    wants_kept later entry h true is = inr (first_gone name names entry.1 is)
    wants_kept later entry h false is = elim (later.wants_stay entry (one_of_passing (λ e. not (same_name name e.1)) entry g.missing.wants h (ap not is))) [
      | inl stays ↦ inl stays
      | inr gone ↦ inr (more_gone name names entry.1 gone)
    ]

-- ---- links that came up

-- nothing but members changes
pub after_all_ups : (ups : List Name) (g : GossipState) → Linked g [] (after_ups ups g)
after_all_ups [] g =
    record {
      same = record { me = refl; threshold = refl; keep = refl; spent = refl; known = refl; held = refl; timers = refl };
      queue_was = λ entry h. h;
      queue_stays = λ entry h. inl h;
      wants_were = λ entry h. h;
      wants_stay = λ entry h. inl h;
    }
after_all_ups (name ∷ names) g =
    let later : Linked (outcome g (call.Up name)).state [] (after_ups names (outcome g (call.Up name)).state) =
    after_all_ups names (outcome g (call.Up name)).state in
    record {
      same =
          record {
            me = later.same.me;
            threshold = later.same.threshold;
            keep = later.same.keep;
            spent = later.same.spent;
            known = later.same.known;
            held = later.same.held;
            timers = later.same.timers;
          };
      queue_was = later.queue_was;
      queue_stays = later.queue_stays;
      wants_were = later.wants_were;
      wants_stay = later.wants_stay;
    }

-- ---- the members

-- the members without a name are its names without it
names-without : (name : Name) (members : List (Name × PeerKind)) →
    names (without_member name members) ≡ filter (λ other. not (same_name name other)) (names members)
names-without name [] = refl
names-without name (m ∷ members) = go (names-without name members) (same_name name m.0)
  where
    go : names (without_member name members) ≡ filter (λ other. not (same_name name other)) (names members) →
        (b : Bool) →
        names (cond (not b) (m ∷ without_member name members) (without_member name members))
        ≡ cond (not b) (m.0 ∷ filter (λ other. not (same_name name other)) (names members)) (filter (λ other. not (same_name name other)) (names members))
    go rest true = rest
    go rest false = ap (λ ns. m.0 ∷ ns) rest

-- which are the others
without_is_others : (name : Name) (ns : List Name) → filter (λ other. not (same_name name other)) ns ≡ others (name ∷ []) ns
without_is_others name [] = refl
without_is_others name (other ∷ ns) =
    ap (λ b. cond (not b) (other ∷ filter (λ o. not (same_name name o)) ns) (filter (λ o. not (same_name name o)) ns))
    (same_name-laws.symm name other ∙ sym (or_false (same_name other name)))
    ∙ ap (λ rest. cond (not (has_name (name ∷ []) other)) (other ∷ rest) rest) (without_is_others name ns)
  where
    or_false : (b : Bool) → (b || false) ≡ b
    or_false true = refl
    or_false false = refl

-- a new member is last
names-with : (name : Name) (members : List (Name × PeerKind)) →
    has_name (names members) name ≡ false →
    names (with_member name members) ≡ names members ++ name ∷ []
names-with name members new = go (is_member members name) (is_member-names members name ∙ new)
  where
    names-push : (ms : List (Name × PeerKind)) → names (ms ++ (name, Eager) ∷ []) ≡ names ms ++ name ∷ []
    names-push [] = refl
    names-push (m ∷ ms) = ap (λ ns. m.0 ∷ ns) (names-push ms)

    go : (b : Bool) → b ≡ false → names (if b then members else members ++ (name, Eager) ∷ []) ≡ names members ++ name ∷ []
    go true is = absurd (true≢false is)
    go false is = names-push members

others_of_none : (ns : List Name) → others [] ns ≡ ns
others_of_none [] = refl
others_of_none (name ∷ ns) = ap (λ rest. name ∷ rest) (others_of_none ns)

append_none : (ns : List Name) → ns ++ [] ≡ ns
append_none [] = refl
append_none (name ∷ ns) = ap (λ rest. name ∷ rest) (append_none ns)

-- if at most one link went down, the members are the others
pub members_after_downs : (g : GossipState) (downs : List Name) →
    length downs ≤ 1 →
    names (after_downs downs g).peers.members ≡ others downs (names g.peers.members)
members_after_downs g [] few = sym (others_of_none (names g.peers.members))
members_after_downs g (name ∷ []) few = names-without name g.peers.members ∙ without_is_others name (names g.peers.members)
members_after_downs g (name ∷ (other ∷ downs)) few = absurd (too_many (length downs) few)
  where
    too_many : (n : ℕ) → suc (suc n) ≤ 1 → ⊥
    too_many n h = omega (arith, h)

-- if at most one link came up, to a peer that is not a member, this peer is the last member
pub members_after_ups : (g : GossipState) (ups : List Name) →
    length ups ≤ 1 →
    Each (λ name. has_name (names g.peers.members) name ≡ false) ups →
    names (after_ups ups g).peers.members ≡ names g.peers.members ++ ups
members_after_ups g [] few new = sym (append_none (names g.peers.members))
members_after_ups g (name ∷ []) few new = names-with name g.peers.members new.0
members_after_ups g (name ∷ (other ∷ ups)) few new = absurd (too_many (length ups) few)
  where
    too_many : (n : ℕ) → suc (suc n) ≤ 1 → ⊥
    too_many n h = omega (arith, h)
