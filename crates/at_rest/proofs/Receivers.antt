-- The packets of a gossip go to its members, or answer a peer that asks; and they are about messages.
use Rattle.std.proofs.Common.{◌≡◌, ◌∙◌, ℕ, zero, suc, List, [], ◌∷◌, true, false, refl, subst, inl, inr}
use Rattle.std.specs.Prelude.{◌⊎◌, ◌&&◌, ◌==◌, ◌+◌, Bool, Option, Some, None, cond, drop, filter, map, nat_le, not}
use Rattle.std.specs.FinSet as set
use Rattle.std.specs.List.{AllByRecursion as Each, flat_map}
use Rattle.std.specs.Map.{lookup}
use Rattle.node_names.specs.NodeName.{Name}
use Rattle.node_names.specs.Same.{has_id, has_name, same_id, same_name, is_left_out}
use Rattle.node_names.specs.declared.ids.MsgId.{MsgId}
use Rattle.frames.specs.Body.{Body}
use Rattle.frames.specs.Content.{body_content}
use Rattle.frames.specs.declared.body.BodyOf.TheVariants.{GraftPeer, IHave, Prune}
use Rattle.frames.specs.declared.TheConstants.{MAX_ANNOUNCEMENTS}
use Rattle.missing.specs.Missing.{announced_all, taken_first}
use Rattle.missing.specs.Wants.{first_want}
use Rattle.node_names.proofs.Distinct.{each-append, each-filter, each-map, each-weaker}
use Rattle.peer_sets.proofs.MemberLemmas.{each_is_member, is_member-names}
use Rattle.peer_sets.specs.Members.{eager_but, is_eager_kind, is_member, names}
use Rattle.peer_sets.specs.Queue.{receivers, waiting_for}
use Rattle.peer_sets.specs.declared.members.PeerKind.{PeerKind}
use Rattle.peer_sets.specs.declared.members.PeerKind.TheVariants.{Lazy}
use Rattle.gossip_core.specs.Announcements.{frames_of, packets_to}
use Rattle.gossip_core.specs.State.{GossipState}
use Rattle.gossip_core.specs.Table.{Outcome, answer, asked, first_copy, gossip_to, is_news, next_round, outcome, passed_by, shortcut, swapped, with_peer}
use Rattle.gossip_core.specs.declared.call.CallOf.TheVariants as call
use Rattle.node_core.specs.Plum.{IsWhole}

-- The packet goes to a member, or to the peer that asked; and it is about messages.
pub record GoesRight (g : GossipState) (asker : Option Name) (send : Name × Body) : Type 0 where
  pub receiver : (is_member g.peers.members send.0 ≡ true) ⊎ (asker ≡ Some send.0)
  pub about_messages : (body_content send.1).is_membership ≡ false

abbrev pub GoRight : GossipState → Option Name → List (Name × Body) → Type 0
GoRight g asker sends = Each (λ send. GoesRight g asker send) sends

-- the eager members are members
eager_are_members : (left_out : Option Name) (members : List (Name × PeerKind)) → Each (λ name. is_member members name ≡ true) (eager_but left_out members)
eager_are_members left_out members =
    each-map (λ (m : Name × PeerKind). m.0) (λ name. is_member members name ≡ true)
    (filter (λ (m : Name × PeerKind). is_eager_kind m.1 && not (is_left_out left_out m.0)) members)
    (each-filter (λ (m : Name × PeerKind). is_member members m.0 ≡ true) (λ (m : Name × PeerKind). is_member members m.0 ≡ true)
    (λ (m : Name × PeerKind). is_eager_kind m.1 && not (is_left_out left_out m.0)) (λ m is passes. is) members (each_is_member members))

-- a message that spreads goes to members
spread_right : (g : GossipState) (asker left_out : Option Name) (id : MsgId) (round : ℕ) (payload : List ℕ) (members : List (Name × PeerKind)) →
    members ≡ g.peers.members →
    GoRight g asker (map (gossip_to id round payload) (eager_but left_out members))
spread_right g asker left_out id round payload members same =
    each-map (gossip_to id round payload) (λ send. GoesRight g asker send) (eager_but left_out members)
    (each-weaker (λ name. is_member members name ≡ true)
    (λ name. GoesRight g asker (gossip_to id round payload name))
    (λ name is. record { receiver = inl (subst (λ ms. is_member ms name ≡ true) same is); about_messages = refl })
    (eager_but left_out members)
    (eager_are_members left_out members))

-- the peer that announced an id first is one of those that announced
first_is_one : (id : MsgId) (wants : List (MsgId × Name × ℕ)) (first : Name × ℕ) (P : Name → Type 0) →
    Each (λ entry. P entry.1) wants →
    first_want id wants ≡ Some first →
    P first.0
first_is_one id [] first P h is = let no : None ≡ Some first = is in cc
first_is_one id (entry ∷ wants) first P h is = go (same_id id entry.0) is (first_is_one id wants first P h.1)
  where
    go : (b : Bool) → cond b (Some (entry.1, entry.2)) (first_want id wants) ≡ Some first → (first_want id wants ≡ Some first → P first.0) → P first.0
    go true at later =
        let pair : Name × ℕ = (entry.1, entry.2) in
        let same : Some pair ≡ Some first = at in let this : pair ≡ first = cc in subst (λ (f : Name × ℕ). P f.0) this h.0
    go false at later = later at

module _ (g : GossipState) (whole : IsWhole g) where
  -- and so a member
  first_is_member : (id : MsgId) (first : Name × ℕ) → first_want id g.missing.wants ≡ Some first → is_member g.peers.members first.0 ≡ true
  first_is_member id first is =
      is_member-names g.peers.members first.0
      ∙ first_is_one id g.missing.wants first (λ name. has_name (names g.peers.members) name ≡ true) whole.wants_of_members is

  -- the two packets of a swap go to members
  swap_right : (sender : Name) (id : MsgId) (round : ℕ) (asker : Option Name) (done : Outcome) →
      GoRight g asker done.sends →
      GoRight g asker (swapped sender (shortcut g sender id round) done).sends
  swap_right sender id round asker done right = by_threshold (g.threshold == 0)
    where
      right_with : (o : Option Name) →
          ((peer : Name) → o ≡ Some peer → (is_member g.peers.members peer ≡ true) × (is_member g.peers.members sender ≡ true)) →
          GoRight g asker (swapped sender o done).sends
      right_with None known = right
      right_with (Some peer) known =
          let both = known peer refl in
          each-append (λ send. GoesRight g asker send) done.sends ((peer, GraftPeer) ∷ (sender, Prune) ∷ []) right
          (record { receiver = inl both.0; about_messages = refl }, (record { receiver = inl both.1; about_messages = refl }, tt))

      passed : is_member g.peers.members sender ≡ true →
          (o : Option (Name × ℕ)) →
          first_want id g.missing.wants ≡ o →
          (peer : Name) →
          passed_by g.threshold sender round o ≡ Some peer →
          (is_member g.peers.members peer ≡ true) × (is_member g.peers.members sender ≡ true)
      passed member None at peer is = let none : None ≡ Some peer = is in cc
      passed member (Some first) at peer is = go (not (same_name first.0 sender) && nat_le (first.1 + g.threshold) round) is
        where
          go : (b : Bool) → cond b (Some first.0) None ≡ Some peer → (is_member g.peers.members peer ≡ true) × (is_member g.peers.members sender ≡ true)
          go true e =
              let same : Some first.0 ≡ Some peer = e in
              let this : first.0 ≡ peer = cc in (subst (λ n. is_member g.peers.members n ≡ true) this (first_is_member id first at), member)
          go false e = let none : None ≡ Some peer = e in cc

      by_member : (b : Bool) →
          is_member g.peers.members sender ≡ b →
          (peer : Name) →
          cond b (passed_by g.threshold sender round (first_want id g.missing.wants)) None ≡ Some peer →
          (is_member g.peers.members peer ≡ true) × (is_member g.peers.members sender ≡ true)
      by_member true member peer is = passed member (first_want id g.missing.wants) refl peer is
      by_member false stranger peer is = let none : None ≡ Some peer = is in cc

      by_threshold : (b : Bool) →
          GoRight g asker (swapped sender
          (cond b None (cond (is_member g.peers.members sender) (passed_by g.threshold sender round (first_want id g.missing.wants)) None)) done).sends
      by_threshold true = right
      by_threshold false =
          right_with (cond (is_member g.peers.members sender) (passed_by g.threshold sender round (first_want id g.missing.wants)) None)
          (by_member (is_member g.peers.members sender) refl)

  -- a message that comes
  pub gossip_right : (sender : Name) (id : MsgId) (round : ℕ) (payload : List ℕ) (asker : Option Name) →
      GoRight g asker (outcome g (call.OnGossip sender id round payload)).sends
  gossip_right sender id round payload asker = go (set.contains g.known id) (is_news g id) (is_member g.peers.members sender) refl
    where
      go : (a b c : Bool) →
          is_member g.peers.members sender ≡ c →
          GoRight g asker (cond {A = Outcome} a (cond {A = Outcome} c
          (record { state = with_peer sender Lazy g; sends = (sender, Prune) ∷ []; delivered = None }) (record { state = g; sends = []; delivered = None }))
          (cond {A = Outcome} b (swapped sender (shortcut g sender id round) (first_copy sender id round payload g))
          (record { state = g; sends = []; delivered = None }))).sends
      go true b true member = (record { receiver = inl member; about_messages = refl }, tt)
      go true b false stranger = tt
      go false true c known =
          swap_right sender id round asker (first_copy sender id round payload g)
          (spread_right g asker (Some sender) id (next_round round) payload g.peers.members refl)
      go false false c known = tt

  -- announcements that come
  pub announcements_right : (sender : Name) (entries : List (MsgId × ℕ)) (asker : Option Name) → GoRight g asker (outcome g (call.OnIHave sender entries)).sends
  announcements_right sender entries asker = go (is_member g.peers.members sender)
    where
      go : (b : Bool) →
          GoRight g asker (cond {A = Outcome} b
          (record { state = record g { missing = announced_all sender (filter (λ entry. is_news g entry.0) entries) g.missing }; sends = []; delivered = None })
          (record { state = g; sends = []; delivered = None })).sends
      go true = tt
      go false = tt

  -- a request that comes
  pub request_right : (sender : Name) (id : MsgId) (round : ℕ) → GoRight g (Some sender) (outcome g (call.OnGraft sender id round)).sends
  request_right sender id round = go (lookup (same_id id) g.held)
    where
      go : (o : Option (List ℕ)) → GoRight g (Some sender) (answer sender id round o)
      go None = tt
      go (Some payload) = (record { receiver = inr refl; about_messages = refl }, tt)

  -- the firing of a timer
  pub firing_right : (id : MsgId) (asker : Option Name) → GoRight g asker (outcome g (call.Fire id)).sends
  firing_right id asker = go (has_id g.missing.timers id)
    where
      fired : (o : Option (Name × ℕ)) → first_want id g.missing.wants ≡ o → GoRight g asker (asked id o (record g { missing = taken_first id g.missing })).sends
      fired None none = tt
      fired (Some first) is = (record { receiver = inl (first_is_member id first is); about_messages = refl }, tt)

      go : (b : Bool) →
          GoRight g asker (cond {A = Outcome} b (asked id (first_want id g.missing.wants) (record g { missing = taken_first id g.missing }))
          (record { state = g; sends = []; delivered = None })).sends
      go true = fired (first_want id g.missing.wants) refl
      go false = tt

  -- a flush
  pub flush_right : (asker : Option Name) → GoRight g asker (outcome g call.Flush).sends
  flush_right asker = all (receivers g.peers.queued) (members g.peers.queued whole.peers.for_members)
    where
      cut : (name : Name) →
          is_member g.peers.members name ≡ true →
          (n : ℕ) (entries : List (MsgId × ℕ)) →
          GoRight g asker (map (λ es. (name, IHave es)) (frames_of n entries))
      cut name member zero entries = tt
      cut name member (suc n) entries = (record { receiver = inl member; about_messages = refl }, cut name member n (drop MAX_ANNOUNCEMENTS entries))

      all : (peers : List Name) →
          Each (λ name. is_member g.peers.members name ≡ true) peers →
          GoRight g asker (flat_map packets_to (map (λ name. (name, waiting_for name g.peers.queued)) peers))
      all [] h = tt
      all (peer ∷ peers) h =
          each-append (λ send. GoesRight g asker send) (packets_to (peer, waiting_for peer g.peers.queued))
          (flat_map packets_to (map (λ name. (name, waiting_for name g.peers.queued)) peers)) (cut peer h.0 _ (waiting_for peer g.peers.queued)) (all peers h.1)

      members : (queued : List (Name × MsgId × ℕ)) →
          Each (λ (entry : Name × MsgId × ℕ). is_member g.peers.members entry.0 ≡ true) queued →
          Each (λ name. is_member g.peers.members name ≡ true) (receivers queued)
      members [] h = tt
      members (entry ∷ queued) h = (
        h.0,
        each-filter (λ name. is_member g.peers.members name ≡ true) (λ name. is_member g.peers.members name ≡ true)
            (λ name. not (same_name entry.0 name)) (λ name is passes. is) (receivers queued) (members queued h.1),
      )
