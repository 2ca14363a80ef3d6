-- What the core sends fits frames.
use Rattle.std.specs.Prelude.{◌≡◌, ◌+◌, ◌<◌, ◌≤◌, ◌&&◌, ◌-◌, ℕ, zero, suc, Bool, true, false, not, cond, List, [], ◌∷◌, ◌++◌, Option}
use Rattle.std.specs.Prelude.{Some, None, is_some, map, filter, take, drop, length, refl, if◌then◌else◌, nat_eq, nat_lt, nat_le}
use Rattle.std.specs.List.{AllByRecursion as Each, flat_map}
use Rattle.std.specs.Map.{lookup}
use Rattle.std.proofs.Common.{inl, inr, sym, ap, subst, arith, length-drop}
use Rattle.std.proofs.lemmas.Bool.{false≢true}
use Rattle.std.proofs.lemmas.Bool.Decides.{nat_tests}
use Rattle.std.proofs.lemmas.List.{length-take}
use Rattle.node_names.specs.NodeName.{Name}
use Rattle.node_names.specs.Same.{same_id, same_id-Decides, same_name, has_id}
use Rattle.node_names.specs.declared.dice.Dice.{Dice}
use Rattle.node_names.specs.declared.ids.MsgId.{MsgId}
use Rattle.protocol.specs.impl_proofs.NameLists.{and_left, and_right}
use Rattle.protocol.specs.impl_proofs.Held.{same_inside}
use Rattle.protocol.specs.Lists.{IsOneOf}
use Rattle.protocol.specs.Stimulus.{Stimulus}
use Rattle.protocol.specs.declared.TheConstants.{MAX_PAYLOAD}
use Rattle.protocol.specs.declared.stimulus.StimulusOf.TheVariants as on
use Rattle.frames.specs.Body.{Body}
use Rattle.frames.specs.Frame.{Frame, are_numbered, has_good_counts}
use Rattle.frames.specs.declared.TheConstants.{MAX_ANNOUNCEMENTS, MAX_NAMES}
use Rattle.frames.specs.declared.body.BodyOf.TheVariants as body
use Rattle.views.specs.Views.{AreSound}
use Rattle.membership.proofs.Fits.{table_fits_frames}
use Rattle.membership.specs.Event.{Event}
use Rattle.membership.specs.declared.event.EventOf.TheVariants as heard_of
use Rattle.membership.specs.Membership.{still}
use Rattle.membership.specs.Table.{table}
use Rattle.known_messages.specs.Held.{kept_last}
use Rattle.missing.specs.Missing.{announced_all, taken_first}
use Rattle.missing.specs.Wants.{first_want, with_wants, without_first}
use Rattle.peer_sets.specs.Members.{is_member, eager_but, lazy_but}
use Rattle.peer_sets.specs.Queue.{waiting_for, receivers, is_queued}
use Rattle.peer_sets.specs.declared.members.PeerKind.TheVariants.{Eager, Lazy}
use Rattle.gossip_core.proofs.PacketLemmas.{packets_to-step}
use Rattle.gossip_core.specs.Announcements.{packets_to, announcements}
use Rattle.gossip_core.specs.State.{GossipState}
use Rattle.gossip_core.specs.Table.{Call, Outcome, outcome, spread, repeated, first_copy, shortcut, swapped, asked}
use Rattle.gossip_core.specs.Table.{answer, is_news, next_round, quiet, with_peer, gossip_to, after_downs, after_ups}
use Rattle.gossip_core.specs.declared.call.CallOf.TheVariants as call
use Rattle.node_core.specs.Fits.{FitsFrames, IsFit, AreFit, ComesFit}
use Rattle.node_core.specs.impl_proofs.Members.{of_each, each_one, each-append, one_of_filter, one_of_map}
use Rattle.node_core.specs.Plum.{Plum}
use Rattle.node_core.specs.Steps.{Turned, turned, heard, idle, is_joined, greeting, by_membership}
use Rattle.node_core.proofs.Openings.{opening_fits}
use Rattle.node_core.specs.impl_proofs.Wanting.{stood}

either : {X : Type 0} (P : X → Type 0) (b : Bool) (x y : X) → (b ≡ true → P x) → (b ≡ false → P y) → P (if b then x else y)
either P true x y p q = p refl
either P false x y p q = q refl

-- ---- tests and what they tell

test_lt : (a b : ℕ) → a < b → nat_lt a b ≡ true
test_lt a b h = grind (arith, nat_tests, h)

test_le : (a b : ℕ) → a ≤ b → nat_le a b ≡ true
test_le a b h = grind (arith, nat_tests, h)

is_lt : (a b : ℕ) → nat_lt a b ≡ true → a < b
is_lt a b h = grind (arith, nat_tests, h)

is_le : (a b : ℕ) → nat_le a b ≡ true → a ≤ b
is_le a b h = grind (arith, nat_tests, h)

both : (a b : Bool) → a ≡ true → b ≡ true → (a && b) ≡ true
both true b is_a is_b = is_b
both false b is_a is_b = absurd (false≢true is_a)

-- a message fits
gossip_fits : (id : MsgId) (round : ℕ) (payload : List ℕ) → 0 < id.seq → length payload ≤ MAX_PAYLOAD → IsFit (body.Gossip id round payload)
gossip_fits id round payload numbered short =
    (both (nat_lt 0 id.seq) (nat_le (length payload) MAX_PAYLOAD) (test_lt 0 id.seq numbered) (test_le (length payload) MAX_PAYLOAD short), refl)

-- announcements whose numbers count from 1
all_numbered : (entries : List (MsgId × ℕ)) → Each (λ entry. 0 < entry.0.seq) entries → are_numbered entries ≡ true
all_numbered [] h = refl
all_numbered (entry ∷ entries) h = both (nat_lt 0 entry.0.seq) (are_numbered entries) (test_lt 0 entry.0.seq h.0) (all_numbered entries h.1)

from_numbered : (entries : List (MsgId × ℕ)) → are_numbered entries ≡ true → Each (λ entry. 0 < entry.0.seq) entries
from_numbered [] h = tt
from_numbered (entry ∷ entries) h = (
  is_lt 0 entry.0.seq (and_left (nat_lt 0 entry.0.seq) (are_numbered entries) h),
  from_numbered entries (and_right (nat_lt 0 entry.0.seq) (are_numbered entries) h),
)

each-take : {X : Type 0} (P : X → Type 0) (n : ℕ) (xs : List X) → Each P xs → Each P (take n xs)
each-take P zero xs h = tt
each-take P (suc n) [] h = tt
each-take P (suc n) (x ∷ xs) h = (h.0, each-take P n xs h.1)

each-drop : {X : Type 0} (P : X → Type 0) (n : ℕ) (xs : List X) → Each P xs → Each P (drop n xs)
each-drop P zero xs h = h
each-drop P (suc n) [] h = tt
each-drop P (suc n) (x ∷ xs) h = each-drop P n xs h.1

-- the packets for a peer fit
packets_fit : (peer : Name) (fuel : ℕ) (entries : List (MsgId × ℕ)) →
    length entries ≤ fuel →
    Each (λ entry. 0 < entry.0.seq) entries →
    AreFit (packets_to (peer, entries))
packets_fit peer fuel [] enough h = tt
packets_fit peer zero (entry ∷ entries) enough h = absurd (not_none (length entries) enough)
  where
    not_none : (n : ℕ) → suc n ≤ 0 → ⊥
    not_none n le = omega (arith, le)
packets_fit peer (suc fuel) (entry ∷ entries) enough h =
    subst AreFit (sym (packets_to-step peer (entry ∷ entries) (some (length entries)))) (
      (all_numbered (take MAX_ANNOUNCEMENTS (entry ∷ entries)) (each-take (λ e. 0 < e.0.seq) MAX_ANNOUNCEMENTS (entry ∷ entries) h), counted),
      packets_fit peer fuel (drop MAX_ANNOUNCEMENTS (entry ∷ entries)) (omega (arith, enough, length-drop MAX_ANNOUNCEMENTS (entry ∷ entries)))
          (each-drop (λ e. 0 < e.0.seq) MAX_ANNOUNCEMENTS (entry ∷ entries) h),
    )
  where
    some : (n : ℕ) → 0 < suc n
    some n = omega arith

    counted : has_good_counts (body.IHave (take MAX_ANNOUNCEMENTS (entry ∷ entries))) ≡ true
    counted =
        both (nat_lt 0 (length (take MAX_ANNOUNCEMENTS (entry ∷ entries))))
        (nat_le (length (take MAX_ANNOUNCEMENTS (entry ∷ entries))) MAX_ANNOUNCEMENTS)
        (test_lt 0 _ (omega (arith, length-take MAX_ANNOUNCEMENTS (entry ∷ entries))))
        (test_le _ MAX_ANNOUNCEMENTS (omega (arith, length-take MAX_ANNOUNCEMENTS (entry ∷ entries))))

-- what is queued for a peer is numbered, if all that is queued is
waiting_numbered : (peer : Name) (queued : List (Name × MsgId × ℕ)) →
    Each (λ entry. 0 < entry.1.seq) queued →
    Each (λ entry. 0 < entry.0.seq) (waiting_for peer queued)
waiting_numbered peer queued h =
    each_one _ (waiting_for peer queued)
    (λ entry is. go entry (one_of_map (λ (e : Name × MsgId × ℕ). (e.1, e.2)) entry (filter (λ e. same_name peer e.0) queued) is))
  where
    go : (entry : MsgId × ℕ) → ((e : Name × MsgId × ℕ) × IsOneOf e (filter (λ x. same_name peer x.0) queued) × (entry ≡ (e.1, e.2))) → 0 < entry.0.seq
    go entry found =
        subst (λ (x : MsgId × ℕ). 0 < x.0.seq) (sym found.2)
        (of_each (λ e. 0 < e.1.seq) queued found.0 h (one_of_filter (λ x. same_name peer x.0) found.0 queued found.1).0)

announcements_fit : (queued : List (Name × MsgId × ℕ)) → Each (λ entry. 0 < entry.1.seq) queued → AreFit (announcements queued)
announcements_fit queued h = go (receivers queued)
  where
    go : (peers : List Name) → AreFit (flat_map packets_to (map (λ peer. (peer, waiting_for peer queued)) peers))
    go [] = tt
    go (peer ∷ peers) =
        each-append (λ send. IsFit send.1)
        (packets_to (peer, waiting_for peer queued))
        (flat_map packets_to (map (λ p. (p, waiting_for p queued)) peers))
        (packets_fit peer (length (waiting_for peer queued)) (waiting_for peer queued)
        (same (length (waiting_for peer queued))) (waiting_numbered peer queued h))
        (go peers)
      where
        same : (n : ℕ) → n ≤ n
        same n = omega arith

-- ---- the calls

-- What the call passes in fits.
abbrev CallFits : Call → Type 0
CallFits (call.Broadcast payload) = length payload ≤ MAX_PAYLOAD
CallFits (call.OnGossip sender id round payload) = IsFit (body.Gossip id round payload)
CallFits (call.OnIHave sender entries) = IsFit (body.IHave entries)
CallFits (call.Fire id) = Unit {0}
CallFits (call.OnGraft sender id round) = Unit {0}
CallFits (call.OnGraftPeer sender) = Unit {0}
CallFits (call.OnPrune sender) = Unit {0}
CallFits call.Flush = Unit {0}
CallFits (call.Up peer) = Unit {0}
CallFits (call.Down peer) = Unit {0}

-- what holds of each that is sent to a list of names
to_each : (id : MsgId) (round : ℕ) (payload : List ℕ) (peers : List Name) →
    IsFit (body.Gossip id round payload) →
    AreFit (map (gossip_to id round payload) peers)
to_each id round payload [] fit = tt
to_each id round payload (peer ∷ peers) fit = (fit, to_each id round payload peers fit)

-- what holds of each held message holds of those that are kept, and of the one that is found
abbrev HeldFit : List (MsgId × List ℕ) → Type 0
HeldFit held = Each (λ message. (0 < message.0.seq) × (length message.1 ≤ MAX_PAYLOAD)) held

dropped_fit : (n : ℕ) (held : List (MsgId × List ℕ)) → HeldFit held → HeldFit (drop n held)
dropped_fit zero held fit = fit
dropped_fit (suc n) [] fit = fit
dropped_fit (suc n) (message ∷ held) fit = dropped_fit n held fit.1

kept_fit : (keep : ℕ) (held : List (MsgId × List ℕ)) → HeldFit held → HeldFit (kept_last keep held)
kept_fit keep held fit = either HeldFit (nat_eq keep 0) held (drop (length held - keep) held) (λ all. fit) (λ some. dropped_fit (length held - keep) held fit)

held_fits : (held : List (MsgId × List ℕ)) →
    HeldFit held →
    (id : MsgId) (p : List ℕ) →
    lookup (same_id id) held ≡ Some p →
    (0 < id.seq) × (length p ≤ MAX_PAYLOAD)
held_fits [] fit id p found = absurd (false≢true (ap is_some found))
held_fits (message ∷ held) fit id p found = go (same_id id message.0) refl found (held_fits held fit.1 id p)
  where
    go : (b : Bool) →
        same_id id message.0 ≡ b →
        cond b (Some message.1) (lookup (same_id id) held) ≡ Some p →
        (lookup (same_id id) held ≡ Some p → (0 < id.seq) × (length p ≤ MAX_PAYLOAD)) →
        (0 < id.seq) × (length p ≤ MAX_PAYLOAD)
    go true same is later = (
      subst (λ (i : MsgId). 0 < i.seq) (sym ((same_id-Decides id message.0).0 same)) fit.0.0,
      subst (λ q. length q ≤ MAX_PAYLOAD) (same_inside message.1 p is) fit.0.1,
    )
    go false apart is later = later is

module _ (g : GossipState) (fits : FitsFrames g) where
  -- What a call leaves and sends fits.
  abbrev Fit : Outcome → Type 0
  Fit done = FitsFrames done.state × AreFit done.sends

  abbrev FitMore : Option Name → MsgId → ℕ → List ℕ → GossipState → Type 0
  FitMore left_out id round payload h = FitsFrames (spread left_out id round payload h).state × AreFit (spread left_out id round payload h).sends

  spread_fits : (left_out : Option Name) (id : MsgId) (round : ℕ) (payload : List ℕ) (spent : ℕ) (wants : List (MsgId × Name × ℕ)) (timers : List MsgId) →
      0 < id.seq →
      length payload ≤ MAX_PAYLOAD →
      ((entry : MsgId × Name × ℕ) → IsOneOf entry wants → IsOneOf entry g.missing.wants) →
      FitMore left_out id round payload (record g { spent = spent; missing = record { wants = wants; timers = timers } })
  spread_fits left_out id round payload spent wants timers numbered short fewer = (
    record {
      held =
          kept_fit g.keep (g.held ++ (id, payload) ∷ [])
          (each-append (λ (message : MsgId × List ℕ). (0 < message.0.seq) × (length message.1 ≤ MAX_PAYLOAD)) g.held ((id, payload) ∷ []) fits.held (
            (numbered, short),
            tt,
          ));
      queued =
          each-append (λ entry. 0 < entry.1.seq) g.peers.queued _ fits.queued
          (all_new (filter (λ peer. not (is_queued peer id g.peers.queued)) (lazy_but left_out g.peers.members)));
      wants = each_one _ wants (λ entry h. of_each (λ e. 0 < e.0.seq) g.missing.wants entry fits.wants (fewer entry h));
    },
    to_each id round payload (eager_but left_out g.peers.members) (gossip_fits id round payload numbered short),
  )
    where
      all_new : (peers : List Name) → Each (λ (entry : Name × MsgId × ℕ). 0 < entry.1.seq) (map (λ peer. (peer, id, round)) peers)
      all_new [] = tt
      all_new (peer ∷ peers) = (numbered, all_new peers)

  answer_fits : (peer : Name) (id : MsgId) (round : ℕ) (o : Option (List ℕ)) → lookup (same_id id) g.held ≡ o → AreFit (answer peer id round o)
  answer_fits peer id round None is = tt
  answer_fits peer id round (Some payload) is = let fit = held_fits g.held fits.held id payload is in (gossip_fits id round payload fit.0 fit.1, tt)

  fewer_first : (id : MsgId) (wants : List (MsgId × Name × ℕ)) (entry : MsgId × Name × ℕ) → IsOneOf entry (without_first id wants) → IsOneOf entry wants
  fewer_first id [] entry none = none
  fewer_first id (e ∷ wants) entry h = go (fewer_first id wants entry) (same_id id e.0) h
    where
      go : (IsOneOf entry (without_first id wants) → IsOneOf entry wants) →
          (b : Bool) →
          IsOneOf entry (if b then wants else e ∷ without_first id wants) →
          IsOneOf entry (e ∷ wants)
      go rest true later = inr later
      go rest false (inl same) = inl same
      go rest false (inr later) = inr (rest later)

  -- the id of the first entry that is asked for is numbered from 1
  first_numbered :
      (id : MsgId) (wants : List (MsgId × Name × ℕ)) (first : Name × ℕ) → first_want id wants ≡ Some first → Each (λ entry. 0 < entry.0.seq) wants → 0 < id.seq
  first_numbered id [] first none h = absurd (false≢true (ap is_some none))
  first_numbered id (entry ∷ wants) first found h = go (λ later. first_numbered id wants first later h.1) (same_id id entry.0) refl found
    where
      go : (first_want id wants ≡ Some first → 0 < id.seq) →
          (b : Bool) →
          same_id id entry.0 ≡ b →
          (if b then Some (entry.1, entry.2) else first_want id wants) ≡ Some first →
          0 < id.seq
      go rest true same e = subst (λ (i : MsgId). 0 < i.seq) (sym ((same_id-Decides id entry.0).0 same)) h.0
      go rest false same e = rest e

  fired_fits : (id : MsgId) (timers : List MsgId) (first : Option (Name × ℕ)) →
      first_want id g.missing.wants ≡ first →
      Fit (asked id first (record g { missing = record { wants = without_first id g.missing.wants; timers = timers } }))
  fired_fits id timers first found = go first found
    where
      left : FitsFrames (record g { missing = record { wants = without_first id g.missing.wants; timers = timers } })
      left = record {
        held = fits.held;
        queued = fits.queued;
        wants =
            each_one _ (without_first id g.missing.wants)
            (λ entry h. of_each (λ e. 0 < e.0.seq) g.missing.wants entry fits.wants (fewer_first id g.missing.wants entry h));
      }

      go : (o : Option (Name × ℕ)) →
          first_want id g.missing.wants ≡ o →
          Fit (asked id o (record g { missing = record { wants = without_first id g.missing.wants; timers = timers } }))
      go None is = (left, tt)
      go (Some one) is = (
        record { held = fits.held; queued = fits.queued; wants = left.wants },
        ((test_lt 0 id.seq (first_numbered id g.missing.wants one is fits.wants), refl), tt),
      )

  same_fits : (h : GossipState) → h.held ≡ g.held → h.peers.queued ≡ g.peers.queued → h.missing.wants ≡ g.missing.wants → FitsFrames h
  same_fits h held queued wants =
      record {
        held = subst (Each (λ (message : MsgId × List ℕ). (0 < message.0.seq) × (length message.1 ≤ MAX_PAYLOAD))) (sym held) fits.held;
        queued = subst (Each (λ (entry : Name × MsgId × ℕ). 0 < entry.1.seq)) (sym queued) fits.queued;
        wants = subst (Each (λ (entry : MsgId × Name × ℕ). 0 < entry.0.seq)) (sym wants) fits.wants;
      }

  swap_fits : (sender : Name) (announcer : Option Name) (done : Outcome) → Fit done → Fit (swapped sender announcer done)
  swap_fits sender None done fit = fit
  swap_fits sender (Some peer) done fit = (
    record { held = fit.0.held; queued = fit.0.queued; wants = fit.0.wants },
    each-append (λ send. IsFit send.1) done.sends ((peer, body.GraftPeer) ∷ (sender, body.Prune) ∷ []) fit.1 ((refl, refl), ((refl, refl), tt)),
  )

  gossip_call : (sender : Name) (id : MsgId) (round : ℕ) (payload : List ℕ) →
      IsFit (body.Gossip id round payload) →
      Fit (outcome g (call.OnGossip sender id round payload))
  gossip_call sender id round payload fit =
      either Fit _ (repeated sender g) (if is_news g id then swapped sender (shortcut g sender id round) (first_copy sender id round payload g) else quiet g)
      (λ known. either Fit (is_member g.peers.members sender) (record { state = with_peer sender Lazy g; sends = (sender, body.Prune) ∷ []; delivered = None })
      (quiet g) (λ member. (same_fits (with_peer sender Lazy g) refl refl refl, ((refl, refl), tt))) (λ stranger. (fits, tt)))
      (λ unknown. either Fit (is_news g id) (swapped sender (shortcut g sender id round) (first_copy sender id round payload g))
      (quiet g) (λ news. swap_fits sender (shortcut g sender id round) (first_copy sender id round payload g) first) (λ own. (fits, tt)))
    where
      numbered : 0 < id.seq
      numbered = is_lt 0 id.seq (and_left (nat_lt 0 id.seq) (nat_le (length payload) MAX_PAYLOAD) fit.0)

      short : length payload ≤ MAX_PAYLOAD
      short = is_le (length payload) MAX_PAYLOAD (and_right (nat_lt 0 id.seq) (nat_le (length payload) MAX_PAYLOAD) fit.0)

      done : FitMore (Some sender) id (next_round round) payload (record g {
        spent = g.spent;
        missing =
            record { wants = filter (λ entry. not (same_id id entry.0)) g.missing.wants; timers = filter (λ armed. not (same_id id armed)) g.missing.timers };
      })
      done =
          spread_fits (Some sender) id
          (next_round round)
          payload g.spent
          (filter (λ entry. not (same_id id entry.0)) g.missing.wants)
          (filter (λ armed. not (same_id id armed)) g.missing.timers)
          numbered short
          (λ entry h. (one_of_filter (λ e. not (same_id id e.0)) entry g.missing.wants h).0)

      first : Fit (first_copy sender id round payload g)
      first = (record { held = done.0.held; queued = done.0.queued; wants = done.0.wants }, done.1)

  pub call_fits : (c : Call) → CallFits c → Fit (outcome g c)
  call_fits (call.Broadcast payload) short =
      spread_fits None (record { origin = g.me; seq = g.spent + 1 }) 0 payload (g.spent + 1) g.missing.wants g.missing.timers (omega arith) short (λ entry h. h)
  call_fits (call.OnGossip sender id round payload) fit = gossip_call sender id round payload fit
  call_fits (call.OnIHave sender entries) fit =
      either Fit (is_member g.peers.members sender)
      (quiet (record g { missing = announced_all sender (filter (λ entry. is_news g entry.0) entries) g.missing })) (quiet g)
      (λ member. (
        record {
          held = fits.held;
          queued = fits.queued;
          wants = each_one _ (with_wants sender (filter (λ entry. is_news g entry.0) entries) g.missing.wants)
              (λ entry h. elim (stood sender (filter (λ e. is_news g e.0) entries) g.missing.wants entry h) [
                | inl was ↦ of_each (λ e. 0 < e.0.seq) g.missing.wants entry fits.wants was
                | inr new ↦ of_each (λ (e : MsgId × ℕ). 0 < e.0.seq) entries (entry.0, entry.2)
                    (from_numbered entries fit.0) (one_of_filter (λ e. is_news g e.0) (entry.0, entry.2) entries new.1).0
              ]);
        },
        tt,
      ))
      (λ stranger. (fits, tt))
  call_fits (call.Fire id) fit =
      either Fit (has_id g.missing.timers id) (asked id (first_want id g.missing.wants) (record g { missing = taken_first id g.missing })) (quiet g)
      (λ is. fired_fits id (taken_first id g.missing).timers (first_want id g.missing.wants) refl) (λ is. (fits, tt))
  call_fits (call.OnGraft sender id round) fit =
      (same_fits (with_peer sender Eager g) refl refl refl, answer_fits sender id round (lookup (same_id id) g.held) refl)
  call_fits (call.OnGraftPeer sender) fit = (same_fits (with_peer sender Eager g) refl refl refl, tt)
  call_fits (call.OnPrune sender) fit = (same_fits (with_peer sender Lazy g) refl refl refl, tt)
  call_fits call.Flush fit = (record { held = fits.held; queued = tt; wants = fits.wants }, announcements_fit g.peers.queued fits.queued)
  call_fits (call.Up peer) fit = (record { held = fits.held; queued = fits.queued; wants = fits.wants }, tt)
  call_fits (call.Down peer) fit = (
    record {
      held = fits.held;
      queued =
          each_one _ (filter (λ entry. not (same_name peer entry.0)) g.peers.queued)
          (λ entry h. of_each (λ e. 0 < e.1.seq) g.peers.queued entry fits.queued (one_of_filter (λ e. not (same_name peer e.0)) entry g.peers.queued h).0);
      wants =
          each_one _ (filter (λ entry. not (same_name peer entry.1)) g.missing.wants)
          (λ entry h. of_each (λ e. 0 < e.0.seq) g.missing.wants entry fits.wants (one_of_filter (λ e. not (same_name peer e.1)) entry g.missing.wants h).0);
    },
    tt,
  )

downs_fit : (downs : List Name) (g : GossipState) → FitsFrames g → FitsFrames (after_downs downs g)
downs_fit [] g fits = fits
downs_fit (name ∷ downs) g fits = downs_fit downs (outcome g (call.Down name)).state (call_fits g fits (call.Down name) tt).0

ups_fit : (ups : List Name) (g : GossipState) → FitsFrames g → FitsFrames (after_ups ups g)
ups_fit [] g fits = fits
ups_fit (name ∷ ups) g fits = ups_fit ups (outcome g (call.Up name)).state (call_fits g fits (call.Up name) tt).0

-- ---- the stimuli

module _ (core : Plum) (fits : FitsFrames core.gossip) (sound : AreSound core.membership.views) where
  abbrev Turns : Turned → Type 0
  Turns t = FitsFrames t.gossip × AreFit t.sends

  abbrev Moves : Event → Dice → Type 0
  Moves event dice = Turns (by_membership core.membership core.gossip event dice)

  moves_fit : (event : Event) (dice : Dice) → AreFit (table event dice (still core.membership)).sends → Moves event dice
  moves_fit event dice sent = (
    ups_fit (table event dice (still core.membership)).ups (after_downs (table event dice (still core.membership)).downs core.gossip)
        (downs_fit (table event dice (still core.membership)).downs core.gossip fits),
    sent,
  )

  heard_fits : (sender : Name) (said : Body) (dice : Dice) → IsFit said → Turns (heard core.membership core.gossip sender said dice)
  heard_fits sender body.Join dice fit = moves_fit (heard_of.Join sender) dice (table_fits_frames core.membership (heard_of.Join sender) dice sound tt)
  heard_fits sender (body.ForwardJoin new ttl) dice fit =
      moves_fit (heard_of.ForwardJoin sender new ttl) dice (table_fits_frames core.membership (heard_of.ForwardJoin sender new ttl) dice sound tt)
  heard_fits sender (body.Neighbor high) dice fit =
      moves_fit (heard_of.Neighbor sender high) dice (table_fits_frames core.membership (heard_of.Neighbor sender high) dice sound tt)
  heard_fits sender (body.NeighborReply accepted) dice fit =
      moves_fit (heard_of.Reply sender accepted) dice (table_fits_frames core.membership (heard_of.Reply sender accepted) dice sound tt)
  heard_fits sender body.Disconnect dice fit =
      moves_fit (heard_of.Disconnect sender) dice (table_fits_frames core.membership (heard_of.Disconnect sender) dice sound tt)
  heard_fits sender (body.Shuffle origin ttl ns) dice fit =
      moves_fit (heard_of.Shuffle sender origin ttl ns) dice
      (table_fits_frames core.membership (heard_of.Shuffle sender origin ttl ns) dice sound (is_le (length ns) MAX_NAMES fit.1))
  heard_fits sender (body.ShuffleReply ns) dice fit =
      moves_fit (heard_of.ShuffleReply sender ns) dice (table_fits_frames core.membership (heard_of.ShuffleReply sender ns) dice sound tt)
  heard_fits sender (body.Gossip id round payload) dice fit = call_fits core.gossip fits (call.OnGossip sender id round payload) fit
  heard_fits sender (body.IHave entries) dice fit = call_fits core.gossip fits (call.OnIHave sender entries) fit
  heard_fits sender (body.Graft id round) dice fit = call_fits core.gossip fits (call.OnGraft sender id round) tt
  heard_fits sender body.Prune dice fit = call_fits core.gossip fits (call.OnPrune sender) tt
  heard_fits sender body.GraftPeer dice fit = call_fits core.gossip fits (call.OnGraftPeer sender) tt

  pub turned_fits : (stimulus : Stimulus Frame) → ComesFit stimulus → Turns (turned core.me core.membership core.gossip stimulus)
  turned_fits (on.Broadcast payload) short = call_fits core.gossip fits (call.Broadcast payload) short
  turned_fits (on.Arrive sender frame dice) fit =
      either Turns (same_name sender.name core.me.name) (idle core.membership core.gossip)
      (heard core.membership core.gossip sender.name frame.body dice) (λ own. (fits, tt)) (λ other. heard_fits sender.name frame.body dice fit)
  turned_fits (on.Fire id) fit = call_fits core.gossip fits (call.Fire id) tt
  turned_fits on.Flush fit = call_fits core.gossip fits call.Flush tt
  turned_fits (on.Down peer dice) fit = moves_fit (heard_of.Down peer) dice (table_fits_frames core.membership (heard_of.Down peer) dice sound tt)
  turned_fits (on.Shuffle dice) fit = moves_fit heard_of.Tick dice (table_fits_frames core.membership heard_of.Tick dice sound tt)
  turned_fits (on.Join contact) fit =
      either Turns (is_joined core.me core.membership contact) (idle core.membership core.gossip)
      (greeting core.membership core.gossip contact) (λ joined. (fits, tt)) (λ apart. (fits, opening_fits (Some contact)))
