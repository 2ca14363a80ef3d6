-- Each packet of a broadcast that comes, each flush and each firing leave a gossip and its packets with less load than
-- there was.
use Rattle.std.proofs.Common.{◌≡◌, ◌∙◌, ◌+◌, ◌*◌, ◌≤◌, ℕ, suc, List, [], ◌∷◌, ◌++◌, length, true, false, sym, ap, refl, subst, arith}
use Rattle.std.specs.Prelude.{Bool, Option, Some, None, cond, filter, is_some, map, not}
use Rattle.std.specs.FinSet as set
use Rattle.std.specs.Map.{lookup}
use Rattle.std.proofs.lemmas.List.Sums.{sum_by-cons}
use Rattle.node_names.specs.NodeName.{Name}
use Rattle.node_names.specs.Same.{has_id, same_id}
use Rattle.node_names.specs.declared.ids.MsgId.{MsgId}
use Rattle.frames.specs.Body.{Body}
use Rattle.frames.specs.declared.body.BodyOf.TheVariants.{GraftPeer, Prune}
use Rattle.missing.specs.Missing.{announced_all, got, taken_first}
use Rattle.missing.specs.Timers.{without_timer}
use Rattle.missing.specs.Wants.{first_want, without_first}
use Rattle.peer_sets.specs.Members.{eager_but, is_member, lazy_but}
use Rattle.peer_sets.specs.Queue.{with_entries}
use Rattle.peer_sets.specs.declared.members.PeerKind.TheVariants.{Eager, Lazy}
use Rattle.gossip_core.specs.State.{GossipState}
use Rattle.gossip_core.specs.Table.{Outcome, answer, asked, first_copy, gossip_to, is_news, next_round, outcome, shortcut, spread, swapped, with_peer}
use Rattle.gossip_core.specs.declared.call.CallOf.TheVariants as call
use Rattle.at_rest.specs.Load.{body_load}
use Rattle.at_rest.proofs.Batched.{announced_load, sends_both, sends_load}
use Rattle.at_rest.proofs.Lengths.{as_many_members, filtered, queued_more, split_members, timer_gone, timers_more, took_first, took_none, wants_more}

-- what waits at a gossip
abbrev pub gossip_waiting : GossipState → ℕ
gossip_waiting g = 8 * length g.peers.queued + 5 * length g.missing.wants + length g.missing.timers

-- how many members it has
abbrev pub member_count : GossipState → ℕ
member_count g = length g.peers.members

-- a payload to each of these
copies_load : (id : MsgId) (round : ℕ) (payload : List ℕ) (names : List Name) → sends_load (map (gossip_to id round payload) names) ≡ 3 * length names
copies_load id round payload [] = refl
copies_load id round payload (name ∷ names) =
    let whole : sends_load (map (gossip_to id round payload) (name ∷ names)) ≡ 3 + sends_load (map (gossip_to id round payload) names) =
    sum_by-cons (λ (send : Name × Body). body_load send.1) (gossip_to id round payload name) (map (gossip_to id round payload) names) in
    let later : sends_load (map (gossip_to id round payload) names) ≡ 3 * length names = copies_load id round payload names in
    let all : sends_load (map (gossip_to id round payload) (name ∷ names)) ≡ 3 * length (name ∷ names) = omega arith in
    all

-- a message that spreads adds 8 at most for each member
spread_load : (left_out : Option Name) (id : MsgId) (round : ℕ) (payload : List ℕ) (g : GossipState) →
    sends_load (spread left_out id round payload g).sends + gossip_waiting (spread left_out id round payload g).state ≤ gossip_waiting g + 8 * member_count g
spread_load left_out id round payload g =
    let sent : sends_load (map (gossip_to id round payload) (eager_but left_out g.peers.members)) ≡ 3 * length (eager_but left_out g.peers.members) =
    copies_load id round payload (eager_but left_out g.peers.members) in
    let queued : length (with_entries (lazy_but left_out g.peers.members) id round g.peers.queued)
    ≤ length g.peers.queued + length (lazy_but left_out g.peers.members) =
    queued_more (lazy_but left_out g.peers.members) id round g.peers.queued in
    let parts : length (eager_but left_out g.peers.members) + length (lazy_but left_out g.peers.members) ≤ length g.peers.members =
    split_members left_out g.peers.members in
    omega arith

-- what is got no longer waits
got_less : (id : MsgId) (g : GossipState) → gossip_waiting (record g { missing = got id g.missing }) ≤ gossip_waiting g
got_less id g =
    let wants : length (filter (λ (entry : MsgId × Name × ℕ). not (same_id id entry.0)) g.missing.wants) ≤ length g.missing.wants =
    filtered (λ (entry : MsgId × Name × ℕ). not (same_id id entry.0)) g.missing.wants in
    let timers : length (filter (λ armed. not (same_id id armed)) g.missing.timers) ≤ length g.missing.timers =
    filtered (λ armed. not (same_id id armed)) g.missing.timers in
    omega arith

-- a first copy adds as much as it spreads
first_load : (sender : Name) (id : MsgId) (round : ℕ) (payload : List ℕ) (g : GossipState) →
    sends_load (first_copy sender id round payload g).sends + gossip_waiting (first_copy sender id round payload g).state
    ≤ gossip_waiting g + 8 * member_count g
first_load sender id round payload g =
    let spreads : sends_load (spread (Some sender) id (next_round round) payload (record g { missing = got id g.missing })).sends
    + gossip_waiting (spread (Some sender) id (next_round round) payload (record g { missing = got id g.missing })).state
    ≤ gossip_waiting (record g { missing = got id g.missing }) + 8 * member_count g =
    spread_load (Some sender) id (next_round round) payload (record g { missing = got id g.missing }) in
    let less : gossip_waiting (record g { missing = got id g.missing }) ≤ gossip_waiting g = got_less id g in
    omega arith

-- and 2 if a branch is swapped
swapped_load : (sender : Name) (peer : Option Name) (done : Outcome) →
    sends_load (swapped sender peer done).sends + gossip_waiting (swapped sender peer done).state ≤ sends_load done.sends + gossip_waiting done.state + 2
swapped_load sender None done = omega arith
swapped_load sender (Some peer) done =
    let both : sends_load (done.sends ++ (peer, GraftPeer) ∷ (sender, Prune) ∷ []) ≡ sends_load done.sends + 2 =
    sends_both done.sends ((peer, GraftPeer) ∷ (sender, Prune) ∷ []) in
    omega arith

-- The call leaves less than there was and came, except for what a delivery adds: 9 for each member at most.
pub record IsLighter (came : ℕ) (g : GossipState) (done : Outcome) : Type 0 where
  pub quiet : done.delivered ≡ None → sends_load done.sends + gossip_waiting done.state + 1 ≤ came + gossip_waiting g
  pub spreads : (message : MsgId × List ℕ) →
      done.delivered ≡ Some message →
      sends_load done.sends + gossip_waiting done.state + 1 ≤ came + gossip_waiting g + 9 * member_count g
  pub members : member_count done.state ≡ member_count g

-- a message that comes
pub gossip_lighter : (g : GossipState) (sender : Name) (id : MsgId) (round : ℕ) (payload : List ℕ) →
    IsLighter 3 g (outcome g (call.OnGossip sender id round payload))
gossip_lighter g sender id round payload = go (set.contains g.known id) (is_news g id) (is_member g.peers.members sender)
  where
    news : IsLighter 3 g (swapped sender (shortcut g sender id round) (first_copy sender id round payload g))
    news =
        record {
          quiet = λ none. (let no : Some (id, payload) ≡ None = sym (delivers (shortcut g sender id round)) ∙ none in cc);
          spreads = λ message is. (
              let first : sends_load (first_copy sender id round payload g).sends + gossip_waiting (first_copy sender id round payload g).state
              ≤ gossip_waiting g + 8 * member_count g =
              first_load sender id round payload g in
              let more : sends_load (swapped sender (shortcut g sender id round) (first_copy sender id round payload g)).sends
              + gossip_waiting (swapped sender (shortcut g sender id round) (first_copy sender id round payload g)).state
              ≤ sends_load (first_copy sender id round payload g).sends + gossip_waiting (first_copy sender id round payload g).state + 2 =
              swapped_load sender (shortcut g sender id round) (first_copy sender id round payload g) in
              omega arith);
          members = counted (shortcut g sender id round);
        }
      where
        delivers : (peer : Option Name) → (swapped sender peer (first_copy sender id round payload g)).delivered ≡ Some (id, payload)
        delivers None = refl
        delivers (Some peer) = refl

        counted : (peer : Option Name) → member_count (swapped sender peer (first_copy sender id round payload g)).state ≡ member_count g
        counted None = as_many_members sender _ g.peers.members
        counted (Some peer) = as_many_members sender _ _ ∙ as_many_members peer _ _ ∙ as_many_members sender _ g.peers.members

    again : (b : Bool) →
        IsLighter 3 g (cond b (record { state = with_peer sender Lazy g; sends = (sender, Prune) ∷ []; delivered = None })
        (record { state = g; sends = []; delivered = None }))
    again true = record {
      quiet = λ none. omega arith;
      spreads = λ message is. (let no : None ≡ Some message = is in cc);
      members = as_many_members sender _ g.peers.members;
    }
    again false = record { quiet = λ none. omega arith; spreads = λ message is. (let no : None ≡ Some message = is in cc); members = refl }

    go : (a b c : Bool) →
        IsLighter 3 g (cond a (cond c (record { state = with_peer sender Lazy g; sends = (sender, Prune) ∷ []; delivered = None })
        (record { state = g; sends = []; delivered = None }))
        (cond b (swapped sender (shortcut g sender id round) (first_copy sender id round payload g)) (record { state = g; sends = []; delivered = None })))
    go true b c = again c
    go false true c = news
    go false false c = record { quiet = λ none. omega arith; spreads = λ message is. (let no : None ≡ Some message = is in cc); members = refl }

-- announcements that come, one at least
pub announcements_lighter : (g : GossipState) (sender : Name) (entries : List (MsgId × ℕ)) →
    1 ≤ length entries →
    IsLighter (7 * length entries) g (outcome g (call.OnIHave sender entries))
announcements_lighter g sender entries some = go (is_member g.peers.members sender)
  where
    news : List (MsgId × ℕ)
    news = filter (λ entry. is_news g entry.0) entries

    taken : IsLighter (7 * length entries) g
        (record { state = record g { missing = announced_all sender (filter (λ entry. is_news g entry.0) entries) g.missing }; sends = []; delivered = None })
    taken =
        let fewer : length (filter (λ (entry : MsgId × ℕ). is_news g entry.0) entries) ≤ length entries =
        filtered (λ (entry : MsgId × ℕ). is_news g entry.0) entries in
        let wants : length (announced_all sender (filter (λ entry. is_news g entry.0) entries) g.missing).wants
        ≤ length g.missing.wants + length (filter (λ (entry : MsgId × ℕ). is_news g entry.0) entries) =
        wants_more sender (filter (λ entry. is_news g entry.0) entries) g.missing.wants in
        let timers : length (announced_all sender (filter (λ entry. is_news g entry.0) entries) g.missing).timers
        ≤ length g.missing.timers + length (filter (λ (entry : MsgId × ℕ). is_news g entry.0) entries) =
        timers_more (filter (λ entry. is_news g entry.0) entries) g.missing.timers in
        record { quiet = λ none. omega arith; spreads = λ message is. (let no : None ≡ Some message = is in cc); members = refl }

    go : (b : Bool) →
        IsLighter (7 * length entries) g (cond b
        (record { state = record g { missing = announced_all sender (filter (λ entry. is_news g entry.0) entries) g.missing }; sends = []; delivered = None })
        (record { state = g; sends = []; delivered = None }))
    go true = taken
    go false = record { quiet = λ none. omega arith; spreads = λ message is. (let no : None ≡ Some message = is in cc); members = refl }

-- a request that comes
pub request_lighter : (g : GossipState) (sender : Name) (id : MsgId) (round : ℕ) → IsLighter 4 g (outcome g (call.OnGraft sender id round))
request_lighter g sender id round = go (lookup (same_id id) g.held)
  where
    go : (o : Option (List ℕ)) → IsLighter 4 g (record { state = with_peer sender Eager g; sends = answer sender id round o; delivered = None })
    go None = record {
      quiet = λ none. omega arith;
      spreads = λ message is. (let no : None ≡ Some message = is in cc);
      members = as_many_members sender _ g.peers.members;
    }
    go (Some payload) = record {
      quiet = λ none. omega arith;
      spreads = λ message is. (let no : None ≡ Some message = is in cc);
      members = as_many_members sender _ g.peers.members;
    }

-- a packet that says which set its sender is in
pub graft_lighter : (g : GossipState) (sender : Name) → IsLighter 1 g (outcome g (call.OnGraftPeer sender))
graft_lighter g sender = record {
  quiet = λ none. omega arith;
  spreads = λ message is. (let no : None ≡ Some message = is in cc);
  members = as_many_members sender _ g.peers.members;
}

pub prune_lighter : (g : GossipState) (sender : Name) → IsLighter 1 g (outcome g (call.OnPrune sender))
prune_lighter g sender = record {
  quiet = λ none. omega arith;
  spreads = λ message is. (let no : None ≡ Some message = is in cc);
  members = as_many_members sender _ g.peers.members;
}

-- a flush of what waits
pub flush_lighter : (g : GossipState) → 1 ≤ length g.peers.queued → IsLighter 0 g (outcome g call.Flush)
flush_lighter g some =
    let sent : sends_load (outcome g call.Flush).sends ≤ 7 * length g.peers.queued = announced_load g.peers.queued in
    record { quiet = λ none. omega arith; spreads = λ message is. (let no : None ≡ Some message = is in cc); members = refl }

-- the firing of a timer
pub firing_lighter : (g : GossipState) (id : MsgId) → has_id g.missing.timers id ≡ true → IsLighter 0 g (outcome g (call.Fire id))
firing_lighter g id armed =
    subst (λ b. IsLighter 0 g (cond b (fired (first_want id g.missing.wants)) (record { state = g; sends = []; delivered = None })))
    (sym armed) (go (first_want id g.missing.wants) refl)
  where
    fired : Option (Name × ℕ) → Outcome
    fired first = asked id first (record g { missing = taken_first id g.missing })

    go : (o : Option (Name × ℕ)) → first_want id g.missing.wants ≡ o → IsLighter 0 g (fired o)
    go None none =
        let wants : length (without_first id g.missing.wants) ≡ length g.missing.wants = ap length (took_none id g.missing.wants none) in
        let timers : length (cond (is_some (first_want id g.missing.wants)) g.missing.timers (without_timer id g.missing.timers))
        ≡ length (without_timer id g.missing.timers) =
        ap (λ (x : Option (Name × ℕ)). length (cond (is_some x) g.missing.timers (without_timer id g.missing.timers))) none in
        let gone : suc (length (without_timer id g.missing.timers)) ≤ length g.missing.timers = timer_gone id g.missing.timers armed in
        record { quiet = λ nothing. omega arith; spreads = λ message is. (let no : None ≡ Some message = is in cc); members = refl }
    go (Some first) some =
        let wants : length g.missing.wants ≡ suc (length (without_first id g.missing.wants)) = took_first id g.missing.wants first some in
        let timers : length (cond (is_some (first_want id g.missing.wants)) g.missing.timers (without_timer id g.missing.timers)) ≡ length g.missing.timers =
        ap (λ (x : Option (Name × ℕ)). length (cond (is_some x) g.missing.timers (without_timer id g.missing.timers))) some in
        record {
          quiet = λ nothing. omega arith;
          spreads = λ message is. (let no : None ≡ Some message = is in cc);
          members = as_many_members first.0 _ g.peers.members;
        }
