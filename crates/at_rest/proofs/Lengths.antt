-- How long the lists of a gossip are after its calls.
use Rattle.std.proofs.Common.{◌≡◌, ◌+◌, ◌≤◌, ℕ, suc, List, [], ◌∷◌, ◌++◌, length, true, false, ap, refl, arith}
use Rattle.std.specs.Prelude.{◌&&◌, ◌||◌, Bool, Option, Some, None, cond, filter, map, not}
use Rattle.std.proofs.lemmas.Bool.{false≢true}
use Rattle.std.proofs.lemmas.List.{length-append, length-map}
use Rattle.node_names.specs.NodeName.{Name}
use Rattle.node_names.specs.Same.{has_id, same_id, same_name, is_left_out}
use Rattle.node_names.specs.declared.ids.MsgId.{MsgId}
use Rattle.missing.specs.Timers.{with_timer, with_timers, without_timer}
use Rattle.missing.specs.Wants.{first_want, is_wanted, with_want, with_wants, without_first}
use Rattle.peer_sets.specs.Members.{eager_but, is_eager_kind, lazy_but, with_kind}
use Rattle.peer_sets.specs.Queue.{is_queued, with_entries}
use Rattle.peer_sets.specs.declared.members.PeerKind.{PeerKind}

-- what is filtered is no longer
pub filtered : {X : Type 0} (p : X → Bool) (xs : List X) → length (filter p xs) ≤ length xs
filtered p [] = omega arith
filtered {X} p (x ∷ xs) = go (p x) (filtered p xs)
  where
    go : (b : Bool) → length (filter p xs) ≤ length xs → length (cond b (x ∷ filter p xs) (filter p xs)) ≤ length (x ∷ xs)
    go true less = omega arith
    go false less = omega arith

-- eager and lazy members are no more than all
pub split_members : (left_out : Option Name) (members : List (Name × PeerKind)) →
    length (eager_but left_out members) + length (lazy_but left_out members) ≤ length members
split_members left_out [] = omega arith
split_members left_out (member ∷ members) = go (is_eager_kind member.1) (is_left_out left_out member.0) (split_members left_out members)
  where
    go : (a b : Bool) → length (eager_but left_out members) + length (lazy_but left_out members) ≤ length members →
        length (map (λ (m : Name × PeerKind). m.0) (cond (a && not b)
        (member ∷ filter (λ (m : Name × PeerKind). is_eager_kind m.1 && not (is_left_out left_out m.0)) members)
        (filter (λ (m : Name × PeerKind). is_eager_kind m.1 && not (is_left_out left_out m.0)) members)))
        + length (map (λ (m : Name × PeerKind). m.0) (cond (not a && not b)
        (member ∷ filter (λ (m : Name × PeerKind). not (is_eager_kind m.1) && not (is_left_out left_out m.0)) members)
        (filter (λ (m : Name × PeerKind). not (is_eager_kind m.1) && not (is_left_out left_out m.0)) members)))
        ≤ length (member ∷ members)
    go true true less = omega arith
    go true false less = omega arith
    go false true less = omega arith
    go false false less = omega arith

-- entries for some peers are no more than the peers
pub queued_more : (peers : List Name) (id : MsgId) (round : ℕ) (queued : List (Name × MsgId × ℕ)) →
    length (with_entries peers id round queued) ≤ length queued + length peers
queued_more peers id round queued =
    let both : length (with_entries peers id round queued)
    ≡ length queued + length (map {B = Name × MsgId × ℕ} (λ peer. (peer, id, round)) (filter (λ peer. not (is_queued peer id queued)) peers)) =
    length-append queued (map {B = Name × MsgId × ℕ} (λ peer. (peer, id, round)) (filter (λ peer. not (is_queued peer id queued)) peers)) in
    let same : length (map {B = Name × MsgId × ℕ} (λ peer. (peer, id, round)) (filter (λ peer. not (is_queued peer id queued)) peers))
    ≡ length (filter (λ peer. not (is_queued peer id queued)) peers) =
    length-map (filter (λ peer. not (is_queued peer id queued)) peers) (λ (peer : Name). (peer, id, round)) in
    let less : length (filter (λ peer. not (is_queued peer id queued)) peers) ≤ length peers = filtered (λ peer. not (is_queued peer id queued)) peers in
    let all : length (with_entries peers id round queued) ≤ length queued + length peers = omega arith in
    all

-- one more entry at most for each announcement
want_more : (id : MsgId) (peer : Name) (round : ℕ) (wants : List (MsgId × Name × ℕ)) → length (with_want id peer round wants) ≤ length wants + 1
want_more id peer round wants = go (is_wanted id peer wants)
  where
    go : (b : Bool) → length (cond b wants (wants ++ (id, peer, round) ∷ [])) ≤ length wants + 1
    go true = omega arith
    go false = let both : length (wants ++ (id, peer, round) ∷ []) ≡ length wants + 1 = length-append wants ((id, peer, round) ∷ []) in omega arith

pub wants_more : (peer : Name) (entries : List (MsgId × ℕ)) (wants : List (MsgId × Name × ℕ)) →
    length (with_wants peer entries wants) ≤ length wants + length entries
wants_more peer [] wants = omega arith
wants_more peer (entry ∷ entries) wants =
    let one : length (with_want entry.0 peer entry.1 wants) ≤ length wants + 1 = want_more entry.0 peer entry.1 wants in
    let rest : length (with_wants peer entries (with_want entry.0 peer entry.1 wants)) ≤ length (with_want entry.0 peer entry.1 wants) + length entries =
    wants_more peer entries (with_want entry.0 peer entry.1 wants) in
    omega arith

-- and one timer
timer_more : (id : MsgId) (timers : List MsgId) → length (with_timer id timers) ≤ length timers + 1
timer_more id timers = go (has_id timers id)
  where
    go : (b : Bool) → length (cond b timers (timers ++ id ∷ [])) ≤ length timers + 1
    go true = omega arith
    go false = let both : length (timers ++ id ∷ []) ≡ length timers + 1 = length-append timers (id ∷ []) in omega arith

pub timers_more : (entries : List (MsgId × ℕ)) (timers : List MsgId) → length (with_timers entries timers) ≤ length timers + length entries
timers_more [] timers = omega arith
timers_more (entry ∷ entries) timers =
    let one : length (with_timer entry.0 timers) ≤ length timers + 1 = timer_more entry.0 timers in
    let rest : length (with_timers entries (with_timer entry.0 timers)) ≤ length (with_timer entry.0 timers) + length entries =
    timers_more entries (with_timer entry.0 timers) in
    omega arith

-- what is taken first is one entry
pub took_first : (id : MsgId) (wants : List (MsgId × Name × ℕ)) (first : Name × ℕ) →
    first_want id wants ≡ Some first →
    length wants ≡ suc (length (without_first id wants))
took_first id [] first is = let no : None ≡ Some first = is in cc
took_first id (entry ∷ wants) first is = go (same_id id entry.0) is (took_first id wants first)
  where
    go : (b : Bool) →
        cond b (Some (entry.1, entry.2)) (first_want id wants) ≡ Some first →
        (first_want id wants ≡ Some first → length wants ≡ suc (length (without_first id wants))) →
        length (entry ∷ wants) ≡ suc (length (cond b wants (entry ∷ without_first id wants)))
    go true at later = refl
    go false at later = ap suc (later at)

-- or none
pub took_none : (id : MsgId) (wants : List (MsgId × Name × ℕ)) → first_want id wants ≡ None → without_first id wants ≡ wants
took_none id [] is = refl
took_none id (entry ∷ wants) is = go (same_id id entry.0) is (took_none id wants)
  where
    go : (b : Bool) →
        cond b (Some (entry.1, entry.2)) (first_want id wants) ≡ None →
        (first_want id wants ≡ None → without_first id wants ≡ wants) →
        cond b wants (entry ∷ without_first id wants) ≡ entry ∷ wants
    go true at later = let pair : Name × ℕ = (entry.1, entry.2) in let no : Some pair ≡ None = at in cc
    go false at later = ap (λ ws. entry ∷ ws) (later at)

-- a timer that goes makes the list shorter
pub timer_gone : (id : MsgId) (timers : List MsgId) → has_id timers id ≡ true → suc (length (without_timer id timers)) ≤ length timers
timer_gone id [] armed = absurd (false≢true armed)
timer_gone id (timer ∷ timers) armed = go (same_id id timer) armed (timer_gone id timers) (filtered (λ other. not (same_id id other)) timers)
  where
    go : (b : Bool) →
        (b || has_id timers id) ≡ true →
        (has_id timers id ≡ true → suc (length (without_timer id timers)) ≤ length timers) →
        length (without_timer id timers) ≤ length timers →
        suc (length (cond (not b) (timer ∷ without_timer id timers) (without_timer id timers))) ≤ length (timer ∷ timers)
    go true at later less = omega arith
    go false at later less = let gone : suc (length (without_timer id timers)) ≤ length timers = later at in omega arith

-- a change of kind leaves as many members
pub as_many_members : (name : Name) (kind : PeerKind) (members : List (Name × PeerKind)) → length (with_kind name kind members) ≡ length members
as_many_members name kind members = length-map members (λ (m : Name × PeerKind). cond (same_name name m.0) (m.0, kind) m)
