-- The announcements that wait to be sent, each with its receiver, message id and round.
use Rattle.std.specs.Prelude.{◌&&◌, ℕ, zero, suc, Bool, not, List, [], ◌∷◌, ◌++◌, map, filter, if◌then◌else◌}
use Rattle.std.specs.List.{list_any}
use Rattle.node_names.specs.NodeName.{Name}
use Rattle.node_names.specs.Same.{same_name, same_id}
use Rattle.node_names.specs.declared.ids.MsgId.{MsgId}

-- the place of an entry: its receiver and its id
abbrev pub place_of : Name × MsgId × ℕ → Name × MsgId
place_of entry = (entry.0, entry.1)

-- whether two places are the same
abbrev pub same_place : Name × MsgId → Name × MsgId → Bool
same_place a b = same_name a.0 b.0 && same_id a.1 b.1

-- whether an entry of the id waits for the peer
abbrev pub is_queued : Name → MsgId → List (Name × MsgId × ℕ) → Bool
is_queued peer id queued = list_any (same_place (peer, id)) (map place_of queued)

-- whether an entry of the id waits for any peer
abbrev pub has_entry_of : MsgId → List (Name × MsgId × ℕ) → Bool
has_entry_of id queued = list_any (λ entry. same_id id entry.1) queued

-- the queue with this entry added last, unless it has an entry for the peer and the id
abbrev pub with_entry : Name → MsgId → ℕ → List (Name × MsgId × ℕ) → List (Name × MsgId × ℕ)
with_entry peer id round queued = if is_queued peer id queued then queued else queued ++ (peer, id, round) ∷ []

-- the queue with an entry of the id added for each of these peers that has none, in their order
abbrev pub with_entries : List Name → MsgId → ℕ → List (Name × MsgId × ℕ) → List (Name × MsgId × ℕ)
with_entries peers id round queued = queued ++ map (λ peer. (peer, id, round)) (filter (λ peer. not (is_queued peer id queued)) peers)

-- the queue without the entries for this peer
abbrev pub without_entries : Name → List (Name × MsgId × ℕ) → List (Name × MsgId × ℕ)
without_entries peer queued = filter (λ entry. not (same_name peer entry.0)) queued

-- the queue without the entries for these peers, removed in turn
abbrev pub without_all_entries : List Name → List (Name × MsgId × ℕ) → List (Name × MsgId × ℕ)
without_all_entries [] queued = queued
without_all_entries (peer ∷ peers) queued = without_all_entries peers (without_entries peer queued)

-- the ids and rounds that wait for the peer, in queue order
abbrev pub waiting_for : Name → List (Name × MsgId × ℕ) → List (MsgId × ℕ)
waiting_for peer queued = map (λ entry. (entry.1, entry.2)) (filter (λ entry. same_name peer entry.0) queued)

-- the peers that an entry waits for, each once, in the order of their first entries
abbrev pub receivers : List (Name × MsgId × ℕ) → List Name
receivers [] = []
receivers (entry ∷ queued) = entry.0 ∷ filter (λ peer. not (same_name entry.0 peer)) (receivers queued)

-- the queue in batches, one for each receiver
abbrev pub batches : List (Name × MsgId × ℕ) → List (Name × List (MsgId × ℕ))
batches queued = map (λ peer. (peer, waiting_for peer queued)) (receivers queued)

-- the batches, with the entry added last to the one at the place
abbrev pub with_more : ℕ → MsgId × ℕ → List (Name × List (MsgId × ℕ)) → List (Name × List (MsgId × ℕ))
with_more place entry [] = []
with_more zero entry (batch ∷ batches) = (batch.0, batch.1 ++ entry ∷ []) ∷ batches
with_more (suc place) entry (batch ∷ batches) = batch ∷ with_more place entry batches

-- the batches, with an empty one added last if the receiver has none
abbrev pub with_empty : Name → List (Name × List (MsgId × ℕ)) → List (Name × List (MsgId × ℕ))
with_empty peer batches = if list_any (same_name peer) (map (λ batch. batch.0) batches) then batches else batches ++ (peer, []) ∷ []

-- the batches, with the entry added last to that of its receiver; a new receiver's batch goes last
abbrev pub with_batch : Name × MsgId × ℕ → List (Name × List (MsgId × ℕ)) → List (Name × List (MsgId × ℕ))
with_batch entry [] = (entry.0, (entry.1, entry.2) ∷ []) ∷ []
with_batch entry (batch ∷ batches) =
    if same_name entry.0 batch.0 then (batch.0, batch.1 ++ (entry.1, entry.2) ∷ []) ∷ batches else batch ∷ with_batch entry batches
