-- The announcements of messages that a node lacks, each with its message id, announcing peer and round.
use Rattle.std.specs.Prelude.{◌&&◌, ℕ, Bool, not, List, [], ◌∷◌, ◌++◌, Option, None, Some, filter, if◌then◌else◌}
use Rattle.std.specs.List.{list_any}
use Rattle.node_names.specs.NodeName.{Name}
use Rattle.node_names.specs.Same.{same_name, same_id}
use Rattle.node_names.specs.declared.ids.MsgId.{MsgId}

-- the place of an entry: its id and the peer that announced it
abbrev pub place_of : MsgId × Name × ℕ → MsgId × Name
place_of entry = (entry.0, entry.1)

-- whether two places are the same
abbrev pub same_place : MsgId × Name → MsgId × Name → Bool
same_place a b = same_id a.0 b.0 && same_name a.1 b.1

-- whether the peer has announced the id
abbrev pub is_wanted : MsgId → Name → List (MsgId × Name × ℕ) → Bool
is_wanted id peer wants = list_any (λ entry. same_place (id, peer) (place_of entry)) wants

-- the entries with this one added last, unless there is one for the id and the peer
abbrev pub with_want : MsgId → Name → ℕ → List (MsgId × Name × ℕ) → List (MsgId × Name × ℕ)
with_want id peer round wants = if is_wanted id peer wants then wants else wants ++ (id, peer, round) ∷ []

-- the entries with the announcements by the peer added in turn
abbrev pub with_wants : Name → List (MsgId × ℕ) → List (MsgId × Name × ℕ) → List (MsgId × Name × ℕ)
with_wants peer [] wants = wants
with_wants peer (announced ∷ more) wants = with_wants peer more (with_want announced.0 peer announced.1 wants)

-- the entries with that of the slot added last, where there is one and unless there is one for its id and peer
abbrev pub with_slot : Option (MsgId × Name × ℕ) → List (MsgId × Name × ℕ) → List (MsgId × Name × ℕ)
with_slot None wants = wants
with_slot (Some entry) wants = with_want entry.0 entry.1 entry.2 wants

-- the peer and the round of the first entry of the id
abbrev pub first_want : MsgId → List (MsgId × Name × ℕ) → Option (Name × ℕ)
first_want id [] = None
first_want id (entry ∷ wants) = if same_id id entry.0 then Some (entry.1, entry.2) else first_want id wants

-- the entries without the first of the id
abbrev pub without_first : MsgId → List (MsgId × Name × ℕ) → List (MsgId × Name × ℕ)
without_first id [] = []
without_first id (entry ∷ wants) = if same_id id entry.0 then wants else entry ∷ without_first id wants

-- the entries without those of the id
abbrev pub without_id : MsgId → List (MsgId × Name × ℕ) → List (MsgId × Name × ℕ)
without_id id wants = filter (λ entry. not (same_id id entry.0)) wants

-- the entries without that of the id by the peer
abbrev pub without_place : MsgId × Name → List (MsgId × Name × ℕ) → List (MsgId × Name × ℕ)
without_place place wants = filter (λ entry. not (same_place place (place_of entry))) wants

-- the entries without that of the id by the peer, where there is an id
abbrev pub without_slot : Option MsgId → Name → List (MsgId × Name × ℕ) → List (MsgId × Name × ℕ)
without_slot None peer wants = wants
without_slot (Some id) peer wants = without_place (id, peer) wants

-- the entries without those of the peer
abbrev pub without_peer : Name → List (MsgId × Name × ℕ) → List (MsgId × Name × ℕ)
without_peer peer wants = filter (λ entry. not (same_name peer entry.1)) wants

-- the entries without those of these peers, removed in turn
abbrev pub without_peers : List Name → List (MsgId × Name × ℕ) → List (MsgId × Name × ℕ)
without_peers [] wants = wants
without_peers (peer ∷ peers) wants = without_peers peers (without_peer peer wants)
