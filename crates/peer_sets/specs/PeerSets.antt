-- The view that contracts have of a node's peer sets.
use Rattle.std.specs.Prelude.{◌≡◌, ℕ, true, List, map}
use Rattle.std.specs.List.{AllByRecursion as Each, IsDistinct}
use Rattle.node_names.specs.NodeName.{Name}
use Rattle.node_names.specs.Same.{same_name}
use Rattle.node_names.specs.declared.ids.MsgId.{MsgId}
use Rattle.peer_sets.specs.Members.{names, is_member, with_members, without_members}
use Rattle.peer_sets.specs.Queue.{same_place, place_of, without_all_entries}
use Rattle.peer_sets.specs.declared.members.PeerKind.{PeerKind}

-- The members in order, each eager or lazy, and the announcements that wait for them, oldest first.
pub record PeerSets : Type 0 where
  pub members : List (Name × PeerKind)
  pub queued : List (Name × MsgId × ℕ)

-- What always holds: no member is there twice, announcements wait for members only, and at most one waits for each
-- member and id.
pub record IsSound (peers : PeerSets) : Type 0 where
  pub distinct : IsDistinct same_name (names peers.members)
  pub for_members : Each (λ entry. is_member peers.members entry.0 ≡ true) peers.queued
  pub once : IsDistinct same_place (map place_of peers.queued)

-- after the members `downs` went down and then the members `ups` came up
abbrev pub relinked : List Name → List Name → PeerSets → PeerSets
relinked downs ups peers =
    record {
      members = with_members ups (without_members downs peers.members);
      queued = without_all_entries downs peers.queued;
    }
