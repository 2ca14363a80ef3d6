-- How the state of a node is printed, in seven parts.
use Rattle.std.specs.Prelude.{ℕ, Bool, not, List, [], ◌∷◌, ◌++◌, Option, Some, None, codes, bytes_eq, if◌then◌else◌}
use Rattle.node_names.specs.NodeName.{Name}
use Rattle.node_names.specs.declared.ids.MsgId.{MsgId}
use Rattle.peer_sets.specs.Members.{is_eager_kind}
use Rattle.peer_sets.specs.declared.members.PeerKind.{PeerKind}
use Rattle.peer_sets.specs.declared.members.PeerKind.TheVariants.{Eager, Lazy}
use Rattle.node_core.specs.Plum.{Plum, plum_state}
use Rattle.trace_text.specs.Names.{id_items, name_item, name_items, or_dash}
use Rattle.trace_text.specs.Packets.{announcement_text}

-- The texts of the seven parts: the active and the passive view, the eager and the lazy peers, the announcements that
-- wait to be sent, the received announcements of messages that the node lacks, and the ids whose timers are armed.
pub record Parts : Type 0 where
  pub active : List ℕ
  pub passive : List ℕ
  pub eager : List ℕ
  pub lazy : List ℕ
  pub queue : List ℕ
  pub wants : List ℕ
  pub timers : List ℕ

-- whether a peer is of the kind
abbrev pub is_of : PeerKind → PeerKind → Bool
is_of Eager kind = is_eager_kind kind
is_of Lazy kind = not (is_eager_kind kind)

-- a member after a space, if it is of the kind
abbrev pub member_item : PeerKind → Name × PeerKind → List ℕ
member_item kind member = if is_of kind member.1 then name_item member.0 else []

-- the members of the kind, in their order
abbrev pub member_items : PeerKind → List (Name × PeerKind) → List ℕ
member_items kind [] = []
member_items kind (member ∷ members) = member_item kind member ++ member_items kind members

-- an announcement that waits to be sent, with its receiver
abbrev pub queue_item : Name × MsgId × ℕ → List ℕ
queue_item entry = codes " " ++ (announcement_text entry.1 entry.2 ++ (codes "->" ++ entry.0))

-- the announcements that wait to be sent, in their order
abbrev pub queue_items : List (Name × MsgId × ℕ) → List ℕ
queue_items [] = []
queue_items (entry ∷ entries) = queue_item entry ++ queue_items entries

-- an announcement of a message that the node lacks, with its sender
abbrev pub want_item : MsgId × Name × ℕ → List ℕ
want_item entry = codes " " ++ (announcement_text entry.0 entry.2 ++ (codes "<-" ++ entry.1))

-- those announcements, in their order
abbrev pub want_items : List (MsgId × Name × ℕ) → List ℕ
want_items [] = []
want_items (entry ∷ entries) = want_item entry ++ want_items entries

-- the parts of a node with these views, peers, announcements and timers
abbrev pub parts_from : List Name → List Name → List (Name × PeerKind) → List (Name × MsgId × ℕ) → List (MsgId × Name × ℕ) → List MsgId → Parts
parts_from active passive members queued wants timers =
    record {
      active = codes " | active:" ++ or_dash (name_items active);
      passive = codes " | passive:" ++ or_dash (name_items passive);
      eager = codes " | eager:" ++ or_dash (member_items Eager members);
      lazy = codes " | lazy:" ++ or_dash (member_items Lazy members);
      queue = codes " | queue:" ++ or_dash (queue_items queued);
      wants = codes " | wants:" ++ or_dash (want_items wants);
      timers = codes " | timers:" ++ or_dash (id_items timers);
    }

-- the parts of a running node
abbrev pub parts_of : Plum → Parts
parts_of core =
    parts_from (plum_state core).active (plum_state core).passive core.gossip.peers.members
    (plum_state core).queued (plum_state core).wants (plum_state core).timers

-- the parts of a node; the lists are empty if it does not run
abbrev pub parts_in : Option Plum → Parts
parts_in None = parts_from [] [] [] [] [] []
parts_in (Some core) = parts_of core

-- all parts
abbrev pub parts_text : Parts → List ℕ
parts_text parts = parts.active ++ (parts.passive ++ (parts.eager ++ (parts.lazy ++ (parts.queue ++ (parts.wants ++ parts.timers)))))

-- the new text of a part, if it differs from the old one
abbrev pub changed : List ℕ → List ℕ → List ℕ
changed old new = if bytes_eq old new then [] else new

-- the parts whose texts have changed
abbrev pub changes_text : Parts → Parts → List ℕ
changes_text old new =
    changed old.active new.active ++ (changed old.passive new.passive ++ (changed old.eager new.eager
    ++ (changed old.lazy new.lazy ++ (changed old.queue new.queue ++ (changed old.wants new.wants ++ changed old.timers new.timers)))))
