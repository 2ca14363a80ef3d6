-- How the packets of a run are counted.
use Rattle.std.specs.Prelude.{◌≡◌, ◌/◌, ◌%◌, ℕ, zero, suc, Bool, List, [], ◌∷◌, ◌++◌, codes, count_by, nat_eq, sum_by, unwrap_or}
use Rattle.std.specs.Fmt.{decimal}
use Rattle.std.specs.Map.{lookup}
use Rattle.node_names.specs.Ids.{msg_id_text}
use Rattle.node_names.specs.Same.{same_id}
use Rattle.node_names.specs.declared.ids.MsgId.{MsgId}
use Rattle.protocol.specs.SpreadLaw.{is_carried}
use Rattle.world.specs.Group.{Logged}
use Rattle.world.specs.declared.packet.Packet.{Packet}
use Rattle.frames.specs.Content.{frame_content}
use Rattle.frames.specs.Frame.{Frame}
use Rattle.frames.specs.Kind.{kind_of, number_of}
use Rattle.node_core.specs.Plum.{Plum}

-- whether the kind of a frame has this number
unfoldable pub is_kind : ℕ → Frame → Bool
is_kind kind frame = nat_eq (number_of (kind_of frame.body)) kind

-- how many packets are of the kind with this number
abbrev pub kind_count : ℕ → List (Packet Frame) → ℕ
kind_count kind sent = count_by (λ p. is_kind kind p.note) sent

-- a kind's word and count, if there are any packets of it
abbrev pub count_item : List ℕ → ℕ → List ℕ
count_item word zero = []
count_item word (suc n) = codes " " ++ (word ++ (codes " " ++ decimal (suc n)))

-- the packets of HyParView's kinds
abbrev pub membership_items : List (Packet Frame) → List ℕ
membership_items sent =
    count_item (codes "JOIN") (kind_count 1 sent)
    ++ (count_item (codes "FORWARDJOIN") (kind_count 2 sent)
    ++ (count_item (codes "NEIGHBOR") (kind_count 3 sent)
    ++ (count_item (codes "NEIGHBORREPLY") (kind_count 4 sent)
    ++ (count_item (codes "DISCONNECT") (kind_count 5 sent)
    ++ (count_item (codes "SHUFFLE") (kind_count 6 sent)
    ++ count_item (codes "SHUFFLEREPLY") (kind_count 7 sent))))))

-- the packets of Plumtree's kinds
abbrev pub gossip_items : List (Packet Frame) → List ℕ
gossip_items sent =
    count_item (codes "GOSSIP") (kind_count 8 sent)
    ++ (count_item (codes "IHAVE") (kind_count 9 sent)
    ++ (count_item (codes "GRAFT") (kind_count 10 sent)
    ++ (count_item (codes "PRUNE") (kind_count 11 sent)
    ++ count_item (codes "GRAFT_PEER") (kind_count 12 sent))))

-- the line of how many packets of each kind were sent
abbrev pub kinds_line : List (Packet Frame) → List ℕ
kinds_line sent = codes "packets" ++ (membership_items sent ++ (gossip_items sent ++ codes "\n"))

-- how many packets carry the message
abbrev pub copies_of : MsgId → List (Packet Frame) → ℕ
copies_of id sent = count_by (λ p. is_carried id (frame_content p.note).carried) sent

-- how many announcements are of the message
abbrev pub announcements_in : MsgId → List (MsgId × ℕ) → ℕ
announcements_in id entries = count_by (λ entry. same_id id entry.0) entries

-- how many announcements of the message the packets have
abbrev pub announcements_of : MsgId → List (Packet Frame) → ℕ
announcements_of id sent = sum_by (λ p. announcements_in id (frame_content p.note).announced) sent

-- the count that is listed for the message, or 0 if it has none
abbrev pub count_at : MsgId → List (MsgId × ℕ) → ℕ
count_at id counts = unwrap_or (lookup (same_id id) counts) 0

-- how often a message was carried and announced
abbrev pub spread_line : MsgId → ℕ → ℕ → List ℕ
spread_line id copies announcements =
    codes "  " ++ (msg_id_text id ++ (codes " copies " ++ (decimal copies ++ (codes " announcements " ++ decimal announcements))))

-- how a message spread, except for its tree
abbrev pub spread_text : MsgId → List (Packet Frame) → List ℕ
spread_text id sent = spread_line id (copies_of id sent) (announcements_of id sent)

-- the depth of a tree: the greatest one, and the mean in hundredths
abbrev pub depth_text : ℕ → ℕ → List ℕ
depth_text greatest mean =
    codes " depth "
    ++ (decimal greatest ++ (codes " mean " ++ (decimal (mean / 100) ++ (codes "." ++ (decimal (mean / 10 % 10) ++ (decimal (mean % 10) ++ codes "\n"))))))

module _ (sent : List (Packet Frame)) where
  -- The text says how a message spread, and gives some depth.
  pub record TellsSpread (id : MsgId) (text : List ℕ) : Type 0 where
    pub greatest : ℕ
    pub mean : ℕ
    pub written : text ≡ spread_text id sent ++ depth_text greatest mean

  -- The text says this of the messages, one after the other.
  abbrev pub TellsSpreads : List MsgId → List ℕ → Type 0
  TellsSpreads [] text = text ≡ []
  TellsSpreads (id ∷ ids) text = (first : List ℕ) × (rest : List ℕ) × TellsSpread id first × TellsSpreads ids rest × (text ≡ first ++ rest)

-- The text says how many packets of each kind were sent in a group, and how each of these messages spread.
pub record TellsSummary (group : Logged Plum Frame) (ids : List MsgId) (text : List ℕ) : Type 0 where
  pub spreads : List ℕ
  pub told : TellsSpreads group.group.sent ids spreads
  pub written : text ≡ kinds_line group.group.sent ++ spreads
