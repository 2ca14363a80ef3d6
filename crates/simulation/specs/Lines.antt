-- How deliveries are printed.
use Rattle.std.specs.Prelude.{ℕ, ◌+◌, ◌/◌, ◌%◌, nat_lt, if◌then◌else◌, List, [], ◌∷◌, ◌++◌, length, codes}
use Rattle.std.specs.Fmt.{decimal}
use Rattle.std.specs.Ordering.{nat_cmp, ordering_then}
use Rattle.std.specs.Cmp.Lexicographic.{slice_cmp}
use Rattle.std.specs.declared.cmp.Ordering.{Ordering}
use Rattle.node_names.specs.Ids.{origin_text, msg_id_text}
use Rattle.node_names.specs.declared.ids.Origin.{Origin}
use Rattle.node_names.specs.declared.ids.MsgId.{MsgId}
use Rattle.protocol.specs.Delivery.{Delivery}

-- a digit from 0 to 15, as `0` to `9` and `a` to `f`
abbrev pub hex_digit : ℕ → ℕ
hex_digit n = if nat_lt n 10 then 48 + n else (87 + n)

-- two digits for each byte, the high one first
abbrev pub hexadecimal : List ℕ → List ℕ
hexadecimal [] = []
hexadecimal (b ∷ bs) = hex_digit (b / 16) ∷ (hex_digit (b % 16) ∷ hexadecimal bs)

-- the digits of a payload, or a dash if it is empty
abbrev pub payload_text : List ℕ → List ℕ
payload_text [] = codes "-"
payload_text (b ∷ bs) = hexadecimal (b ∷ bs)

-- the line of a delivery: the run that delivered, the message's id, and the length and the bytes of its payload
abbrev pub line_of : Delivery → List ℕ
line_of d =
    codes "deliver " ++ origin_text d.node ++ codes " " ++ msg_id_text d.id ++ codes " "
    ++ decimal (length d.payload) ++ codes " " ++ payload_text d.payload ++ codes "\n"

-- the lines of deliveries, in their order
abbrev pub lines_of : List Delivery → List ℕ
lines_of [] = []
lines_of (d ∷ ds) = line_of d ++ lines_of ds

-- the order of origins: by name, then by incarnation
abbrev pub origin_cmp : Origin → Origin → Ordering
origin_cmp a b = ordering_then (slice_cmp nat_cmp a.name b.name) (nat_cmp a.incarnation.0 b.incarnation.0)

-- the order of ids: by origin, then by number
abbrev pub msg_id_cmp : MsgId → MsgId → Ordering
msg_id_cmp a b = ordering_then (origin_cmp a.origin b.origin) (nat_cmp a.seq b.seq)

-- the order of lines: by the node that delivered, then by the message
abbrev pub line_cmp : Delivery → Delivery → Ordering
line_cmp a b = ordering_then (origin_cmp a.node b.node) (msg_id_cmp a.id b.id)
