-- The fields of a body that are no fields of frames.
use Rattle.std.specs.Prelude.{ℕ, ◌<◌, ◌^◌, List, ◌++◌}
use Rattle.std.specs.List.{flat_map}
use Rattle.std.specs.Int.{w64, to_be_bytes}
use Rattle.node_names.specs.declared.dice.Dice.{Dice}
use Rattle.node_names.specs.declared.ids.MsgId.{MsgId}
use Rattle.frames.specs.Field.{origin_octets, IsOrigin}

-- a number of 64 bits, most significant byte first
abbrev pub number_text : ℕ → List ℕ
number_text = to_be_bytes w64

-- The number has 64 bits.
abbrev pub IsShort : ℕ → Type 0
IsShort n = n < 2 ^ 64

-- an origin, and the number of one of its messages
abbrev pub id_text : MsgId → List ℕ
id_text id = origin_octets id.origin ++ number_text id.seq

-- The origin is one, and the number has 64 bits.
pub record IsId (id : MsgId) : Type 0 where
  pub origin : IsOrigin id.origin
  pub seq : IsShort id.seq

-- the words of dice
abbrev pub dice_text : Dice → List ℕ
dice_text dice = flat_map number_text dice.0
