-- The dice that the frames of one call get: the caller's own, and then each word put through SplitMix64.
use Rattle.std.specs.Prelude.{ℕ, zero, suc, ◌+◌, ◌*◌, ◌/◌, ◌%◌, ◌^◌, bit_xor, map}
use Rattle.node_names.specs.declared.dice.Dice.{Dice}
use Rattle.wire_node.specs.Receiving.{Draws}

-- the word with its high bits folded down by so many places, times the factor
abbrev pub folded : ℕ → ℕ → ℕ → ℕ
folded word places factor = bit_xor word (word / 2 ^ places) * factor % 2 ^ 64

-- the word after this one, by SplitMix64
abbrev pub mixed : ℕ → ℕ
mixed word =
    let last = folded (folded ((word + 0x9e3779b97f4a7c15) % 2 ^ 64) 30 0xbf58476d1ce4e5b9) 27 0x94d049bb133111eb in bit_xor last (last / 2 ^ 31)

-- the dice after these
abbrev pub next_dice : Dice → Dice
next_dice dice = record { 0 = map mixed dice.0 }

-- the dice of the first frame, those of the second, and so on
abbrev pub stirred : Dice → Draws
stirred dice zero = dice
stirred dice (suc place) = stirred (next_dice dice) place
