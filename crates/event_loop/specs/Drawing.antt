-- The dice that a generator gives.
use Rattle.std.specs.Prelude.{ℕ, zero, suc}
use Rattle.rand_core.specs.Stream.{Stream}
use Rattle.node_names.specs.Draws.{after_words, words}
use Rattle.node_names.specs.declared.dice.Dice.{Dice}
use Rattle.wire_node.specs.Receiving.{Draws}

-- its next sixteen words, the sixteen after them, and so on
abbrev pub drawn : Stream → Draws
drawn stream zero = record { 0 = words 16 stream }
drawn stream (suc place) = drawn (after_words 16 stream) place
