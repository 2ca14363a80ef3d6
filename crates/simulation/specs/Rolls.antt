-- The source of the dice of a run.
use Rattle.std.specs.Prelude.{ℕ, Option, Some, None, replicate}
use Rattle.rand_core.specs.Pcg32Seed.{pcg32_seed}
use Rattle.rand_core.specs.Steps.{steps_u64_low, stream_of}
use Rattle.rand_core.specs.Stream.{Stream}
use Rattle.rand_pcg.specs.Lcg.{Lcg}
use Rattle.rand_pcg.specs.Pcg.{pcg64, pcg64_of_seed}
use Rattle.node_names.specs.Draws.{after_words, words}
use Rattle.node_names.specs.declared.dice.Dice.{Dice}

-- the stream of numbers that a generator will produce
abbrev pub answers : Lcg → Stream
answers generator = stream_of (steps_u64_low pcg64) generator

-- the stream of numbers of a generator, if there is one
abbrev pub rolls_in : Option Lcg → Option Stream
rolls_in None = None
rolls_in (Some generator) = Some (answers generator)

-- the stream of numbers of a generator with this seed, or nothing if there is no seed
abbrev pub rolls_of : Option ℕ → Option Stream
rolls_of None = None
rolls_of (Some seed) = Some (answers (pcg64_of_seed (pcg32_seed 32 seed)))

-- the next dice, all zero if there is no stream
abbrev pub rolled : Option Stream → Dice
rolled None = record { 0 = replicate 16 0 }
rolled (Some stream) = record { 0 = words 16 stream }

-- the stream after these dice
abbrev pub after_roll : Option Stream → Option Stream
after_roll None = None
after_roll (Some stream) = Some (after_words 16 stream)
