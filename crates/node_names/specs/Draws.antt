-- Several words drawn from a generator.
use Rattle.std.specs.Prelude.{ℕ, zero, suc, List, [], ◌∷◌}
use Rattle.rand_core.specs.Stream.{Stream, next_u64}

-- its next n words of 64 bits, in order
abbrev pub words : ℕ → Stream → List ℕ
words zero stream = []
words (suc n) stream = (next_u64 stream).0 ∷ words n (next_u64 stream).1

-- the generator's stream after n words of 64 bits
abbrev pub after_words : ℕ → Stream → Stream
after_words zero stream = stream
after_words (suc n) stream = after_words n (next_u64 stream).1
