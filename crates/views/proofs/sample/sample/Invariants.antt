use Rattle.std.proofs.Common.{◌≡◌, ◌++◌, drop}
use Rattle.views.specs.Names.{sample}
use Rattle.views.proofs.sample.sample.Given as goal

-- those drawn so far, with those that the words left draw, are the sample
abbrev pub invariant-loop-word : goal.invariant-loop-word
invariant-loop-word g l = l.drawn.items ++ sample (drop l.word-index l.words) l.candidates.items ≡ sample l.fn.words l.fn.candidates.items
