use Rattle.std.proofs.Common.{◌≡◌, map, take}
use Rattle.node_options.specs.Told.{Word}
use Rattle.node_options.specs.Given.{all_said}
use Rattle.node_options.proofs.settings.Settings.of_words.Given as goal

-- the words so far
abbrev pub invariant-loop-word : goal.invariant-loop-word
invariant-loop-word l = all_said l.all.items ≡ map Word (map (λ word. word.now) (take l.word-index l.words))
