-- What words of the dice choose in lists of distinct names, which are in the order in which they were added.
use Rattle.std.specs.Prelude.{ℕ, Bool, not, List, [], ◌∷◌, ◌++◌, Option, None, if◌then◌else◌, nat_lt, length, filter, remove, slice_get, slice_index, ◌%◌}
use Rattle.std.specs.Option.{option_to_list}
use Rattle.std.specs.Set.{remove_key}
use Rattle.node_names.specs.NodeName.{Name}
use Rattle.node_names.specs.Same.{same_name, has_name}
use Rattle.node_names.specs.declared.dice.Dice.{Dice}

-- the word of the dice at the index
abbrev pub word : Dice → ℕ → ℕ
word dice k = slice_index dice.0 k

-- the candidate that a word chooses: the one whose index is the word modulo the number of candidates
abbrev pub chosen : ℕ → List Name → Option Name
chosen w names = slice_get names (w % length names)

-- the names without the one that the word chooses
abbrev pub without_chosen : ℕ → List Name → List Name
without_chosen w names = remove names (w % length names)

-- the names without this one
abbrev pub without : Name → List Name → List Name
without name names = remove_key (same_name name) names

-- the names that are not among those excepted
abbrev pub others : List Name → List Name → List Name
others excepted names = filter (λ name. not (has_name excepted name)) names

-- the name that leaves a view with this number of places before another is added: if it is full, the one that the word
-- chooses
abbrev pub evicted : ℕ → ℕ → List Name → Option Name
evicted places w names = if nat_lt (length names) places then None else chosen w names

-- the names that stay then
abbrev pub with_room : ℕ → ℕ → List Name → List Name
with_room places w names = if nat_lt (length names) places then names else without_chosen w names

-- a sample without replacement: each word in turn draws the candidate that it chooses, which then is removed
abbrev pub sample : List ℕ → List Name → List Name
sample [] candidates = []
sample (w ∷ ws) candidates = option_to_list (chosen w candidates) ++ sample ws (without_chosen w candidates)
