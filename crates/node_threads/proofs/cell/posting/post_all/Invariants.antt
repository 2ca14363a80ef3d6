use Rattle.std.proofs.Common.{◌≡◌, ◌≤◌, ◌+◌, ◌++◌, length, vec_len}
use Rattle.std.specs.Prelude.{vec_capacity}
use Rattle.node_threads.specs.Cell.{peers_of}
use Rattle.node_threads.specs.Letters.{Posted}
use Rattle.node_threads.proofs.cell.posting.post_all.Given as goal

-- what came of the letters so far, and room for the names that may be blocked yet
abbrev pub invariant-loop-letter : goal.invariant-loop-letter
invariant-loop-letter g l =
    (goal.iterator-loop-letter g).can_next l.letter-iterator ×
    (goal.iterator-loop-letter g).is_finite l.letter-iterator ×
    (l.yielded ++ l.letter-iterator.rest.items ≡ l.fn.letters.items) ×
    (vec_len l.blocked + length l.letter-iterator.rest.items ≤ vec_capacity l.blocked) ×
    (peers_of l.links ≡ peers_of l.fn.links) ×
    Posted l.blocked.items l.yielded l.fn.links l.links
