use Rattle.std.proofs.Common.{◌≡◌, ◌≤◌, ◌+◌, ◌++◌, filter, length, take, vec_len}
use Rattle.std.specs.Prelude.{vec_capacity}
use Rattle.node_names.specs.Same.{has_name}
use Rattle.node_threads.specs.Cell.{peers_of}
use Rattle.node_threads.proofs.cell.posting.names_in_order.Given as goal

-- the names so far, and room for those of the links that are left
abbrev pub invariant-loop-link : goal.invariant-loop-link
invariant-loop-link g l =
    (l.full.items ≡ l.fn.full.items ++ filter (has_name l.blocked) (peers_of (take l.link-index l.links))) ×
    (vec_len l.full + length l.links ≤ vec_capacity l.full + l.link-index)
