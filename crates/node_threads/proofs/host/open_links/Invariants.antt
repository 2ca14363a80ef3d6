use Rattle.std.proofs.Common.{◌≡◌, [], None, map, take}
use Rattle.node_threads.specs.Outlet.{fresh_outlet}
use Rattle.node_threads.proofs.host.open_links.Given as goal

-- no step is made, and the names so far have outlets
abbrev pub invariant-loop-name : goal.invariant-loop-name
invariant-loop-name g l = (l.cell.since ≡ None) × (l.cell.trace.steps ≡ []) × (l.outlets.items ≡ map fresh_outlet (take l.name-index l.names))
