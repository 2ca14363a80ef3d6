use Rattle.std.proofs.Common.{map, take}
use Rattle.wire_node.specs.Moving.{MovesAll, firing}
use Rattle.wire_node.proofs.asking.fire_each.Given as goal

-- the timers so far have fired
abbrev pub invariant-loop-id : goal.invariant-loop-id
invariant-loop-id g l = MovesAll l.fn.engine (map (firing l.dice) (take l.id-index l.ids)) l.engine
