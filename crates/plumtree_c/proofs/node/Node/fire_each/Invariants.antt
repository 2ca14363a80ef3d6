use Rattle.std.proofs.Common.{map, take}
use Rattle.protocol.specs.declared.stimulus.StimulusOf.TheVariants.{Fire}
use Rattle.plumtree_c.specs.State.{Runs}
use Rattle.plumtree_c.proofs.node.Node.fire_each.Given as goal

-- the timers so far have fired
abbrev pub invariant-loop-id : goal.invariant-loop-id
invariant-loop-id l = Runs l.fn.self (map Fire (take l.id-index l.ids)) l.self
