use Rattle.std.specs.Prelude.{map}
use Rattle.world.specs.declared.node_state.NodeState.{NodeState}
use Rattle.at_rest.proofs.Levels.{Stands, unreached}
use Rattle.at_rest.proofs.reaching.reach.Given as goal

-- so far this is reached, in order, and the level comes next
abbrev pub invariant-levels : goal.invariant-levels
invariant-levels g l = Stands g.C.Core.state l.world.group l.fn.name l.reached.keys l.level.items

-- each level has nodes that were not reached
abbrev pub decreases-levels : goal.decreases-levels
decreases-levels g l = unreached (map (λ (node : NodeState g.row.C.Denot). node.name) l.world.group.nodes) l.reached.keys
