use Rattle.std.proofs.Common.{◌≡◌, ◌≤◌, length, take}
use Rattle.wire_node.specs.Ticking.{armed_of}
use Rattle.wire_node.proofs.asking.front_armed.Given as goal

-- those of the ids so far, and no more than are wanted
abbrev pub invariant-loop-place : goal.invariant-loop-place
invariant-loop-place g l = (l.armed.items ≡ armed_of l.engine (take l.place l.ids)) × (length l.armed.items ≤ l.most)
