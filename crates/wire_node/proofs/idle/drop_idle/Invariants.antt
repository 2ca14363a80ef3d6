use Rattle.std.proofs.Common.{◌≡◌}
use Rattle.node_names.specs.NodeName.{Name}
use Rattle.wire_node.specs.Acting.{AreSettled}
use Rattle.wire_node.specs.Waiting.{settled_for}
use Rattle.wire_node.proofs.idle.drop_idle.Given as goal

abbrev pub invariant-loop : goal.invariant-loop
invariant-loop g l =
    record {
      settled : AreSettled l.entries.items;
      same : (name : Name) → settled_for l.entries.items name ≡ settled_for l.fn.entries.items name;
    }
