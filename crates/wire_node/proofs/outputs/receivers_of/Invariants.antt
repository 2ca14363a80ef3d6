use Rattle.std.proofs.Common.{◌≡◌, take}
use Rattle.wire_node.specs.Waiting.{receivers_of}
use Rattle.wire_node.proofs.outputs.receivers_of.Given as goal

-- the names among the entries so far
abbrev pub invariant-loop-entry : goal.invariant-loop-entry
invariant-loop-entry g l = l.names.items ≡ receivers_of (take l.entry-index l.entries)
