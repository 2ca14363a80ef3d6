use Rattle.std.proofs.Common.{◌≡◌, ◌+◌, None, All, length}
use Rattle.node_threads.specs.History.{IsHistory}
use Rattle.loopback.proofs.closing.close_each.Given as goal

-- as long as no node failed, each that was closed has left its history
abbrev pub invariant-loop-node : goal.invariant-loop-node
invariant-loop-node g l = l.first ≡ None
    → (All (IsHistory g.C.NodeCore.starts g.C.NodeCore.steps) l.initial.ran.traces.items
    → All (IsHistory g.C.NodeCore.starts g.C.NodeCore.steps) l.ran.traces.items)
    × (length l.ran.traces.items ≡ length l.initial.ran.traces.items + length l.yielded)
