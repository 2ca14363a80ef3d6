use Rattle.std.proofs.Common.{◌≡◌, take}
use Rattle.std.specs.Prelude.{map}
use Rattle.trace_merge.specs.Projection.{said}
use Rattle.trace_merge.proofs.outputs.sends_of.Given as goal

-- the packets so far are copied
abbrev pub invariant-loop-packet : goal.invariant-loop-packet
invariant-loop-packet g l = l.sends.items ≡ map said (take l.packet-index l.packets)
