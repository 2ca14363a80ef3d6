use Rattle.std.proofs.Common.{◌≡◌, ◌≤◌, take}
use Rattle.trace_text.specs.Counts.{kind_count}
use Rattle.trace_text.proofs.counts.count_kind.Given as goal

abbrev pub invariant-loop-packet : goal.invariant-loop-packet
invariant-loop-packet g l = record {
  counted : l.count ≡ kind_count l.kind (take l.packet-index l.sent);
  below : l.count ≤ l.packet-index;
}
