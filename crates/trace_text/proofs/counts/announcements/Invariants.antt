use Rattle.std.proofs.Common.{◌≡◌, ◌≤◌, ◌*◌, ◌^◌, take}
use Rattle.node_names.specs.declared.ids.MsgId.{MsgId}
use Rattle.trace_text.specs.Counts.{announcements_of, count_at}
use Rattle.trace_text.proofs.counts.announcements.Given as goal

-- the packets so far are counted
abbrev pub invariant-loop-packet : goal.invariant-loop-packet
invariant-loop-packet g l = record {
  counted : (id : MsgId) → count_at id l.counts.entries ≡ announcements_of id (take l.packet-index l.sent);
  below : (id : MsgId) → count_at id l.counts.entries ≤ l.packet-index * 2 ^ 64;
}
