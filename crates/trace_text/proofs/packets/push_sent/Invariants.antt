use Rattle.std.proofs.Common.{◌≡◌, ◌++◌, drop, string_bytes}
use Rattle.trace_text.specs.Packets.{sent_lines}
use Rattle.trace_text.proofs.packets.push_sent.Given as goal

abbrev pub invariant-loop-place : goal.invariant-loop-place
invariant-loop-place g l =
    string_bytes l.text ++ sent_lines l.place (drop l.place l.sent) ≡ string_bytes l.initial.text ++ sent_lines l.fn.first (drop l.fn.first l.sent)
