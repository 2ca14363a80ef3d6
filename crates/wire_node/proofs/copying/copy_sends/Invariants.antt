use Rattle.std.proofs.Common.{◌≡◌, take}
use Rattle.wire_node.proofs.copying.copy_sends.Given as goal

-- those so far were copied
abbrev pub invariant-loop-send : goal.invariant-loop-send
invariant-loop-send g l = l.copies.items ≡ take l.send-index l.sends
