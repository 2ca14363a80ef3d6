use Rattle.std.proofs.Common.{◌≡◌, take}
use Rattle.protocol.proofs.delivery.copy_deliveries.Given as goal

-- the deliveries so far are copied
abbrev pub invariant-loop-delivery : goal.invariant-loop-delivery
invariant-loop-delivery g l = l.copies.items ≡ take l.delivery-index l.given
