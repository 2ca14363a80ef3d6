use Rattle.std.proofs.Common.{◌≡◌, ◌++◌, take}
use Rattle.record_merge.proofs.group.add_each.Given as goal

-- the deliveries so far are appended
abbrev pub invariant-loop-delivery : goal.invariant-loop-delivery
invariant-loop-delivery l = l.deliveries.items ≡ l.fn.deliveries.items ++ take l.delivery-index l.given
