use Rattle.std.proofs.Common.{◌≡◌, take}
use Rattle.world.specs.Play.{given_at}
use Rattle.world.proofs.apply.given_of.Given as goal

-- the deliveries so far are noted
abbrev pub invariant-loop-delivery : goal.invariant-loop-delivery
invariant-loop-delivery g l = l.given.items ≡ given_at l.at (take l.delivery-index l.deliveries)
