-- The new message has the next number, so it is counted.
use Rattle.std.proofs.Common.{◌+◌, refl}
use Rattle.flood.proofs.FloodMoves.{counts_own}
use Rattle.flood.proofs.flood_core.FloodCore.advance_broadcast.Goals as goal

pub invariant_of-self-2 : goal.invariant_of-self-2
invariant_of-self-2 g c = (
  c.self.invariant.0,
  counts_own c.self.inside.me c.self.inside.held.entries c.hold.new.held.entries c.self.inside.count
      (c.self.inside.count + 1) c.args.payload.now c.self.invariant.1 c.in_ok-hold.ensures.ok refl,
)
