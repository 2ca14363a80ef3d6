-- What leaves from the front is only counted, and what leaves behind it is taken out.
use Rattle.std.proofs.Common.{◌+◌, ◌∙◌, ap, drop, refl}
use Rattle.world.proofs.Flights.{front_leaves, one_leaves}
use Rattle.world.proofs.flight.Flight.remove.Goals as goal

pub returns-then-place-eq0-clause-numbers : goal.returns-then-place-eq0-clause-numbers
returns-then-place-eq0-clause-numbers g c = front_leaves c.args.self.now.gone c.args.self.now.numbers.items c.args.place c.if-place-eq0.true

pub returns-else-place-eq0-clause-numbers : goal.returns-else-place-eq0-clause-numbers
returns-else-place-eq0-clause-numbers g c =
    ap (drop c.args.self.now.gone) c.remove.ensures.items
    ∙ one_leaves c.args.self.now.gone c.args.self.now.numbers.items c.args.place (c.args.self.now.gone + c.args.place) refl
