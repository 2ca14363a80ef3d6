-- The packets in flight as a group keeps them.
use Rattle.std.specs.Prelude.{ℕ, List, drop}
use Rattle.world.specs.declared.flight.Flight.{Flight}

-- the numbers that fly: all but those that have left from the front
abbrev pub flying : {A : Type 0} → Flight A → List ℕ
flying flight = drop flight.gone flight.numbers.items
