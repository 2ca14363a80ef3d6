use Rattle.std.proofs.Common.{◌≡◌, ◌++◌, ◌-◌, ◌+◌, ◌≤◌, vec_len}
use Rattle.std.specs.Prelude.{vec_capacity}
use Rattle.protocol.specs.Lists.{places}
use Rattle.world.specs.Flight.{flying}
use Rattle.world.proofs.flight.Flight.launch.Given as goal

-- the places so far are in flight, and there is room for the others
abbrev pub invariant-loop-number : goal.invariant-loop-number
invariant-loop-number g l =
    (flying l.self ≡ flying l.initial.self ++ places l.first (l.number - l.first))
    × (vec_len l.self.numbers + (l.last - l.number) ≤ vec_capacity l.self.numbers)
    × (l.self.gone ≤ vec_len l.self.numbers)
