use Rattle.std.proofs.Common.{◌≡◌, ◌++◌, take}
use Rattle.node_names.specs.declared.ids.MsgId.{MsgId}
use Rattle.simulation.specs.Flights.{about, numbers_at}
use Rattle.simulation.proofs.graph.flights.add_all.Given as goal

abbrev pub invariant-loop-number : goal.invariant-loop-number
invariant-loop-number g l =
    (id : MsgId) → numbers_at id l.flights.entries ≡ numbers_at id l.initial.flights.entries ++ about id l.sent (take l.number-index l.numbers)
