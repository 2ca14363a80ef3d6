use Rattle.std.proofs.Common.{◌≡◌, ◌++◌, [], ◌∷◌, take, if◌then◌else◌}
use Rattle.node_names.specs.declared.ids.MsgId.{MsgId}
use Rattle.at_rest.specs.Silence.{is_announced}
use Rattle.simulation.specs.Flights.{numbers_at}
use Rattle.simulation.proofs.graph.flights.add_announced.Given as goal

-- each message that was announced so far has the number once
abbrev pub invariant-loop-place : goal.invariant-loop-place
invariant-loop-place g l =
    (id : MsgId) →
    numbers_at id l.flights.entries ≡ numbers_at id l.initial.flights.entries ++ (if is_announced id (take l.place l.entries) then l.number ∷ [] else [])
