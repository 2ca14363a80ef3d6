use Rattle.std.proofs.Common.{◌≡◌, ◌++◌, ℕ, List, string_bytes, take}
use Rattle.simulation.specs.Graph.{DrawsPart}
use Rattle.simulation.specs.Turns.{InTurn}
use Rattle.simulation.proofs.graph.parts.push_trees.Given as goal

abbrev pub invariant-loop-id : goal.invariant-loop-id
invariant-loop-id g l =
    (parts : List ℕ) × InTurn (DrawsPart l.group) (take l.id-index l.messages) parts × (string_bytes l.text ≡ string_bytes l.initial.text ++ parts)
