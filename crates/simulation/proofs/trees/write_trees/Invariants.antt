use Rattle.std.proofs.Common.{ℕ, List, take}
use Rattle.std.specs.Io.KnownBytes.{Appends}
use Rattle.simulation.specs.Trees.{TellsTrees}
use Rattle.simulation.proofs.trees.write_trees.Given as goal

abbrev pub invariant-loop-id : goal.invariant-loop-id
invariant-loop-id g l =
    (written : List ℕ)
    × TellsTrees g.C.Core.state g.C.Note.Wire.content l.group (take l.id-index l.ids) written
    × Appends (g.W.Write.contents l.initial.out) (g.W.Write.contents l.out) written
