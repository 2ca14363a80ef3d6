use Rattle.std.proofs.Common.{map, take}
use Rattle.std.specs.Io.KnownBytes.{Appends}
use Rattle.simulation.specs.Lines.{lines_of}
use Rattle.simulation.proofs.output.write_lines.Given as goal

abbrev pub invariant-loop-delivery : goal.invariant-loop-delivery
invariant-loop-delivery g l =
    Appends (g.W.Write.contents l.initial.out) (g.W.Write.contents l.out) (lines_of (map (λ d. d.now) (take l.delivery-index l.deliveries)))
