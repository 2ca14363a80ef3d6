use Rattle.std.proofs.Common.{◌≡◌, ◌*◌, ◌++◌, take, drop}
use Rattle.std.specs.Prelude.{IsAscii}
use Rattle.simulation.specs.Lines.{hexadecimal}
use Rattle.simulation.proofs.output.write_digits.Given as goal

abbrev pub invariant-loop-i : goal.invariant-loop-i
invariant-loop-i l =
    (take (2 * l.i) l.digits ++ hexadecimal (drop l.i l.bytes) ≡ hexadecimal l.bytes)
    × IsAscii (take (2 * l.i) l.digits)
