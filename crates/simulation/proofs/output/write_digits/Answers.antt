-- A step writes the digits of one byte.
use Rattle.std.proofs.Common.{arith}
use Rattle.simulation.proofs.Digits.{digits_ascii_step, digits_step}
use Rattle.simulation.proofs.output.write_digits.Goals as goal

pub loop-i-preserved : goal.loop-i-preserved
loop-i-preserved c = (
  digits_step c.args.bytes.now c.loop-i.digits c.loop-i.i _ _ c.loop-i-test.true
      (omega arith) c.hex_digit.ensures.value c.hex_digit-in-loop-i.ensures.value c.loop-i.invariant.0,
  digits_ascii_step c.loop-i.digits c.loop-i.i _ _ (omega arith) c.hex_digit.ensures.ascii c.hex_digit-in-loop-i.ensures.ascii c.loop-i.invariant.1,
)
