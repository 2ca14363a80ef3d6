-- Digits are ASCII, and so UTF-8.
use Rattle.std.proofs.lemmas.Str.{IsUtf8-from_ascii}
use Rattle.simulation.proofs.output.push_chunk.Goals as goal

pub unreachable-requires : goal.unreachable-requires
unreachable-requires g c = c.in_default.ensures.cases.0 (IsUtf8-from_ascii _ c.write_digits.ensures.ascii)
