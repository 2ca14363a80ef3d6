use Rattle.std.proofs.Common.{◌≡◌, ◌++◌, string_bytes}
use Rattle.std.specs.Slice.Iter.{chunks_rest, chunks_size}
use Rattle.simulation.specs.Lines.{hexadecimal}
use Rattle.simulation.proofs.output.push_hexadecimal.Given as goal

abbrev pub invariant-loop-chunk : goal.invariant-loop-chunk
invariant-loop-chunk g l =
    (goal.iterator-loop-chunk g).can_next l.chunk-iterator
    × (goal.iterator-loop-chunk g).is_finite l.chunk-iterator
    × (chunks_size l.chunk-iterator ≡ 32)
    × (string_bytes l.text ++ hexadecimal (chunks_rest l.chunk-iterator) ≡ string_bytes l.initial.text ++ hexadecimal l.bytes)
