use Rattle.std.proofs.Common.{◌≡◌, ℕ, ◌*◌, ◌≤◌, ◌++◌, List, length}
use Rattle.std.specs.Io.KnownBytes.{Appends}
use Rattle.frames.specs.declared.TheConstants.{MAX_FRAME}
use Rattle.links.specs.Draining.{joined}
use Rattle.links.proofs.draining.drain.Given as goal

abbrev pub invariant-loop : goal.invariant-loop
invariant-loop g l =
    (items : List (List ℕ)) × (g.S.Source.given l.source ≡ g.S.Source.given l.fn.source ++ items) × (length items ≡ l.counter)
    × Appends (g.W.Write.contents l.fn.writer) (g.W.Write.contents l.writer) (joined items)
    × (l.bytes ≡ length (joined items)) × (l.bytes ≤ MAX_FRAME * l.counter)
    × (g.W.MeteredWrite.failed l.writer ≡ g.W.MeteredWrite.failed l.fn.writer)
