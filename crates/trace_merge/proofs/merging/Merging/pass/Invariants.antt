use Rattle.std.proofs.Common.{◌≡◌, ◌<◌, ℕ, false}
use Rattle.std.specs.Prelude.{Some, slice_get}
use Rattle.protocol.specs.Trace.{Trace}
use Rattle.frames.specs.Frame.{Frame}
use Rattle.trace_merge.specs.Left.{AreLeft}
use Rattle.trace_merge.specs.Merging.{IsHeld, place_at}
use Rattle.trace_merge.specs.Steps.{Moves}
use Rattle.trace_merge.proofs.merging.Merging.pass.Given as goal

-- something was played so far, or nothing changed and the traces so far are held
abbrev pub invariant-loop-at : goal.invariant-loop-at
invariant-loop-at g l =
    record {
      moves : Moves l.traces l.moved l.initial.self l.self;
      held : l.moved ≡ false →
          (i : ℕ) (t : Trace Frame) →
          i < l.at →
          slice_get l.traces i ≡ Some t →
          IsHeld l.traces l.initial.self.places t (place_at l.initial.self.places i);
      left : AreLeft l.traces l.self.places l.left.runs;
    }
