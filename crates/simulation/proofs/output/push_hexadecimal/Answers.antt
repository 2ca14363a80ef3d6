-- A step appends the digits of one chunk.
use Rattle.std.proofs.Common.{◌∙◌, rules}
use Rattle.simulation.proofs.Digits.{chunk_step}
use Rattle.simulation.proofs.output.push_hexadecimal.Goals as goal

pub loop-chunk-preserved : goal.loop-chunk-preserved
loop-chunk-preserved g c =
    let steps = c.in-Some.ensures.steps in (
      search rules,
      tt,
      steps.0 ∙ c.loop-chunk.invariant.2,
      chunk_step _ _ _ _ _ _ c.in_ok-push_chunk.ensures steps.1.0 c.loop-chunk.invariant.3,
    )
