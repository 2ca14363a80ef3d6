use Rattle.std.proofs.Common.{◌≡◌, All, take}
use Rattle.merge_command.specs.declared.run.Stage.TheVariants.{Over}
use Rattle.merge_command.proofs.following.judge_ends.Given as goal

-- the runs so far are over
abbrev pub invariant-loop-run : goal.invariant-loop-run
invariant-loop-run l = All (λ run. run.stage ≡ Over) (take l.run-index l.runs)
