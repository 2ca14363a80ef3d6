use Rattle.std.proofs.Common.{◌≡◌, codes}
use Rattle.clap.specs.declared.builder.command.Command.TheViews.{out-Command}
use Rattle.node_options.proofs.subcommand.command.Given as goal

-- the name stays
abbrev pub invariant-loop-row : goal.invariant-loop-row
invariant-loop-row l = (out-Command l.command).name.now ≡ codes "node"
