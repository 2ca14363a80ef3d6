-- The file that the settings hold is the one that was read.
use Rattle.std.proofs.Common.{◌≡◌, option_map, rules, subst}
use Rattle.clap.specs.Matches.{found_of}
use Rattle.toml.specs.View.{table_view}
use Rattle.node_options.specs.Told.{file_of}
use Rattle.node_options.specs.Limits.{AreLimits}
use Rattle.node_options.proofs.reading.read.Goals as goal

pub returns-clause-limits : goal.returns-clause-limits
returns-clause-limits c =
    let same : option_map (λ config. table_view config.now.table) c.as_ref.result ≡ file_of c.args.config =
    search (rules, c.in_ok-config.ensures, c.as_ref.ensures.value) in
    subst (λ file. AreLimits (found_of c.args.words.now) file c.in_ok-limits.field-0) same c.in_ok-limits.ensures
