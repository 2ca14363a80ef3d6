-- What words and a file say.
use Rattle.std.specs.Prelude.{List, ℕ, Option, option_map}
use Rattle.clap.specs.Matches.{found_of}
use Rattle.toml.specs.Data.{Members}
use Rattle.toml.specs.View.{table_view}
use Rattle.node_options.specs.Told as told
use Rattle.node_options.specs.Told.{Said}
use Rattle.node_options.specs.declared.settings.Settings.{Settings}

-- the keys and values of the file, if there is one
abbrev pub members_of : Settings → Option Members
members_of settings = option_map (λ config. table_view config.now.table) settings.config

-- the value of an option that takes one
abbrev pub told_of : Settings → List ℕ → Option Said
told_of settings option = told.told (found_of settings.words.now) (members_of settings) option
