-- The limits of a node, as words and a file tell them.
use Rattle.std.specs.Prelude.{Option, codes}
use Rattle.clap.specs.declared.parser.matches.Found.{Found}
use Rattle.toml.specs.Data.{Members}
use Rattle.node_names.specs.Limits.{Limits}
use Rattle.node_options.specs.Told.{told, IsNumberOr}

-- Each limit is what was given for its option, or else its default.
pub record AreLimits (words : Found) (file : Option Members) (limits : Limits) : Type 0 where
  pub active : IsNumberOr 5 (told words file (codes "active")) limits.active
  pub passive : IsNumberOr 30 (told words file (codes "passive")) limits.passive
  pub arwl : IsNumberOr 6 (told words file (codes "arwl")) limits.arwl
  pub prwl : IsNumberOr 3 (told words file (codes "prwl")) limits.prwl
  pub ka : IsNumberOr 3 (told words file (codes "ka")) limits.ka
  pub kp : IsNumberOr 4 (told words file (codes "kp")) limits.kp
  pub threshold : IsNumberOr 0 (told words file (codes "threshold")) limits.threshold
  pub keep : IsNumberOr 10_000 (told words file (codes "keep")) limits.keep
