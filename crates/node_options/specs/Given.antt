-- A value that an option was given.
use Rattle.std.specs.Prelude.{List, map, Option, option_map}
use Rattle.toml.specs.View.{view}
use Rattle.node_options.specs.Told.{Said, Word, Key}
use Rattle.node_options.specs.declared.given.Source.{Source}
use Rattle.node_options.specs.declared.given.Source.TheVariants as source
use Rattle.node_options.specs.declared.given.Given.{Given}

-- the value itself
abbrev pub said_by : Source → Said
said_by (source.Word word) = Word word.now
said_by (source.File value text) = Key (view value.now)

-- the value itself, where there is one
abbrev pub said_of : Option Given → Option Said
said_of given = option_map (λ g. said_by g.source) given

-- the values themselves
abbrev pub all_said : List Given → List Said
all_said givens = map (λ g. said_by g.source) givens
