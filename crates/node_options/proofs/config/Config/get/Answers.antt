-- The map of a table is its members.
use Rattle.toml.proofs.Views.{table_get}
use Rattle.node_options.proofs.config.Config.get.Goals as goal

pub returns : goal.returns
returns c = table_get c.get.result c.args.key.now c.args.self.now.table.entries c.get.ensures.value
