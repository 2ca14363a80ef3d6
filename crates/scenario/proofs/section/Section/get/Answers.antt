-- The map of a table is its members.
use Rattle.toml.proofs.Views.{table_get}
use Rattle.scenario.proofs.section.Section.get.Goals as goal

pub returns : goal.returns
returns c = rw (← c.word.ensures) (table_get c.get.result c.word.result.now c.args.self.now.table.now.entries c.get.ensures.value)
