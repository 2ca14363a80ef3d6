use Rattle.membership.proofs.LawfulRows.{table_is_lawful}
use Rattle.membership.proofs.laws.every_row_is_lawful.Goals as goal

pub returns : goal.returns
returns c = table_is_lawful
