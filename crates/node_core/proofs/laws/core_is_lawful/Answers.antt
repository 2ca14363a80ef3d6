use Rattle.node_core.specs.impl_proofs.PlumLaws.{plum_lawful}
use Rattle.node_core.proofs.laws.core_is_lawful.Goals as goal

pub returns : goal.returns
returns c = plum_lawful
