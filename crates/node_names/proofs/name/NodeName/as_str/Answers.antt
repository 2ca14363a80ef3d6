use Rattle.std.proofs.Common.{arith}
use Rattle.std.proofs.lemmas.Grind.{common_steps}
use Rattle.node_names.proofs.Alphabet.{IsUtf8-name}
use Rattle.node_names.proofs.name.NodeName.as_str.Goals as goal

pub unwrap-requires : goal.unwrap-requires
unwrap-requires c = grind (arith, common_steps, IsUtf8-name _ c.as_bytes.ensures.valid)
