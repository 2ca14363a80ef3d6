use Rattle.wire_node.proofs.Leading.{moved, went}
use Rattle.wire_node.proofs.laws.noted_steps_lead_on.Goals as goal

pub returns : goal.returns
returns c = record { moves = moved; downs = went }
