use Rattle.node_names.proofs.Packing.{HoldsName-written, held-written}
use Rattle.node_names.proofs.name.NodeName.from_well_formed.Goals as goal

pub invariant_of-result : goal.invariant_of-result
invariant_of-result c = HoldsName-written _ _ c.requires c.copy_from_slice.ensures.after

pub returns : goal.returns
returns c = held-written _ _ c.requires c.copy_from_slice.ensures.after
