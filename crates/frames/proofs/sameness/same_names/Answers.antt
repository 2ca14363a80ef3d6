-- The names are compared.
use Rattle.node_names.specs.Same.{same_names-Decides}
use Rattle.frames.proofs.SameFields.{decides_of}
use Rattle.frames.proofs.sameness.same_names.Goals as goal

pub returns : goal.returns
returns g c = decides_of c.eq.ensures (same_names-Decides c.names_of.result.now c.names_of-2.result.now) c.names_of.ensures c.names_of-2.ensures
