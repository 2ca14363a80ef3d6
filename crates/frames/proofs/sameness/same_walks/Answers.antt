-- The names that walk are compared.
use Rattle.frames.proofs.SameFields.{decides_of, walks_Decide}
use Rattle.frames.proofs.sameness.same_walks.Goals as goal

pub returns : goal.returns
returns g c = decides_of c.eq.ensures (walks_Decide c.walk_of.result c.walk_of-2.result) c.walk_of.ensures c.walk_of-2.ensures
