-- The set's ids are those for which the group is not at rest.
use Rattle.at_rest.proofs.Unrests.{unrest_is}
use Rattle.at_rest.proofs.unrest.Unrest.new.Goals as goal

pub returns : goal.returns
returns g c id = unrest_is g.C.Core.state g.C.Note.Wire.content id c.args.world.now.group c.in_ok-ids.ids.keys c.in_ok-ids.ensures
