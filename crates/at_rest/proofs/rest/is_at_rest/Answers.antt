use Rattle.at_rest.proofs.Silences.{rest_is}
use Rattle.at_rest.proofs.rest.is_at_rest.Goals as goal

pub returns : goal.returns
returns g c = rest_is g.C.Core.state g.C.Note.Wire.content c.args.world.now.group c.args.id.now c.is_nothing_left.result c.is_nothing_left.ensures
