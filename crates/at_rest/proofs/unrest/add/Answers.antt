-- The set has the id beside what it had.
use Rattle.at_rest.proofs.Adding.{adds-one}
use Rattle.at_rest.proofs.unrest.add.Goals as goal

pub returns : goal.returns
returns g c = adds-one c.args.ids.now.keys c.insert.new.self.keys c.args.id c.in_ok-insert.ensures.updates.0
