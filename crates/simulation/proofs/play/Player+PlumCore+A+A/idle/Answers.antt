-- Only a timer that fires and a link that fails can do nothing.
use Rattle.simulation.proofs.Idling.{neither}
use Rattle.simulation.proofs.play.Player+PlumCore+A+A.idle.Goals as goal

pub returns-in_default : goal.returns-in_default
returns-in_default g c =
    record { idle = tt; busy = λ none why. neither c.args.self.now.group.group c.args.action.now c.in_default.not-Fire c.in_default.not-Down why }
