use Rattle.std.proofs.Common.{◌≡◌, length, rules}
use Rattle.std.specs.Arc.{arc_value}
use Rattle.protocol.specs.Segments.{joined}
use Rattle.protocol.proofs.Segments.{ends}
use Rattle.protocol.proofs.step_list.StepList.seal.Goals as goal

pub returns-in-Ok-clause-ends : goal.returns-in-Ok-clause-ends
returns-in-Ok-clause-ends g c =
    let its : arc_value c.in-Ok.segment ≡ record { first = length (joined c.self.inside.parts.items); steps = c.self.inside.tail } = search rules in
    let all = ends c.self.inside.parts.items (arc_value c.in-Ok.segment) c.self.inside.tail c.args.self.now its c.self.view_is in
    search rules
