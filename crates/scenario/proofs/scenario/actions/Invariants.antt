use Rattle.std.proofs.Common.{◌≡◌, List, take}
use Rattle.toml.specs.Data.{Members}
use Rattle.toml.specs.View.{items_view}
use Rattle.scenario.specs.Reading.{tables}
use Rattle.scenario.specs.Scenario.{AreActions}
use Rattle.scenario.proofs.scenario.actions.Given as goal

abbrev pub invariant-loop-number : goal.invariant-loop-number
invariant-loop-number l = (members : List Members) → items_view l.events ≡ tables members → AreActions (take l.number members) l.actions.items
