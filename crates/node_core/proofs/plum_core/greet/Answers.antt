-- The contact is sent JOIN.
use Rattle.std.proofs.Common.{ap}
use Rattle.membership.specs.Membership.{Moves}
use Rattle.node_core.proofs.Openings.{greets}
use Rattle.node_core.proofs.plum_core.greet.Goals as goal

pub returns-clause-same : goal.returns-clause-same
returns-clause-same g c =
    (greets c.args.membership.now c.args.contact c.in-Some.contact c.in-Some.is c.new-moves.result c.join.new.moves
    c.join.new.self c.new-moves.ensures c.in_ok-join.ensures.ok c.moves.inside.sends (ap (λ (m : Moves). m.sends) c.moves.view_is)).0

pub returns-clause-opening : goal.returns-clause-opening
returns-clause-opening g c =
    (greets c.args.membership.now c.args.contact c.in-Some.contact c.in-Some.is c.new-moves.result c.join.new.moves
    c.join.new.self c.new-moves.ensures c.in_ok-join.ensures.ok c.moves.inside.sends (ap (λ (m : Moves). m.sends) c.moves.view_is)).1
