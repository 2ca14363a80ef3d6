-- One more event is played.
use Rattle.std.proofs.Common.{rules, subst}
use Rattle.world.specs.Play.{PlaysOn}
use Rattle.world.proofs.PlayLemmas.{Plays_more}
use Rattle.world.proofs.world.World.run.Goals as goal

pub loop-at-preserved : goal.loop-at-preserved
loop-at-preserved g c =
    let on : PlaysOn g.C.Core.state g.C.Core.starts g.C.Core.steps c.loop-at.at c.index-events-at.result
    c.loop-at.given.items c.loop-at.self c.play_one.new.given.items c.play_one.new.self =
    search rules in
    Plays_more g.C.Core.state g.C.Core.starts g.C.Core.steps c.args.events.now c.loop-at.at c.index-events-at.result c.loop-at.given.items
    c.play_one.new.given.items c.args.self.now c.loop-at.self c.play_one.new.self c.loop-at-test.true c.loop-at.invariant
    (subst (λ e.
    PlaysOn g.C.Core.state g.C.Core.starts g.C.Core.steps c.loop-at.at e c.loop-at.given.items c.loop-at.self c.play_one.new.given.items c.play_one.new.self)
    c.index-events-at.is on)
