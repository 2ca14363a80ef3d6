-- What is kept leads to what the stimulus does.
use Rattle.std.proofs.Common.{◌≡◌, ◌+◌, length, sym, ◌∙◌, ap, subst}
use Rattle.views.specs.Views.{AreSound}
use Rattle.protocol.specs.Stimulus.{lent}
use Rattle.node_core.specs.Fits.{FitsFrames}
use Rattle.node_core.specs.Parts.{PreparedStep}
use Rattle.node_core.specs.Plum.{Plum}
use Rattle.node_core.specs.Steps.{plum_after, turned}
use Rattle.node_core.proofs.Fitting.{turned_fits}
use Rattle.node_core.proofs.PartsAgree.{makes_inside}
use Rattle.node_core.proofs.plum_core.PlumCoreCore.advance.Goals as goal

pub commit-requires : goal.commit-requires
commit-requires g c = (makes_inside (lent c.args.stimulus.now) c.self.view_is c.turn.view_is c.requires.makes).0

pub invariant_of-self-2 : goal.invariant_of-self-2
invariant_of-self-2 g c =
    let made = makes_inside (lent c.args.stimulus.now) c.self.view_is c.turn.view_is c.requires.makes in
    subst FitsFrames (sym (c.in_ok-commit.ensures.gossip ∙ made.2))
    (turned_fits (record { me = c.self.inside.me; membership = c.self.inside.membership; gossip = c.self.inside.gossip; framed = c.self.inside.framed })
    c.self.invariant (subst AreSound c.views.ensures c.limits-sound.ensures.sound) (lent c.args.stimulus.now) (c.heed.ensures c.requires.allowed)).0

pub returns-clause-ok : goal.returns-clause-ok
returns-clause-ok g c =
    let made = makes_inside (lent c.args.stimulus.now) c.self.view_is c.turn.view_is c.requires.makes in
    let framed : c.turn.inside.framed
    ≡ c.self.inside.framed + length (turned c.self.inside.me c.self.inside.membership c.self.inside.gossip (lent c.args.stimulus.now)).sends =
    ap (λ (turn : PreparedStep). turn.framed) c.turn.view_is
    ∙ c.requires.framed
    ∙ sym (ap (λ (core : Plum). core.framed + length (turned core.me core.membership core.gossip (lent c.args.stimulus.now)).sends) c.self.view_is) in
    (λ i. record {
      me = c.self.inside.me;
      membership = (c.in_ok-commit.ensures.membership ∙ made.1) i;
      gossip = (c.in_ok-commit.ensures.gossip ∙ made.2) i;
      framed = framed i;
    })
    ∙ ap (λ (core : Plum). plum_after core (lent c.args.stimulus.now)) c.self.view_is
