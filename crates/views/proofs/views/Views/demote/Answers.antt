use Rattle.std.proofs.Common.{◌∙◌, ap, subst, sym}
use Rattle.views.specs.Sets.{views_of}
use Rattle.views.specs.Views.{AreSound, demote}
use Rattle.views.proofs.Sound.{sound-demote}
use Rattle.views.proofs.views.Views.demote.Goals as goal

pub invariant_of-self-2 : goal.invariant_of-self-2
invariant_of-self-2 g c =
    subst AreSound (sym (c.demote.ensures.views ∙ ap (demote c.args.dice.now c.args.name) c.reserve.ensures.views))
    (sound-demote c.args.dice.now c.args.name (views_of c.self.inside.sets) c.self.invariant)
