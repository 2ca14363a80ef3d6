use Rattle.std.proofs.Common.{◌∙◌, ap, subst, sym}
use Rattle.views.specs.Sets.{views_of}
use Rattle.views.specs.Views.{AreSound, add_passive}
use Rattle.views.proofs.Sound.{sound-add_passive}
use Rattle.views.proofs.views.Views.add_passive.Goals as goal

pub invariant_of-self-2 : goal.invariant_of-self-2
invariant_of-self-2 g c =
    subst AreSound (sym (c.add_passive.ensures.views ∙ ap (add_passive c.args.dice.now c.args.name) c.reserve.ensures.views))
    (sound-add_passive c.args.dice.now c.args.name (views_of c.self.inside.sets) c.self.invariant)
