use Rattle.std.proofs.Common.{◌∙◌, ap, subst, sym}
use Rattle.views.specs.Sets.{views_of}
use Rattle.views.specs.Views.{AreSound, add_active}
use Rattle.views.proofs.Sound.{sound-add_active}
use Rattle.views.proofs.views.Views.add_active.Goals as goal

pub invariant_of-self-2 : goal.invariant_of-self-2
invariant_of-self-2 g c =
    subst AreSound (sym (c.add_active.ensures.views ∙ ap (add_active c.args.dice.now c.args.name) c.reserve.ensures.views))
    (sound-add_active c.args.dice.now c.args.name (views_of c.self.inside.sets) c.self.invariant)
