use Rattle.std.proofs.Common.{◌∙◌, ap, subst, sym}
use Rattle.views.specs.Sets.{views_of}
use Rattle.views.specs.Views.{AreSound, drop_active}
use Rattle.views.proofs.Sound.{sound-drop_active}
use Rattle.views.proofs.views.Views.drop_active.Goals as goal

pub invariant_of-self-2 : goal.invariant_of-self-2
invariant_of-self-2 g c =
    subst AreSound (sym (c.drop_active.ensures.views ∙ ap (drop_active c.args.dice.now) c.reserve.ensures.views))
    (sound-drop_active c.args.dice.now (views_of c.self.inside.sets) c.self.invariant)
