use Rattle.std.proofs.Common.{◌∙◌, ap, subst, sym}
use Rattle.views.specs.Sets.{views_of}
use Rattle.views.specs.Views.{AreSound, integrate}
use Rattle.views.proofs.Integration.{sound-integrate}
use Rattle.views.proofs.views.Views.integrate.Goals as goal

pub invariant_of-self-2 : goal.invariant_of-self-2
invariant_of-self-2 g c =
    subst AreSound (sym (c.integrate.ensures ∙ ap (integrate c.args.names.now c.args.sent.now c.args.dice.now) c.reserve_passive.ensures.views))
    (sound-integrate c.args.names.now c.args.sent.now c.args.dice.now (views_of c.self.inside.sets) c.self.invariant)
