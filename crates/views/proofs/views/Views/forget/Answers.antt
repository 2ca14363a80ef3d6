use Rattle.std.proofs.Common.{subst, sym}
use Rattle.views.specs.Sets.{views_of}
use Rattle.views.specs.Views.{AreSound}
use Rattle.views.proofs.Sound.{sound-forget}
use Rattle.views.proofs.views.Views.forget.Goals as goal

pub invariant_of-self : goal.invariant_of-self
invariant_of-self g c =
    subst AreSound (sym c.forget.ensures.views) (sound-forget c.args.name (views_of c.self.inside.sets) c.self.invariant)
