-- The test of calm tells what the definition says.
use Rattle.std.proofs.Common.{◌∙◌, sym}
use Rattle.std.proofs.lemmas.Bool.{false≢true}
use Rattle.at_rest.proofs.Calming.{calm_is, is_calm}
use Rattle.at_rest.proofs.calm.is_calm.Goals as goal

pub returns-then-all_fly_calm : goal.returns-then-all_fly_calm
returns-then-all_fly_calm g c = (
  λ yes. calm_is g.C.Core.state g.C.Note.Wire.content c.args.world.now.group
      (sym c.all_fly_calm.ensures ∙ c.if-all_fly_calm.true) (c.is_symmetric.ensures.0 yes),
  λ calm. c.is_symmetric.ensures.1 calm.symmetric,
)

pub returns-else-all_fly_calm : goal.returns-else-all_fly_calm
returns-else-all_fly_calm g c = (
  λ yes. absurd (false≢true (sym c.if-all_fly_calm.false ∙ yes)),
  λ calm. c.all_fly_calm.ensures ∙ is_calm g.C.Core.state g.C.Note.Wire.content c.args.world.now.group calm,
)
