use Rattle.std.proofs.Common.{subst, sym, ◌≡◌, true}
use Rattle.std.specs.Prelude.{◌↔◌}
use Rattle.world.specs.Links.{IsSymmetric}
use Rattle.at_rest.proofs.Linkings.{symmetric_is}
use Rattle.at_rest.proofs.links.is_symmetric.Goals as goal

pub returns : goal.returns
returns g c =
    subst (λ b. (b ≡ true) ↔ IsSymmetric g.C.Core.state c.args.world.now.group)
    (sym c.all_link_back.ensures) (symmetric_is g.C.Core.state c.args.world.now.group)
