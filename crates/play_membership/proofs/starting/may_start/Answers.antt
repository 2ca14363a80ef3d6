-- The test of a group's start is what the views require.
use Rattle.std.proofs.Common.{◌∙◌, sym}
use Rattle.std.specs.Prelude.{None}
use Rattle.node_core.specs.impl_proofs.Starting.{fit_views}
use Rattle.play_membership.proofs.starting.may_start.Goals as goal

pub returns : goal.returns
returns c is = fit_views c.args.limits.now c.args.owner.now c.args.peers.now None (sym c.are_peers.ensures ∙ is)
