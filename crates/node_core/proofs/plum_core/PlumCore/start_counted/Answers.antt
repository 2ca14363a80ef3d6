-- A start has the parts of a newcomer, and only the JOIN needs a number.
use Rattle.std.proofs.Common.{◌∙◌, refl}
use Rattle.node_core.specs.Steps.{opening}
use Rattle.node_core.specs.impl_proofs.Starting.{fit_views, starts_counted}
use Rattle.node_core.proofs.Openings.{IsRefusal, passed_on, started_is}
use Rattle.node_core.proofs.plum_core.PlumCore.start_counted.Goals as goal

pub new-requires : goal.new-requires
new-requires g c = fit_views c.args.limits c.args.me.name c.args.peers.now c.args.contact c.requires

pub returns-in_err-framed-clause-refused : goal.returns-in_err-framed-clause-refused
returns-in_err-framed-clause-refused g c =
    passed_on c.from_residual-in_err-framed.result
    (IsRefusal c.args.contact c.args.frames_spent) c.in_err-framed.field-0.0 c.from_residual-in_err-framed.ensures.1 c.in_err-framed.ensures.refused

pub returns-clause-started : goal.returns-clause-started
returns-clause-started g c =
    started_is c.args.me c.args.limits c.args.peers.now c.args.contact c.args.seq_spent
    c.args.frames_spent c.active-allowed.ensures.allowed c.open.new.membership
    (c.in_ok-framed.ensures.same ∙ c.in_ok-membership.ensures)
    c.in_ok-gossip.gossip
    (rw c.keep.ensures.value at (rw c.threshold.ensures.value at c.in_ok-gossip.ensures))
    (opening c.args.contact) refl c.args.out.now c.open.new.out
    c.in_ok-framed.ensures.ok c.in_ok-framed.framed c.in_ok-framed.ensures.last

pub returns-clause-lawful : goal.returns-clause-lawful
returns-clause-lawful g c =
    let started = returns-clause-started g c in (
      started.0,
      starts_counted c.args.seq_spent c.args.frames_spent c.args.me c.args.limits c.args.peers.now c.args.contact started.0 _ c.requires started.1,
      started.2,
    )
