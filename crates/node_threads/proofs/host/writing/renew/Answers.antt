use Rattle.std.proofs.Common.{All, ap, subst, sym}
use Rattle.node_threads.specs.Leaving.{GoesTo}
use Rattle.node_threads.specs.Outlet.{Outlet}
use Rattle.node_threads.proofs.Left.{kept_or_not}
use Rattle.node_threads.proofs.host.writing.renew.Goals as goal

pub returns-clause-spent : goal.returns-clause-spent
returns-clause-spent g c =
    let peer = c.args.link.now.outlet.peer in
    kept_or_not peer _ _ c.replace-spent.result (subst (All (GoesTo peer)) (sym c.reserve.ensures.items) c.requires)
    (ap (λ (outlet : Outlet). outlet.peer) c.replace-spent.ensures.value) c.keep_rest.ensures
