use Rattle.std.proofs.Common.{◌∙◌, All, ap, subst}
use Rattle.node_threads.specs.Leaving.{GoesTo}
use Rattle.node_threads.specs.Outlet.{Outlet}
use Rattle.node_threads.proofs.Left.{leaves_to}
use Rattle.node_threads.proofs.host.writing.write_to_end.Goals as goal

pub returns : goal.returns
returns g c =
    leaves_to c.args.outlet.peer c.write_frames-ended.new.link.spent.items c.write_frames-ended.new.link.outlet _ c.into_outlets.ensures
    (subst (λ (outlet : Outlet). All (GoesTo outlet.peer) c.write_frames-ended.new.link.spent.items)
    c.new-link.ensures.outlet c.write_frames-ended.ensures.spent)
    (c.write_frames-ended.ensures.outlet ∙ ap (λ (outlet : Outlet). outlet.peer) c.new-link.ensures.outlet)
