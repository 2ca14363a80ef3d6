-- The run goes on by the start.
use Rattle.std.proofs.Common.{rules, subst, sym}
use Rattle.world.specs.Group.{packets}
use Rattle.run_check.specs.Following.{Follows, Kept, Posts}
use Rattle.run_check.proofs.Following.{sent_at_start, started}
use Rattle.run_check.proofs.run_check.RunCheck.start.Goals as goal

pub returns-clause-goes_on : goal.returns-clause-goes_on
returns-clause-goes_on g c = λ past group follows.
    let old : Kept g.row.C.Denot =
    record { limits = c.self.inside.limits; nodes = c.self.inside.nodes.map.entries; packets = c.self.inside.flying.map.entries } in
    let inside = subst (λ k. Follows g.C.Core.state g.C.Core.starts g.C.Core.steps k past group) (sym c.self.view_is) follows in
    let made =
    sent_at_start g.C.Core.state g.C.Core.starts g.C.Core.steps c.self.inside.limits c.args.run c.args.peers.now c.args.contact
    c.in-Ok.core c.new-out.result c.start.new.out c.into_vec.result.items c.in-Ok.ensures.started c.new-out.ensures.sends (search rules) in
    let posts =
    subst (λ k. Posts k (packets c.args.run c.into_vec.result.items) c.post.new.self.map.entries) c.in_ok-reserve.ensures.same c.post.ensures in
    let on =
    started g.C.Core.state g.C.Core.starts g.C.Core.steps old past group c.args.run c.args.peers.now c.args.contact
    c.in-Ok.core c.into_vec.result.items c.put.new.self.map.entries c.post.new.self.map.entries inside c.in_ok-judge.ensures.fresh
    (search rules) made c.in_ok-put.ensures.ok posts in
    (on.entry, on.is_event, on.goes_on)
