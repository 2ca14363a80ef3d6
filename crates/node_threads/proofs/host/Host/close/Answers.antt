use Rattle.std.specs.Prelude.{◌≡◌, length}
use Rattle.std.proofs.Common.{rules}
use Rattle.node_threads.proofs.Failing.{fails}
use Rattle.node_threads.proofs.Reporting.{ok_turned}
use Rattle.node_threads.proofs.Within.{always_ok}
use Rattle.node_threads.proofs.host.Host.close.Goals as goal

pub returns-in-Ok-clause-counted : goal.returns-in-Ok-clause-counted
returns-in-Ok-clause-counted g c =
    let all_back : length c.args.ports.items ≡ c.args.self = search (rules, c.len.ensures, c.if-len-self.false, c.self.view_is) in
    always_ok _ all_back

pub returns-in-Ok-clause-matches : goal.returns-in-Ok-clause-matches
returns-in-Ok-clause-matches g c =
    ok_turned _ _ c.hand_back.result c.hand_back.ensures.matches
    (λ closed matches. record { before = _; outlets = _; left = c.in-Ok.ensures; matches = matches })

pub returns-in-Ok-clause-err : goal.returns-in-Ok-clause-err
returns-in-Ok-clause-err g c =
    let all_back : length c.args.ports.items ≡ c.args.self = search (rules, c.len.ensures, c.if-len-self.false, c.self.view_is) in
    fails g.C.NodeCore.starts g.C.NodeCore.steps c.args.self c.args.ports.items
    c.args.workers.items _ _ all_back c.in-Ok.ensures c.hand_back.result c.hand_back.ensures.err
