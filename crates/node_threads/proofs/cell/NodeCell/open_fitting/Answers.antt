use Rattle.std.proofs.Common.{◌≡◌, ◌∙◌, ◌≤◌, ap, arith, length, rules}
use Rattle.node_threads.specs.Opened.{mail_since}
use Rattle.node_threads.proofs.Links.{opened_linked}
use Rattle.node_threads.proofs.Made.{at_some}
use Rattle.node_threads.proofs.cell.NodeCell.open_fitting.Goals as goal

pub returns-clause-open : goal.returns-clause-open
returns-clause-open g c =
    let text : c.in_ok-mail.mail ≡ mail_since c.args.self.now c.args.name c.args.since = search rules in
    let long : c.len.result ≡ length (mail_since c.args.self.now c.args.name c.args.since) = c.len.ensures ∙ ap length text in
    let fits : length (mail_since c.args.self.now c.args.name c.args.since) ≤ c.args.ring = (let few = c.if-len-ring.false in omega (arith, long, few)) in
    at_some c.ok-2.result _ (opened_linked c.args.self.now c.args.name c.args.ring c.args.since fits)
