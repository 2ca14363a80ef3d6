use Rattle.std.proofs.Common.{option_copied}
use Rattle.std.proofs.lemmas.Result.{IfOk-weaker}
use Rattle.node_threads.proofs.Stripping.{after_link, after_link_differing}
use Rattle.node_threads.proofs.cell.remainder.strip_text.Goals as goal

pub returns-in_default : goal.returns-in_default
returns-in_default g c =
    after_link_differing _ c.args.lost c.args.trace.now c.args.peer.now c.args.opened _ c.opening_of.ensures (rw c.in_default.is at c.in_ok-rest.ensures)

pub returns : goal.returns
returns g c =
    IfOk-weaker _ _ _
    (λ left rest. after_link _ c.args.lost c.args.trace.now c.args.peer.now c.args.opened _ c.opening_of.ensures _
    (option_copied left) (rw c.in-Some.is at c.in_ok-rest.ensures) rest)
    c.strip_steps.ensures
