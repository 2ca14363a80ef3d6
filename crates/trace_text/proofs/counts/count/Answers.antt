-- The message has one more than it had.
use Rattle.std.proofs.Common.{◌+◌, arith}
use Rattle.trace_text.proofs.Countings.{counted}
use Rattle.trace_text.proofs.counts.count.Goals as goal

pub returns : goal.returns
returns g c =
    counted c.args.counts.now.entries c.insert.new.self.entries c.args.id.now (c.count_of-count.result + 1) (omega arith) c.in_ok-insert.ensures.updates.0
