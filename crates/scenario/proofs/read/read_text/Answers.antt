-- The bytes that were read are those of the input, up to the limit.
use Rattle.std.proofs.Common.{MutBor, ap}
use Rattle.scenario.proofs.Inputs.{first_bytes}
use Rattle.scenario.proofs.read.read_text.Goals as goal

pub returns-clause-text : goal.returns-clause-text
returns-clause-text g c =
    first_bytes _ _ _ _ _ _
    (ap (λ (r : MutBor g.row.R.Denot). g.R.Read.remaining r.now) c.take-start.ensures.inner)
    c.take-start.ensures.limit c.new-text.ensures.items c.in_ok-read_to_end.ensures.bytes
