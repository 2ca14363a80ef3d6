-- The word, the counts and the end of the line.
use Rattle.std.specs.Prelude.{codes}
use Rattle.std.proofs.lemmas.Result.{on_ok_weaker}
use Rattle.trace_text.proofs.Texts.{four}
use Rattle.trace_text.proofs.summary.push_kinds.Goals as goal

pub returns : goal.returns
returns g c =
    on_ok_weaker c.push_end.result
    (λ told. four _ _ _ _ _ (codes "packets") _ _ (codes "\n") c.in_ok-push_str.ensures.bytes c.in_ok-push_membership.ensures c.in_ok-push_gossip.ensures told)
    c.push_end.ensures
