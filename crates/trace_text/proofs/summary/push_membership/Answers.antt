-- The seven counts, one after the other.
use Rattle.std.proofs.lemmas.Result.{on_ok_weaker}
use Rattle.trace_text.proofs.Texts.{seven}
use Rattle.trace_text.proofs.summary.push_membership.Goals as goal

pub returns : goal.returns
returns g c =
    on_ok_weaker c.push_kind-7.result
    (λ told. seven _ _ _ _ _ _ _ _ _ _ _ _ _ _ _ c.in_ok-push_kind.ensures c.in_ok-push_kind-2.ensures
    c.in_ok-push_kind-3.ensures c.in_ok-push_kind-4.ensures c.in_ok-push_kind-5.ensures c.in_ok-push_kind-6.ensures told)
    c.push_kind-7.ensures
