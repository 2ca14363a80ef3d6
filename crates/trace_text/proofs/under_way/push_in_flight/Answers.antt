-- The words, the packet and the end of the line.
use Rattle.std.specs.Prelude.{codes}
use Rattle.std.proofs.lemmas.Result.{on_ok_weaker}
use Rattle.trace_text.proofs.Texts.{three}
use Rattle.trace_text.proofs.under_way.push_in_flight.Goals as goal

pub returns : goal.returns
returns g c =
    on_ok_weaker c.push_end.result
    (λ told. three _ _ _ _ (codes "  in flight ") _ (codes "\n") c.in_ok-push_str.ensures.bytes c.in_ok-push_packet.ensures told) c.push_end.ensures
