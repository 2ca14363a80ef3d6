-- The kind, and then the word of the answer.
use Rattle.std.proofs.Common.{refl}
use Rattle.std.specs.Prelude.{codes}
use Rattle.std.proofs.lemmas.Result.{on_ok_weaker}
use Rattle.trace_text.proofs.Texts.{joined}
use Rattle.trace_text.proofs.packets.push_reply.Goals as goal

pub returns : goal.returns
returns g c =
    on_ok_weaker c.push_reply_word.result (λ told. joined _ _ _ (codes "NEIGHBORREPLY ") _ _ told c.in_ok-push_str.ensures.bytes refl) c.push_reply_word.ensures
