-- The kinds, and then the messages.
use Rattle.std.proofs.Common.{◌∙◌, ◌++◌, List, ap, refl, string_bytes, subst}
use Rattle.std.proofs.lemmas.Result.{on_ok_weaker}
use Rattle.world.specs.declared.packet.Packet.{Packet}
use Rattle.frames.specs.Frame.{Frame}
use Rattle.trace_text.specs.Counts.{kinds_line, TellsSpreads}
use Rattle.trace_text.proofs.Texts.{joined}
use Rattle.trace_text.proofs.summary.push_summary.Goals as goal

pub returns : goal.returns
returns g c =
    on_ok_weaker c.push_spreads.result (λ spread.
    let Of : List (Packet Frame) → Type 0 = λ sent. TellsSpreads sent c.args.ids.now spread.0 in (
      kinds_line c.args.world.now.group.sent ++ spread.0,
      record { spreads = spread.0; told = subst Of c.sent-2.ensures spread.1; written = refl },
      joined _ _ _ _ _ _ spread.2
          (c.in_ok-push_kinds.ensures ∙ ap (λ (sent : List (Packet Frame)). string_bytes c.args.text.now ++ kinds_line sent) c.sent.ensures) refl,
    )) c.push_spreads.ensures
