use Rattle.std.proofs.Common.{subst, sym}
use Rattle.frames.specs.Answer.{IsFaultOf}
use Rattle.frames.specs.Cutting.{Cuts}
use Rattle.frames.specs.Grammar.{IsSpelling}
use Rattle.frames.specs.Reading.{read}
use Rattle.frames.specs.declared.TheConstants.{MAX_FRAME}
use Rattle.std.proofs.Common.{take}
use Rattle.std.proofs.Common.{length, ◌<◌}
use Rattle.frames.proofs.BodyFaults.{few_left, short_read}
use Rattle.frames.proofs.Streams.{cuts_from}
use Rattle.frames.proofs.cutter.Cutter.next.Goals as goal

pub returns-in-Ok-clause-next : goal.returns-in-Ok-clause-next
returns-in-Ok-clause-next g c =
    subst (Cuts c.in-Ok.frame c.args.self.now) (sym c.forget-self-inside.ensures.left)
    (cuts_from c.in-Ok.frame c.args.self.now c.self.inside.buffer.items c.self.inside.given c.in-Ok.len (sym c.self.view_is)
    (subst (λ t. IsSpelling c.in-Ok.frame (take c.in-Ok.len t)) c.rest.ensures c.in-Ok.ensures.found.0))

pub returns-in-Err-Short-clause-few : goal.returns-in-Err-Short-clause-few
returns-in-Err-Short-clause-few g c e =
    subst (λ t. length t < MAX_FRAME) c.rest.ensures (few_left c.rest.result.now
    (short_read c.rest.result.now (subst (λ d. IsFaultOf d (read c.rest.result.now)) c.in-Err-Short.field-0-is c.in-Err-Short.ensures.exact)))
