use Rattle.std.proofs.Common.{◌∙◌, ◌++◌, ◌∷◌, [], ap, sym}
use Rattle.node_threads.specs.Applying.{mail_for}
use Rattle.node_threads.proofs.Lettering.{mail_on}
use Rattle.node_threads.proofs.cell.posting.mail_for.Goals as goal

pub loop-send-preserved : goal.loop-send-preserved
loop-send-preserved g c =
    c.in_ok-add_mail.ensures
    ∙ ap (λ mail. mail ++ mail_for (c.send-item.result ∷ []) c.args.peer.now) c.loop-send.invariant
    ∙ sym (mail_on c.args.sends.now c.loop-send.send-index c.send-item.result c.args.peer.now c.loop-send-test.true c.send-item.is)
