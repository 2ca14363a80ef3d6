use Rattle.std.proofs.Common.{◌∙◌, ◌++◌, ◌∷◌, [], ap, sym}
use Rattle.std.proofs.lemmas.List.Sums.{fold_more}
use Rattle.node_threads.specs.Applying.{mail_for}
use Rattle.node_threads.specs.Letters.{with_lacking}
use Rattle.node_threads.proofs.Lettering.{mail_on}
use Rattle.node_threads.proofs.cell.posting.letters_for.Goals as goal

pub loop-send-preserved : goal.loop-send-preserved
loop-send-preserved g c =
    let names = c.args.names.now.keys in (
      λ peer linked. c.in_ok-address.ensures.mail peer linked
          ∙ ap (λ mail. mail ++ mail_for (c.send-item.result ∷ []) peer) (c.loop-send.invariant.0 peer linked)
          ∙ sym (mail_on c.args.sends.now c.loop-send.send-index c.send-item.result peer c.loop-send-test.true c.send-item.is),
      c.in_ok-address.ensures.addressed c.loop-send.invariant.1,
      c.in_ok-address.ensures.lacking
          ∙ ap (λ lacking. with_lacking names lacking c.send-item.result) c.loop-send.invariant.2
          ∙ ap (with_lacking names _) c.send-item.is
          ∙ sym (fold_more (with_lacking names) [] c.args.sends.now c.loop-send.send-index c.send-item.result c.loop-send-test.true),
    )
