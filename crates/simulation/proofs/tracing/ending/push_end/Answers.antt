-- The end of a run is printed node by node and message by message.
use Rattle.std.proofs.Common.{◌∙◌, List, ap, refl, subst}
use Rattle.std.specs.Prelude.{IsPermutation, reverse}
use Rattle.node_names.specs.declared.ids.MsgId.{MsgId}
use Rattle.protocol.specs.Delivery.{Delivery}
use Rattle.world.specs.Entry.{Entry}
use Rattle.world.specs.History.{deliveries}
use Rattle.simulation.specs.Traced.{TellsMessage}
use Rattle.simulation.specs.Trees.{broadcasts_of}
use Rattle.simulation.specs.Turns.{InTurn}
use Rattle.simulation.proofs.Oks.{on_ok_weaker}
use Rattle.trace_text.proofs.Texts.{joined}
use Rattle.simulation.proofs.tracing.ending.push_end.Goals as goal

pub returns : goal.returns
returns g c =
    let (told, each, appended) = c.in_ok-push_messages.ensures in
    let ids : List MsgId = c.in_ok-messages.messages.items in
    let From : List Delivery → Type 0 = λ ds. IsPermutation (broadcasts_of ds) ids in
    let OfIds : List MsgId → Type 0 = λ some. InTurn (TellsMessage c.args.run.now) some told in
    on_ok_weaker c.push_summary.result _ _ (λ summed. (
      _,
      record {
        ids = ids;
        messages = told;
        summary = summed.0;
        all_messages =
            subst From (c.in_ok-deliveries.ensures ∙ ap (λ (log : List Entry). deliveries (reverse log)) c.log.ensures)
            (rw c.as_slice.ensures.value at c.in_ok-messages.ensures.permutation);
        in_order = c.in_ok-messages.ensures.sorted;
        told = subst OfIds c.as_slice-2.ensures.value each;
        written = refl;
      },
      joined _ _ _ _ _ _ summed.2 (joined _ _ _ _ _ _ appended c.in_ok-push_nodes.ensures refl) refl,
    )) c.push_summary.ensures
