-- The shown ones of all messages are drawn.
use Rattle.std.proofs.Common.{◌∙◌, List, ap, subst}
use Rattle.std.specs.Prelude.{IsPermutation, reverse}
use Rattle.node_names.specs.declared.ids.MsgId.{MsgId}
use Rattle.protocol.specs.Delivery.{Delivery}
use Rattle.world.specs.Entry.{Entry}
use Rattle.world.specs.History.{deliveries}
use Rattle.simulation.specs.Graph.{DrawsGroup}
use Rattle.simulation.specs.Trees.{broadcasts_of}
use Rattle.simulation.proofs.Oks.{on_ok_weaker}
use Rattle.simulation.proofs.outcome.draw_group.Goals as goal

pub returns : goal.returns
returns g c =
    let ids : List MsgId = c.in_ok-messages.messages.items in
    let From : List Delivery → Type 0 = λ ds. IsPermutation (broadcasts_of ds) ids in
    on_ok_weaker c.write_graph.result _ _ (λ drawing.
    let Draws : List MsgId → Type 0 = λ some. DrawsGroup c.args.group.now some drawing.0 in
    record {
      messages = ids;
      text = drawing.0;
      all_messages =
          subst From (c.in_ok-deliveries.ensures ∙ ap (λ (log : List Entry). deliveries (reverse log)) c.log.ensures)
          (rw c.as_slice.ensures.value at c.in_ok-messages.ensures.permutation);
      in_order = c.in_ok-messages.ensures.sorted;
      drawn = subst Draws (c.as_slice-3.ensures.value ∙ rw c.as_slice-2.ensures.value at c.in_ok-shown.ensures) drawing.1;
      written = drawing.2;
    }) c.write_graph.ensures
