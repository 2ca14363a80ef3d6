-- What was delivered is sorted and written, and then the lines of each message.
use Rattle.std.proofs.Common.{◌∙◌, ap, map, refl, subst, List}
use Rattle.std.specs.Prelude.{IsPermutation, reverse}
use Rattle.node_names.specs.declared.ids.MsgId.{MsgId}
use Rattle.protocol.specs.Delivery.{Delivery}
use Rattle.world.specs.Entry.{Entry}
use Rattle.world.specs.History.{deliveries}
use Rattle.simulation.specs.Trees.{TellsTrees}
use Rattle.simulation.proofs.Texts.{written}
use Rattle.simulation.proofs.outcome.print.Goals as goal

pub returns : goal.returns
returns g c =
    let (trees, told, appended) = c.in_ok-write_trees.ensures in
    let lines : List Delivery = map (λ d. d.now) c.sort.new.deliveries.items in
    let OfIds : List MsgId → Type 0 = λ ids. TellsTrees g.C.Core.state g.C.Note.Wire.content c.args.group.now ids trees in
    let From : List Delivery → Type 0 = λ ds. IsPermutation ds lines in
    record {
      lines = lines;
      messages = c.in_ok-messages.messages.items;
      trees = trees;
      complete = subst From (c.in_ok-deliveries.ensures ∙ ap (λ (log : List Entry). deliveries (reverse log)) c.log.ensures) c.in_ok-sort.ensures.permutation;
      sorted = c.in_ok-sort.ensures.sorted;
      all_messages = rw c.as_slice.ensures.value at c.in_ok-messages.ensures.permutation;
      in_order = c.in_ok-messages.ensures.sorted;
      told = subst OfIds c.as_slice-3.ensures.value told;
      written = written _ _ _ _ _ _ (rw c.as_slice-2.ensures.value at c.in_ok-write_lines.ensures) appended refl;
    }
