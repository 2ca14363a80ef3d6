-- One delivery more, and then the order.
use Rattle.std.proofs.Common.{◌+◌, ◌∙◌, All, Bor, ap, Contains, List, subst, sym, take}
use Rattle.std.proofs.lemmas.List.{take_all}
use Rattle.std.proofs.lemmas.List.Elements.{All-same, All-weaker}
use Rattle.std.proofs.lemmas.List.Sorted.{Contains-permutation}
use Rattle.indexmap.specs.IndexSet.{insert_key}
use Rattle.node_names.specs.Same.{same_id, same_id-Decides}
use Rattle.node_names.specs.declared.ids.MsgId.{MsgId}
use Rattle.protocol.specs.Delivery.{Delivery}
use Rattle.simulation.proofs.Ranking.{all_inserted-more}
use Rattle.simulation.proofs.ranks.messages.Goals as goal

pub loop-delivery-preserved : goal.loop-delivery-preserved
loop-delivery-preserved g c =
    let Holds : List MsgId → Type 0 =
    λ keys. All (λ (d : Bor Delivery). Contains keys d.now.id) (take (c.loop-delivery.delivery-index + 1) c.args.deliveries.now) in
    subst Holds (sym (c.in_ok-add_message.ensures ∙ ap (λ (d : Bor Delivery). insert_key same_id c.loop-delivery.ids.keys d.now.id) c.delivery.view_is))
    (all_inserted-more same_id (λ x y. (same_id-Decides x y).0) (λ (d : Bor Delivery). d.now.id) c.args.deliveries.now c.loop-delivery.delivery-index
    c.delivery-item.result c.loop-delivery.ids.keys c.loop-delivery-test.true c.delivery-item.is c.loop-delivery.invariant)

pub returns-clause-all : goal.returns-clause-all
returns-clause-all g c =
    All-weaker (λ (d : Bor Delivery). Contains c.loop-delivery.ids.keys d.now.id)
    (λ (d : Bor Delivery). Contains c.sort.new.self.keys d.now.id)
    (λ d has. Contains-permutation c.loop-delivery.ids.keys c.sort.new.self.keys d.now.id c.in_ok-sort.ensures.reordered.0 has)
    c.args.deliveries.now
    (All-same (λ (d : Bor Delivery). Contains c.loop-delivery.ids.keys d.now.id) _ _ (sym (take_all _ _ c.loop-delivery-test.false)) c.loop-delivery.invariant)
