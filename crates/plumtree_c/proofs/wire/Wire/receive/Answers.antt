use Rattle.std.proofs.Common.{◌≡◌, ◌⊎◌, List, ℕ, ap, drop, inl, inr, refl, subst}
use Rattle.std.proofs.lemmas.Result.{on_err_weaker, on_ok_weaker}
use Rattle.node_names.specs.NodeName.{Name}
use Rattle.protocol.specs.Delivery.{Delivery}
use Rattle.node_names.specs.declared.dice.Dice.{Dice}
use Rattle.node_core.specs.declared.news.News.{News}
use Rattle.wire_node.specs.Node.{NodeState}
use Rattle.plumtree_c.specs.Wire.{Does, HearsAll, HearsSome, WireState}
use Rattle.plumtree_c.proofs.wire.Wire.receive.Goals as goal

-- with what the caller has still to get
abbrev holding : NodeState → List Delivery → List Name → List News → WireState
holding node deliveries lost news = record { node = node; deliveries = deliveries; lost = lost; news = news }

refused : (old new : NodeState) (deliveries : List Delivery) (lost : List Name) (news : List News) (number : ℕ) (bytes : List ℕ) (dice : Dice)
    → HearsSome number bytes dice old new ⊎ (new ≡ old)
    → Does (HearsSome number bytes dice) (holding old deliveries lost news) (holding new deliveries lost news)
    ⊎ (holding new deliveries lost news ≡ holding old deliveries lost news)
refused old new deliveries lost news number bytes dice over = elim over [
  | inl some ↦ inl (record { done = some; deliveries = refl; lost = refl; news = refl })
  | inr same ↦ inr (ap (λ (node : NodeState). holding node deliveries lost news) same)
]

pub returns-clause-ok : goal.returns-clause-ok
returns-clause-ok c =
    let held = c.self.inside in
    let after : WireState = holding c.receive_all.new.node (drop held.given held.deliveries) (drop held.told held.lost) (drop held.heard held.news) in
    on_ok_weaker c.receive_all.result
    (λ hears. subst (λ (old : WireState). Does (HearsAll c.args.number c.args.bytes.now c.args.dice.now) old after) c.self.view_is
    (record { done = hears; deliveries = refl; lost = refl; news = refl })) c.receive_all.ensures.ok

pub returns-clause-err : goal.returns-clause-err
returns-clause-err c =
    let held = c.self.inside in
    let after : WireState = holding c.receive_all.new.node (drop held.given held.deliveries) (drop held.told held.lost) (drop held.heard held.news) in
    on_err_weaker c.receive_all.result
    (λ over. subst (λ (old : WireState). Does (HearsSome c.args.number c.args.bytes.now c.args.dice.now) old after ⊎ (after ≡ old)) c.self.view_is
    (refused held.node c.receive_all.new.node (drop held.given held.deliveries) (drop held.told held.lost)
    (drop held.heard held.news) c.args.number c.args.bytes.now c.args.dice.now over))
    c.receive_all.ensures.err
