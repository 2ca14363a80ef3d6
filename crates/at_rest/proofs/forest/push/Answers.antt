-- The list of the delivery's message is one branch longer, or new.
use Rattle.std.proofs.Common.{◌≡◌, ◌∙◌, List, [], ◌∷◌, ◌++◌, ap, refl, subst, sym}
use Rattle.std.specs.Map.{lookup}
use Rattle.std.specs.Option.{IsSome, option_copied_mut}
use Rattle.std.specs.Prelude.{Some, None, unwrap_or}
use Rattle.node_names.specs.Same.{same_id}
use Rattle.node_names.specs.declared.ids.MsgId.{MsgId}
use Rattle.protocol.specs.Delivery.{Delivery}
use Rattle.at_rest.specs.Forest.{branches_at}
use Rattle.at_rest.specs.Tree.{branches_from}
use Rattle.at_rest.specs.declared.branch.Branch.{Branch}
use Rattle.at_rest.proofs.Forests.{listed-more, on-ok-weaken}
use Rattle.at_rest.proofs.forest.push.Goals as goal

pub returns-in-Some : goal.returns-in-Some
returns-in-Some g c =
    let old : List (MsgId × List Branch) = c.args.lists.now.entries in
    let new : List (MsgId × List Branch) = (c.get_mut.follows.lender c.push.new.self).entries in
    let branch : Branch = record { node = c.delivery.inside.node; parent = c.args.parent.now } in
    let had : Some c.in-Some.list.now ≡ lookup (same_id c.delivery.inside.id) old = sym (ap option_copied_mut c.in-Some.is) ∙ c.get_mut.ensures.value in
    let updates = c.get_mut.follows.holds c.push.new.self in
    let Longer : Delivery → Type 0 = λ d. (id : MsgId) → branches_at id new ≡ branches_at id old ++ branches_from id c.args.parent.now (d ∷ []) in
    on-ok-weaken c.push.result _ _
    (λ pushed. subst Longer c.delivery.view_is (listed-more old new
    (record { node = c.delivery.inside.node; id = c.delivery.inside.id; payload = c.delivery.inside.payload })
    c.args.parent.now c.push.new.self
    (updates.3 (subst IsSome had refl)).0
    (pushed ∙ ap (λ o. unwrap_or o [] ++ branch ∷ []) had)))
    c.push.ensures.ok

pub returns-in_ok-insert-in-None : goal.returns-in_ok-insert-in-None
returns-in_ok-insert-in-None g c =
    let old : List (MsgId × List Branch) = c.args.lists.now.entries in
    let new : List (MsgId × List Branch) = c.insert.new.self.entries in
    let branch : Branch = record { node = c.delivery.inside.node; parent = c.args.parent.now } in
    let had : None ≡ lookup (same_id c.delivery.inside.id) old = sym (ap option_copied_mut c.in-None.is) ∙ c.get_mut.ensures.value in
    let updates : (q : MsgId) → lookup (same_id q) new ≡ _ = rw c.get_mut.follows.holds-at-none at c.in_ok-insert-in-None.ensures.updates.0 in
    let pushed = c.in_ok-push-in-None.ensures.ok ∙ ap (λ (bs : List Branch). bs ++ branch ∷ []) c.new-list.ensures in
    let Longer : Delivery → Type 0 = λ d. (id : MsgId) → branches_at id new ≡ branches_at id old ++ branches_from id c.args.parent.now (d ∷ []) in
    subst Longer c.delivery.view_is (listed-more old new
    (record { node = c.delivery.inside.node; id = c.delivery.inside.id; payload = c.delivery.inside.payload })
    c.args.parent.now c.push-in-None.new.self updates
    (pushed ∙ ap (λ o. unwrap_or o [] ++ branch ∷ []) had))
