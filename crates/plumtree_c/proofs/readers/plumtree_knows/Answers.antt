use Rattle.std.proofs.Common.{◌≡◌, arith, false, rules, subst, true}
use Rattle.std.proofs.lemmas.Grind.{common_steps}
use Rattle.node_core.specs.Plum.{plum_state}
use Rattle.node_names.specs.declared.ids.MsgId.{MsgId}
use Rattle.plumtree_c.specs.Slots.{HasCore}
use Rattle.plumtree_c.proofs.readers.plumtree_knows.Goals as goal

pub returns-then-has_bytes-clause-done : goal.returns-then-has_bytes-clause-done
returns-then-has_bytes-clause-done c done =
    subst (λ (id : MsgId). HasCore c.args.slot.now.held.value (λ core. (plum_state core).has id ≡ true))
    c.in-Ok.ensures (c.knows_of.ensures.done (first_of (search rules, grind (arith, common_steps))))

pub returns-clause-done : goal.returns-clause-done
returns-clause-done c done =
    subst (λ (id : MsgId). HasCore c.args.slot.now.held.value (λ core. (plum_state core).has id ≡ true))
    c.in-Ok.ensures (c.knows_of-2.ensures.done (first_of (search rules, grind (arith, common_steps))))

pub returns-then-has_bytes-clause-none : goal.returns-then-has_bytes-clause-none
returns-then-has_bytes-clause-none c none =
    subst (λ (id : MsgId). HasCore c.args.slot.now.held.value (λ core. (plum_state core).has id ≡ false))
    c.in-Ok.ensures (c.knows_of.ensures.none (first_of (search rules, grind (arith, common_steps))))

pub returns-clause-none : goal.returns-clause-none
returns-clause-none c none =
    subst (λ (id : MsgId). HasCore c.args.slot.now.held.value (λ core. (plum_state core).has id ≡ false))
    c.in-Ok.ensures (c.knows_of-2.ensures.none (first_of (search rules, grind (arith, common_steps))))
