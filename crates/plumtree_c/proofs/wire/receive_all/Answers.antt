use Rattle.std.proofs.Common.{ap, inl, inr, refl, subst}
use Rattle.wire_node.specs.Node.{Hears}
use Rattle.wire_node.specs.Receiving.{IsPartial}
use Rattle.wire_node.specs.declared.connections.ReceiveError.{ReceiveError}
use Rattle.node_names.specs.declared.dice.Dice.{Dice}
use Rattle.std.specs.Prelude.{length}
use Rattle.plumtree_c.specs.Stirring.{stirred}
use Rattle.plumtree_c.proofs.wire.receive_all.Goals as goal

pub returns-in-Ok-clause-ok : goal.returns-in-Ok-clause-ok
returns-in-Ok-clause-ok c =
    let left = stirred c.receive.new.source.next in
    let all =
    subst (λ (dice : Dice). (hears : Hears c.args.node.now c.args.number c.args.bytes.now (stirred dice) (length c.args.bytes.now) c.receive.new.self left)
    × IsPartial hears.link'.left) c.new-source.ensures c.in-Ok.ensures.ok in
    record { left = left; hears = all.0; partial = all.1 }

pub returns-in-NoConnection-clause-err : goal.returns-in-NoConnection-clause-err
returns-in-NoConnection-clause-err c = elim c.in-Err.ensures.err [
  | inl first ↦ inl (record {
    taken = c.in-Err.failed.taken;
    heard = c.receive.new.self;
    left = first.dealt;
    hears =
        subst (λ (dice : Dice). Hears c.args.node.now c.args.number c.args.bytes.now (stirred dice) c.in-Err.failed.taken c.receive.new.self first.dealt)
        c.new-source.ensures first.hears;
    ends = inl refl;
  })
  | inr same ↦ inr same.0
]

pub returns-in_default-clause-err : goal.returns-in_default-clause-err
returns-in_default-clause-err c = elim c.in-Err.ensures.err [
  | inl first ↦ inl (record {
    taken = c.in-Err.failed.taken;
    heard = c.receive.new.self;
    left = first.dealt;
    hears =
        subst (λ (dice : Dice). Hears c.args.node.now c.args.number c.args.bytes.now (stirred dice) c.in-Err.failed.taken c.receive.new.self first.dealt)
        c.new-source.ensures first.hears;
    ends = c.close.ensures;
  })
  | inr same ↦ absurd (c.in_default.not-NoConnection (ap (λ (failed : ReceiveError). failed.error) same.1))
]
