use Rattle.std.proofs.Common.{ℕ, OnErr, map, subst, take}
use Rattle.wire_node.specs.Moving.{MovesAll, firing}
use Rattle.wire_node.specs.Ticking.{Asking, armed_of}
use Rattle.wire_node.proofs.asking.ask_for.Goals as goal

pub returns-clause-err : goal.returns-clause-err
returns-clause-err g c =
    let old = c.args.engine.now in
    subst
    (λ (a : Asking).
    OnErr c.ask_front.result ((n : ℕ) × MovesAll old (map (firing c.args.dice.now) (take n (armed_of old a.due))) c.ask_front.new.engine))
    c.asking.view_is c.ask_front.ensures.err
