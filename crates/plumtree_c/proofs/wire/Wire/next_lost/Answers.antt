use Rattle.std.proofs.lemmas.Option.{IfSome_then}
use Rattle.plumtree_c.specs.Plain.{name_of}
use Rattle.plumtree_c.specs.Wire.{Loses}
use Rattle.plumtree_c.specs.declared.plain.Name.{Name}
use Rattle.plumtree_c.proofs.Waits.{loses_on, no_lost_waits, none_both}
use Rattle.plumtree_c.proofs.wire.Wire.next_lost.Goals as goal

pub returns-clause-some : goal.returns-clause-some
returns-clause-some c =
    let old = c.args.self.now in
    let mid = c.refill_lost.new.self in
    let new = c.tell_first.new.self in
    IfSome_then c.tell_first.result
    {P = λ (name : Name). Loses (name_of name) mid new}
    {Q = λ (name : Name). Loses (name_of name) old new}
    c.tell_first.ensures.some
    (λ (name : Name) loses. loses_on old mid new (name_of name) c.refill_lost.ensures.same loses)

pub returns-clause-none : goal.returns-clause-none
returns-clause-none c =
    none_both c.tell_first.result
    (no_lost_waits c.args.self.now c.refill_lost.new.self c.tell_first.new.self c.refill_lost.ensures.same c.refill_lost.ensures.all)
    c.tell_first.ensures.none c.tell_first.ensures.empty
