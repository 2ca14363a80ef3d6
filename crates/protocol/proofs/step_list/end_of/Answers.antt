use Rattle.std.proofs.Common.{sym, arith}
use Rattle.protocol.proofs.Segments.{ends_at}
use Rattle.protocol.proofs.step_list.end_of.Goals as goal

pub overflow_add-result : goal.overflow_add-result
overflow_add-result g c =
    let e = ends_at c.args.parts.now c.in-Some.part.now c.requires.abut (sym c.in-Some.ensures.value) in
    omega (arith, e, c.first.ensures, c.len.ensures, c.requires.bound)

pub returns-in-Some : goal.returns-in-Some
returns-in-Some g c =
    let e = ends_at c.args.parts.now c.in-Some.part.now c.requires.abut (sym c.in-Some.ensures.value) in omega (arith, e, c.first.ensures, c.len.ensures)
