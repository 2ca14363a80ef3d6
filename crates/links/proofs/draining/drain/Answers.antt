use Rattle.std.proofs.Common.{◌+◌, ◌≤◌, [], ◌∷◌, ◌++◌, Ok, length, take, refl, ap, subst, ◌∙◌, append_assoc, arith}
use Rattle.std.specs.Io.KnownBytes.{Appends}
use Rattle.std.proofs.lemmas.List.{length-append}
use Rattle.links.proofs.Writing.{drained_on, drained_in_part}
use Rattle.links.proofs.draining.drain.Goals as goal

pub returns-then-written-len-clause-items : goal.returns-then-written-len-clause-items
returns-then-written-len-clause-items g c =
    let gave = c.in-Ok-Some.ensures.some c.in-Ok-Some.item (ap (λ o. Ok o) c.in-Ok-Some.field-0-is) in
    let size = ap length c.as_slice.ensures in
    let written =
    subst (λ t. Appends (g.W.Write.contents c.loop.writer) (g.W.Write.contents c.put-written.new.writer) (take c.put-written.result t))
    c.as_slice.ensures c.put-written.ensures.written in
    drained_in_part _ _ _ _ _ _ _ c.loop.invariant.0 c.in-Ok-Some.item c.loop.bytes c.put-written.result
    (gave.0 ∙ ap (λ t. t ++ c.in-Ok-Some.item ∷ []) c.loop.invariant.1 ∙ append_assoc _ c.loop.invariant.0 (c.in-Ok-Some.item ∷ []))
    (omega (arith, c.loop.invariant.2)) c.loop.invariant.3 written (omega (arith, c.len.ensures.value)) c.loop.invariant.4

pub returns-then-written-len-clause-no_fault : goal.returns-then-written-len-clause-no_fault
returns-then-written-len-clause-no_fault g c other = absurd (other (c.loop.bytes + c.put-written.result) refl)

pub loop-preserved : goal.loop-preserved
loop-preserved g c =
    let gave = c.in-Ok-Some.ensures.some c.in-Ok-Some.item (ap (λ o. Ok o) c.in-Ok-Some.field-0-is) in
    let size = ap length c.as_slice.ensures in
    let few : c.put-written.result ≤ length c.in-Ok-Some.item = omega (arith, size, c.put-written.ensures.some) in
    let whole : length c.in-Ok-Some.item ≤ c.put-written.result = omega (arith, c.len.ensures.value) in
    let written =
    subst (λ t. Appends (g.W.Write.contents c.loop.writer) (g.W.Write.contents c.put-written.new.writer) (take c.put-written.result t))
    c.as_slice.ensures c.put-written.ensures.written in
    let on =
    drained_on _ _ _ c.loop.invariant.0 c.in-Ok-Some.item c.loop.bytes c.put-written.result c.loop.invariant.3 written few whole c.loop.invariant.4 in (
      c.loop.invariant.0 ++ c.in-Ok-Some.item ∷ [],
      gave.0 ∙ ap (λ t. t ++ c.in-Ok-Some.item ∷ []) c.loop.invariant.1 ∙ append_assoc _ c.loop.invariant.0 (c.in-Ok-Some.item ∷ []),
      omega (arith, length-append c.loop.invariant.0 (c.in-Ok-Some.item ∷ []), c.loop.invariant.2),
      on.0,
      on.1,
      omega (arith, gave.1, few, c.loop.invariant.5),
      c.put-written.ensures.all (omega (arith, few, whole, size)) ∙ c.loop.invariant.6,
    )
