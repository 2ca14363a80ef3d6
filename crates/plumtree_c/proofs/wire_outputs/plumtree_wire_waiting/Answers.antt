use Rattle.std.proofs.Common.{◌≡◌, rules, length, subst}
use Rattle.plumtree_c.specs.Wire.{bytes_for, WireState}
use Rattle.plumtree_c.proofs.wire_outputs.plumtree_wire_waiting.Goals as goal

pub returns-clause-done : goal.returns-clause-done
returns-clause-done c done =
    let same : c.deref.result.now ≡ c.in-Ok-take.wire.value = search rules in
    let counts = subst (λ (wire : WireState). c.waiting.result ≡ length (bytes_for wire c.in-Ok.name)) same c.waiting.ensures in
    record {
      wire = c.in-Ok-take.wire.value;
      has = c.in-Ok-take.ensures.ok;
      holds = subst (λ name. c.waiting.result ≡ length (bytes_for c.in-Ok-take.wire.value name)) c.in-Ok.ensures.ok counts;
    }
