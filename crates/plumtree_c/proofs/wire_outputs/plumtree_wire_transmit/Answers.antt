use Rattle.std.proofs.Common.{◌≡◌, ◌<◌, [], MatchBool, length, rules, subst}
use Rattle.plumtree_c.specs.Wire.{Offers, WireState, bytes_for}
use Rattle.plumtree_c.proofs.wire_outputs.plumtree_wire_transmit.Goals as goal

pub returns-clause-done : goal.returns-clause-done
returns-clause-done c done =
    let same : c.deref.result.now ≡ c.in-Ok-take.wire.value = search rules in
    let offers = subst (λ (wire : WireState). Offers c.in-Ok.name c.transmit-waits.new.pieces wire) same c.transmit-waits.ensures.offers in
    record {
      wire = c.in-Ok-take.wire.value;
      has = c.in-Ok-take.ensures.ok;
      holds = subst (λ name. Offers name c.transmit-waits.new.pieces c.in-Ok-take.wire.value) c.in-Ok.ensures.ok offers;
    }

pub returns-then-not-waits-clause-none : goal.returns-then-not-waits-clause-none
returns-then-not-waits-clause-none c none =
    let same : c.deref.result.now ≡ c.in-Ok-take.wire.value = search rules in
    let its : c.in-Ok.name ≡ c.args.name.now = c.in-Ok.ensures.ok in
    let empty : bytes_for c.deref.result.now c.in-Ok.name ≡ [] =
    subst (λ b. MatchBool b (0 < length (bytes_for c.deref.result.now c.in-Ok.name)) (bytes_for c.deref.result.now c.in-Ok.name ≡ []))
    c.if-not-waits.true c.transmit-waits.ensures.waits in
    record {
      wire = c.in-Ok-take.wire.value;
      has = c.in-Ok-take.ensures.ok;
      holds =
          subst (λ name. bytes_for c.in-Ok-take.wire.value name ≡ []) its
          (subst (λ (wire : WireState). bytes_for wire c.in-Ok.name ≡ []) same empty);
    }
