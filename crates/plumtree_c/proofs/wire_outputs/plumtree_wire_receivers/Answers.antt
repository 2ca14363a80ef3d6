use Rattle.std.proofs.Common.{◌≡◌, ◌∙◌, ℕ, arith, length, map, rules, subst, sym, take}
use Rattle.std.proofs.lemmas.Grind.{common_steps}
use Rattle.wire_node.specs.Waiting.{receivers_of}
use Rattle.plumtree_c.specs.Plain.{name_of}
use Rattle.plumtree_c.proofs.wire_outputs.plumtree_wire_receivers.Goals as goal

pub returns-clause-done : goal.returns-clause-done
returns-clause-done c done =
    let names = receivers_of c.in-Ok.wire.value.node.engine.machine.waiting in
    let its : c.as_slice.result.now ≡ names = first_of (search rules, grind (arith, common_steps)) in
    let long : c.len.result ≡ length c.as_slice.result.now = first_of (search rules, grind (arith, common_steps)) in
    record {
      wire = c.in-Ok.wire.value;
      has = c.in-Ok.ensures.ok;
      holds =
          subst (λ (n : ℕ). map name_of (take n c.put_names.new.room) ≡ names) (sym long)
          (c.put_names.ensures.names (omega (arith, long, c.if-length-room.false, c.put_names.ensures.length)) ∙ its);
    }
