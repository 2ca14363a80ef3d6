use Rattle.std.proofs.Common.{◌≡◌, Ok, arith, ap, sym, ◌∙◌, subst, length, ◌≤◌}
use Rattle.handshake.specs.Reading.{hello}
use Rattle.handshake.proofs.HelloAgrees.{rest_fits}
use Rattle.handshake.proofs.decoding.first.Goals as goal

pub overflow_sub-result : goal.overflow_sub-result
overflow_sub-result c =
    let read : hello c.args.bytes.now ≡ Ok (c.in_ok-hello.hello, c.hello.new.parts) = ap hello (sym c.new-parts.ensures) ∙ c.in_ok-hello.ensures in
    subst (λ n. n ≤ length c.args.bytes.now) (sym c.left.ensures) (rest_fits _ _ _ (λ i. omega (arith, c.type_inv.bytes i)) read)
