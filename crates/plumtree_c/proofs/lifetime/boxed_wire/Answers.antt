use Rattle.std.proofs.Common.{◌≡◌, map, rules, subst, sym}
use Rattle.std.proofs.lemmas.Result.{IfOk-weaker}
use Rattle.plumtree_c.specs.Plain.{contact_of, name_of}
use Rattle.plumtree_c.specs.Wire.{WireStarts}
use Rattle.plumtree_c.proofs.lifetime.boxed_wire.Goals as goal

pub returns : goal.returns
returns c =
    let core = c.args.limits.core in
    let peers = map name_of c.args.peers.now in
    let contact = contact_of c.args.contact.now in
    let slice : c.as_slice.result.now ≡ peers = search rules in
    let starts : WireStarts c.args.me core c.args.limits.waiting peers contact c.in_ok-wire.wire =
    subst (λ it. WireStarts c.args.me core c.args.limits.waiting peers it c.in_ok-wire.wire) c.in_ok-contact.ensures
    (subst (λ it. WireStarts c.args.me core c.args.limits.waiting it c.in_ok-contact.contact c.in_ok-wire.wire) slice c.in_ok-wire.ensures) in
    IfOk-weaker c.boxed.result (λ made. made.value ≡ c.in_ok-wire.wire) (λ made. WireStarts c.args.me core c.args.limits.waiting peers contact made.value)
    (λ made is. subst (λ wire. WireStarts c.args.me core c.args.limits.waiting peers contact wire) (sym is) starts) c.boxed.ensures
