use Rattle.std.proofs.Common.{◌≡◌, map, rules, subst, sym}
use Rattle.std.proofs.lemmas.Result.{IfOk-weaker}
use Rattle.plumtree_c.specs.Plain.{contact_of, limits_of, name_of}
use Rattle.plumtree_c.specs.State.{Starts}
use Rattle.plumtree_c.proofs.lifetime.boxed_node.Goals as goal

pub returns : goal.returns
returns c =
    let limits = limits_of c.args.limits.now in
    let peers = map name_of c.args.peers.now in
    let contact = contact_of c.args.contact.now in
    let slice : c.as_slice-2.result.now ≡ peers = search rules in
    let starts : Starts c.args.me limits peers contact c.in_ok-node.node =
    subst (λ it. Starts c.args.me limits peers it c.in_ok-node.node) c.in_ok-contact.ensures
    (subst (λ it. Starts c.args.me limits it c.in_ok-contact.contact c.in_ok-node.node) slice
    (subst (λ it. Starts c.args.me it c.as_slice-2.result.now c.in_ok-contact.contact c.in_ok-node.node) c.in_ok-limits.ensures c.in_ok-node.ensures)) in
    IfOk-weaker c.boxed.result (λ made. made.value ≡ c.in_ok-node.node) (λ made. Starts c.args.me limits peers contact made.value)
    (λ made is. subst (λ node. Starts c.args.me limits peers contact node) (sym is) starts) c.boxed.ensures
