use Rattle.std.proofs.Common.{◌≡◌, ◌∙◌, ◌∷◌, true, false, nat_eq, rules, sym, tests}
use Rattle.std.specs.Cmp.Lexicographic.{pointwise}
use Rattle.node_names.specs.Same.{same_name}
use Rattle.node_threads.specs.LinkText.{spelling}
use Rattle.node_threads.proofs.Stripping.{after_another, after_it, after_none_left, not_false}
use Rattle.node_threads.proofs.cell.remainder.strip_packet.Goals as goal

pub returns-in_default : goal.returns-in_default
returns-in_default g c = after_none_left _ _ c.in_default.ensures.cases

pub returns-then-not-branch : goal.returns-then-not-branch
returns-then-not-branch g c =
    let parts : c.args.given.now ≡ c.in-Some.first.now ∷ c.in-Some.rest.now = search rules in
    let goes : same_name c.args.send.now.0 c.args.peer.now ≡ true = not_false _ (sym c.ne.ensures ∙ c.if-ne.false) in
    let differs : pointwise nat_eq c.in-Some.first.now (spelling c.args.send.now.1) ≡ false = search (rules, tests) in
    after_another c.args.given.now c.in-Some.rest.now c.in-Some.first.now c.args.peer.now c.args.send.now parts goes differs

pub returns : goal.returns
returns g c =
    let parts : c.args.given.now ≡ c.in-Some.first.now ∷ c.in-Some.rest.now = search rules in
    let goes : same_name c.args.send.now.0 c.args.peer.now ≡ true = not_false _ (sym c.ne.ensures ∙ c.if-ne.false) in
    let same : pointwise nat_eq c.in-Some.first.now (spelling c.args.send.now.1) ≡ true = search (rules, tests) in
    after_it c.args.given.now c.in-Some.rest.now c.in-Some.first.now c.args.peer.now c.args.send.now parts goes same
