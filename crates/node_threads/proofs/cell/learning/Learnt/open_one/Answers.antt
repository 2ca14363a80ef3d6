use Rattle.std.proofs.Common.{◌≡◌, ◌∙◌, ◌<◌, ◌++◌, ◌∷◌, [], ap, arith, length, rules, subst, sym}
use Rattle.node_names.specs.Same.{has_name}
use Rattle.node_threads.specs.Learning.{Learnt, OpensOne, outlet_since}
use Rattle.node_threads.proofs.cell.learning.Learnt.open_one.Goals as goal

pub put_last-requires-clause-absent : goal.put_last-requires-clause-absent
put_last-requires-clause-absent g c =
    let held : c.contains.result ≡ has_name c.self.inside.names.keys c.args.name = c.contains.ensures in
    ap (λ names. has_name names c.args.name) c.reserve_one.ensures.names ∙ sym held ∙ c.if-contains.false

pub returns-clause-opened : goal.returns-clause-opened
returns-clause-opened g c = λ _.
    let before : Learnt =
    record { ring = c.self.inside.ring; most = c.self.inside.most; names = c.self.inside.names.keys; outlets = c.self.inside.outlets.items } in
    let held : c.contains.result ≡ has_name c.self.inside.names.keys c.args.name = c.contains.ensures in
    let count = c.len.ensures.len in
    let below = c.if-len-self.false in
    let fewer : length before.names < before.most = omega (arith, count, below) in
    let names : c.put_last.new.names.keys ≡ before.names ++ c.args.name ∷ [] =
    c.put_last.ensures ∙ ap (λ ns. ns ++ c.args.name ∷ []) c.reserve_one.ensures.names in
    let pushed : c.push.new.self.items ≡ c.reserve_one.new.outlets.items ++ c.in-Some.outlet ∷ [] = search rules in
    let outlets : c.push.new.self.items ≡ before.outlets ++ outlet_since c.args.since c.args.name ∷ [] =
    pushed
    ∙ ap (λ outlet. c.reserve_one.new.outlets.items ++ outlet ∷ []) c.in-Some.ensures.outlet
    ∙ ap (λ os. os ++ outlet_since c.args.since c.args.name ∷ []) c.reserve_one.ensures.outlets in
    let after : Learnt = record { ring = c.self.inside.ring; most = c.self.inside.most; names = c.put_last.new.names.keys; outlets = c.push.new.self.items } in
    let opened : OpensOne c.args.since c.args.cell.now before c.args.name c.open_fitting.new.self after = record {
      may_open = record { not_held = sym held ∙ c.if-contains.false; fewer = fewer; fits = c.in-Some.ensures.open };
      linked = c.in-Some.ensures.linked;
      kept = λ i. record { ring = c.self.inside.ring; most = c.self.inside.most; names = names i; outlets = outlets i };
    } in
    subst (λ learnt. OpensOne c.args.since c.args.cell.now learnt c.args.name c.open_fitting.new.self after) c.self.view_is opened
