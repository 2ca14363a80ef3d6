use Rattle.std.proofs.Common.{◌≡◌, ◌<◌, ◌≤◌, arith, length, map, take, subst, sym, ◌∙◌}
use Rattle.std.proofs.Math.Nat.{min-eq_right, min-le_left, min-le_right}
use Rattle.std.proofs.lemmas.List.{length-set, take_all}
use Rattle.plumtree_c.specs.Plain.{name_of}
use Rattle.plumtree_c.proofs.Names.{names_more}
use Rattle.plumtree_c.proofs.room.put_names.Goals as goal

pub loop-i-preserved : goal.loop-i-preserved
loop-i-preserved c =
    let places = length c.args.room.now in
    let names = length c.args.names.now in
    let few : c.min-places.result ≤ places = subst (λ n. n ≤ places) (sym c.min-places.ensures) (min-le_left places names) in
    let no_more : c.min-places.result ≤ names = subst (λ n. n ≤ names) (sym c.min-places.ensures) (min-le_right places names) in
    let in_room : c.loop-i.i < length c.loop-i.room = omega (arith, c.loop-i-test.true, few, c.loop-i.invariant.0) in
    let in_names : c.loop-i.i < names = omega (arith, c.loop-i-test.true, no_more) in (
      length-set c.loop-i.room c.loop-i.i c.of.result ∙ c.loop-i.invariant.0,
      names_more c.loop-i.room c.args.names.now c.loop-i.i c.of.result c.index-names-i.result in_room in_names c.of.ensures
          (sym c.index-names-i.is) c.loop-i.invariant.1,
    )

pub returns-clause-names : goal.returns-clause-names
returns-clause-names c fits =
    let all = c.min-places.ensures ∙ min-eq_right fits in
    let at : c.loop-i.i ≡ length c.args.names.now = omega (arith, c.loop-i-test.false, c.loop-i.auto.i-end, all) in
    subst (λ n. map name_of (take n c.loop-i.room) ≡ take n c.args.names.now) at c.loop-i.invariant.1
    ∙ take_all (length c.args.names.now) c.args.names.now (omega arith)
