use Rattle.std.proofs.Common.{◌≡◌, ◌∙◌, ◌<◌, ◌≤◌, ◌++◌, ◌∷◌, ◌+◌, [], List, arith, drop, length, subst, sym, take}
use Rattle.std.proofs.lemmas.List.{drop-set-lt, drop_all, length-set, take_more_set}
use Rattle.node_names.specs.NodeName.{Name}
use Rattle.node_threads.specs.Cell.{Cell, IsPlace}
use Rattle.node_threads.specs.Learning.{Opens}
use Rattle.node_threads.proofs.LinkOpenings.{OpensOn, leaves_on, name_here, none_opened, opens_end, opens_on, past_it, still_within}
use Rattle.node_threads.proofs.cell.learning.open_unlinked.Goals as goal

pub loop-at-preserved-then-open_one : goal.loop-at-preserved-then-open_one
loop-at-preserved-then-open_one g c =
    let all : List Name = c.args.unlinked.items in
    let now : List Name = c.loop-at.unlinked.items in
    let at = c.loop-at.at in
    let before = c.loop-at.invariant in
    let within : at < length all =
    (let test = c.loop-at-test.true in let count = c.len-at-end.ensures in let whole = c.args.unlinked.ok.0 in omega (arith, test, count, whole)) in
    let name : Name = c.index-name.result.now in
    let is : drop at all ≡ name ∷ drop (at + 1) all = name_here now all at name within before.1 before.2 c.index-name.ensures in
    let opened = c.open_one.ensures.opened c.if-open_one.true in (
      (let few = before.0 in omega (arith, few)),
      before.1,
      past_it now all at before.2,
      still_within c.args.place c.loop-at.cell c.loop-at.learnt name c.open_one.new.cell c.open_one.new.self opened before.3,
      opens_on c.args.place c.args.cell.now c.args.learnt.now all c.loop-at.cell c.loop-at.learnt (drop at all)
          (drop (at + 1) all) (take c.loop-at.left now) name c.open_one.new.cell c.open_one.new.self is before.4 opened,
    )

pub loop-at-preserved : goal.loop-at-preserved
loop-at-preserved g c =
    let all : List Name = c.args.unlinked.items in
    let now : List Name = c.loop-at.unlinked.items in
    let at = c.loop-at.at in
    let left = c.loop-at.left in
    let before = c.loop-at.invariant in
    let within : at < length all =
    (let test = c.loop-at-test.true in let count = c.len-at-end.ensures in let whole = c.args.unlinked.ok.0 in omega (arith, test, count, whole)) in
    let name : Name = c.index-name.result.now in
    let is : drop at all ≡ name ∷ drop (at + 1) all = name_here now all at name within before.1 before.2 c.index-name.ensures in
    let same = c.open_one.ensures.left c.if-open_one.false in
    let cell = c.open_one.new.cell in
    let learnt = c.open_one.new.self in
    let sooner : left < at + 1 = (let few = before.0 in omega (arith, few)) in
    let inside : left < length now = (let few = before.0 in let long = before.1 in omega (arith, few, within, long)) in
    let on : OpensOn c.args.place c.args.cell.now c.args.learnt.now all c.loop-at.cell c.loop-at.learnt (drop (at + 1) all) (take left now ++ name ∷ []) =
    leaves_on c.args.place c.args.cell.now c.args.learnt.now all c.loop-at.cell c.loop-at.learnt
    (drop at all) (drop (at + 1) all) (take left now) name is before.4 in (
      (let few = before.0 in omega (arith, few)),
      length-set now left name ∙ before.1,
      drop-set-lt (at + 1) now left name sooner ∙ past_it now all at before.2,
      subst (λ (it : Cell g.row.C.Denot). IsPlace it c.args.place) (sym same.0) before.3,
      subst (λ names. OpensOn c.args.place c.args.cell.now c.args.learnt.now all cell learnt (drop (at + 1) all) names)
          (sym (take_more_set now left name inside))
          (subst (λ it. OpensOn c.args.place c.args.cell.now c.args.learnt.now all it learnt (drop (at + 1) all) (take left now ++ name ∷ [])) (sym same.0)
          (subst (λ it. OpensOn c.args.place c.args.cell.now c.args.learnt.now all c.loop-at.cell it (drop (at + 1) all) (take left now ++ name ∷ []))
          (sym same.1) on)),
    )

pub returns-clause-opens : goal.returns-clause-opens
returns-clause-opens g c =
    let all : List Name = c.args.unlinked.items in
    let at = c.loop-at.at in
    let past : length all ≤ at =
    (let test = c.loop-at-test.false in let count = c.len-at-end.ensures in let whole = c.args.unlinked.ok.0 in omega (arith, test, count, whole)) in
    subst (λ left. Opens c.args.place c.args.cell.now c.args.learnt.now all c.loop-at.cell c.loop-at.learnt left) (sym c.truncate.ensures.items)
    (opens_end c.args.place c.args.cell.now c.args.learnt.now all c.loop-at.cell c.loop-at.learnt
    (drop at all) (take c.loop-at.left c.loop-at.unlinked.items) (drop_all at all past) c.loop-at.invariant.4)

pub returns-clause-none : goal.returns-clause-none
returns-clause-none g c =
    λ none. none_opened c.args.place c.args.cell.now c.args.learnt.now c.args.unlinked.items c.loop-at.cell c.loop-at.learnt c.truncate.new.self.items none
    (returns-clause-opens g c)
