-- Each step reads one more table, and a table that is refused leaves no list of actions.
use Rattle.std.proofs.Common.{◌∙◌, ap, get_or, arith, add-one, subst, List}
use Rattle.std.proofs.lemmas.List.{take_all}
use Rattle.std.proofs.lemmas.Result.{err_from_is_err_and}
use Rattle.toml.specs.Data.{Members, no_members}
use Rattle.toml.specs.View.{view}
use Rattle.scenario.specs.Scenario.{AreActions, IsAction}
use Rattle.scenario.proofs.Items.{table_at, length-tables}
use Rattle.scenario.proofs.Zips.{AllZip-more, AllZip-at}
use Rattle.scenario.proofs.scenario.actions.Goals as goal

pub returns-in_err-numbered_action-clause-refused : goal.returns-in_err-numbered_action-clause-refused
returns-in_err-numbered_action-clause-refused c =
    let given = err_from_is_err_and c.from_residual.result c.from_residual.ensures.1 in
    rw (given.1, given.2) (λ has_memory members e actions zip.
    let found = table_at c.args.events.now members c.loop-number.number c.index-events-number.result e c.loop-number-test.true in
    let one = AllZip-at IsAction members actions c.loop-number.number no_members zip found.0 in
    c.in_err-numbered_action.ensures.refused has_memory _ (ap view c.index-events-number.is ∙ found.1) one.0 one.1)

pub loop-number-preserved : goal.loop-number-preserved
loop-number-preserved c members e =
    let found = table_at c.args.events.now members c.loop-number.number c.index-events-number.result e c.loop-number-test.true in
    let read = c.in_ok-numbered_action.ensures.ok (get_or members c.loop-number.number no_members) (ap view c.index-events-number.is ∙ found.1) in
    rw (c.in_ok-push.ensures.items, add-one)
    (AllZip-more IsAction members c.loop-number.actions.items c.loop-number.number no_members _ found.0 (c.loop-number.invariant members e) read)

pub returns-clause-ok : goal.returns-clause-ok
returns-clause-ok c members e =
    let whole = take_all c.loop-number.number members (omega (arith, length-tables c.args.events.now members e)) in
    let P : List Members → Type 0 = λ ms. AreActions ms c.loop-number.actions.items in
    subst P whole (c.loop-number.invariant members e)
