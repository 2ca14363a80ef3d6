use Rattle.std.proofs.Common.{◌≡◌, ◌∙◌, ◌+◌, ◌≤◌, ap, arith, length, sym, subst, None, Some}
use Rattle.std.proofs.lemmas.Bool.{eqb-true, eqb-false}
use Rattle.protocol.specs.Trace.{Trace}
use Rattle.frames.specs.Frame.{Frame}
use Rattle.node_threads.specs.Cell.{Cell, lost}
use Rattle.node_threads.specs.Report.{BeginsText, Leaves}
use Rattle.node_threads.proofs.Stripping.{is_begun, is_not_begun, is_used_up, its_text}
use Rattle.node_threads.proofs.cell.NodeCell.report.Goals as goal

pub returns-in_default-clause-none : goal.returns-in_default-clause-none
returns-in_default-clause-none g c =
    let trace : c.self.inside.trace ≡ c.args.self.now.trace = ap (λ (cell : Cell g.row.C.Denot). cell.trace) c.self.view_is in
    let left : Leaves c.args.outlet.now.given (its_text (lost c.args.self.now.since) c.self.inside.trace c.args.outlet.now) None =
    rw (c.given.ensures, c.peer-peer.ensures, c.opened-opened.ensures, c.lost-lost.ensures, c.in_default.is) at c.in_ok-rest.ensures in
    λ _ text. is_not_begun (lost c.args.self.now.since) c.self.inside.trace c.args.outlet.now left
    (subst (λ t. BeginsText (lost c.args.self.now.since) t c.args.outlet.now) (sym trace) text)

pub returns-then-not-is_empty-clause-none : goal.returns-then-not-is_empty-clause-none
returns-then-not-is_empty-clause-none g c =
    let trace : c.self.inside.trace ≡ c.args.self.now.trace = ap (λ (cell : Cell g.row.C.Denot). cell.trace) c.self.view_is in
    let left : Leaves c.args.outlet.now.given (its_text (lost c.args.self.now.since) c.self.inside.trace c.args.outlet.now) (Some c.in-Some.rest.now) =
    rw (c.given.ensures, c.peer-peer.ensures, c.opened-opened.ensures, c.lost-lost.ensures, c.in-Some.is) at c.in_ok-rest.ensures in
    λ _ text. eqb-false _ _ (sym c.is_empty.ensures ∙ c.if-not-is_empty.true)
    (is_used_up (lost c.args.self.now.since) c.self.inside.trace c.args.outlet.now c.in-Some.rest.now left
    (subst (λ t. BeginsText (lost c.args.self.now.since) t c.args.outlet.now) (sym trace) text))

pub returns-clause-begins : goal.returns-clause-begins
returns-clause-begins g c =
    let trace : c.self.inside.trace ≡ c.args.self.now.trace = ap (λ (cell : Cell g.row.C.Denot). cell.trace) c.self.view_is in
    let long : length c.self.inside.trace.steps ≡ length c.args.self.now.trace.steps = ap (λ (t : Trace Frame). length t.steps) trace in
    let behind : lost c.args.self.now.since ≤ c.args.outlet.now.opened = omega (arith, c.opened-opened.ensures, c.lost-lost.ensures, c.if-opened-lost.false) in
    let before : c.args.outlet.now.opened ≤ lost c.args.self.now.since + length c.self.inside.trace.steps =
    omega (arith, long, c.opened-opened.ensures, c.steps_made.ensures, c.if-opened-steps_made.false) in
    let left : Leaves c.args.outlet.now.given (its_text (lost c.args.self.now.since) c.self.inside.trace c.args.outlet.now) (Some c.in-Some.rest.now) =
    rw (c.given.ensures, c.peer-peer.ensures, c.opened-opened.ensures, c.lost-lost.ensures, c.in-Some.is) at c.in_ok-rest.ensures in
    subst (λ t. BeginsText (lost c.args.self.now.since) t c.args.outlet.now) trace
    (is_begun (lost c.args.self.now.since) c.self.inside.trace c.args.outlet.now c.in-Some.rest.now behind before left
    (eqb-true _ _ (sym c.is_empty.ensures ∙ c.if-not-is_empty.false)))
