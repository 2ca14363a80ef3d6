use Rattle.std.proofs.Common.{◌≡◌, ◌∙◌, ◌+◌, [], ap, drop, length, refl, rules, subst, sym, take}
use Rattle.std.specs.Prelude.{false, replicate}
use Rattle.std.proofs.lemmas.List.{take_at}
use Rattle.node_threads.specs.Marks.{HasMarks, LacksMark}
use Rattle.node_threads.proofs.Receipting.{PortsMarked, last_unlike, next_marked, next_unlike, none_unlike, ports_none, unlike_not_alike}
use Rattle.node_threads.proofs.cell.receipts.first_unlike.Goals as goal

pub loop-n-init : goal.loop-n-init
loop-n-init g c =
    let steps = c.args.trace.now.steps in
    let none : c.in_ok-marks.marks.items ≡ replicate c.len.result false = c.in_ok-marks.ensures.items_if_clones_equal (λ y e. e) in
    (search rules, subst (PortsMarked steps []) (sym none) (ports_none steps c.len.result))

pub loop-n-preserved : goal.loop-n-preserved
loop-n-preserved g c =
    let steps = c.args.trace.now.steps in
    let ports = c.args.ports.now in
    let n = c.loop-n.n in
    let marks = c.mark_all.new.marks in
    let value = c.deref_mut.ensures.value in
    let so_far = subst (PortsMarked steps (take n ports)) (sym value) c.loop-n.invariant.1 in
    let fits = c.if-not-mark_all.ensures in
    let marked =
    next_marked steps ports n c.deref_mut.result.now so_far c.as_slice.result.now _ marks c.loop-n-test.true
    (c.as_slice.ensures ∙ c.index-ports-n.is) fits.fits fits.marked in
    let each : length marks ≡ length steps = c.mark_all.auto.marks ∙ ap length value ∙ c.loop-n.invariant.0 in
    let kept = take_at marks (drop (length marks) c.loop-n.marks.items) c.loop-n.marks.len (c.mark_all.auto.marks ∙ c.deref_mut.ensures.len) in
    (ap length kept ∙ each, subst (PortsMarked steps (take (n + 1) ports)) (sym kept) marked)

pub returns-then-not-mark_all : goal.returns-then-not-mark_all
returns-then-not-mark_all g c =
    let steps = c.args.trace.now.steps in
    let ports = c.args.ports.now in
    let n = c.loop-n.n in
    let so_far = subst (PortsMarked steps (take n ports)) (sym c.deref_mut.ensures.value) c.loop-n.invariant.1 in
    let unlike =
    next_unlike steps ports n c.deref_mut.result.now so_far c.as_slice.result.now _ c.loop-n-test.true
    (c.as_slice.ensures ∙ c.index-ports-n.is) c.if-not-mark_all.ensures.unlike in
    record { alike = (λ is_none. cc, λ alike. absurd (unlike_not_alike steps ports n unlike alike)); unlike = unlike }

pub returns-then-lacks_mark : goal.returns-then-lacks_mark
returns-then-lacks_mark g c =
    let steps = c.args.trace.now.steps in
    let ports = c.args.ports.now in
    let lacks = subst (LacksMark steps) c.deref.ensures.value c.if-lacks_mark.ensures.lacking in
    let unlike = last_unlike steps ports c.loop-n.n c.loop-n.marks.items c.loop-n.invariant.1 c.loop-n-test.false lacks in
    record { alike = (λ is_none. cc, λ alike. absurd (unlike_not_alike steps ports (length ports) unlike alike)); unlike = unlike }

pub returns-clause-alike : goal.returns-clause-alike
returns-clause-alike g c =
    let steps = c.args.trace.now.steps in
    let has = subst (HasMarks steps) c.deref.ensures.value c.if-lacks_mark.ensures.all in
    (λ is_none. none_unlike steps c.args.ports.now c.loop-n.n c.loop-n.marks.items c.loop-n.invariant.1 c.loop-n-test.false has, λ alike. refl)
