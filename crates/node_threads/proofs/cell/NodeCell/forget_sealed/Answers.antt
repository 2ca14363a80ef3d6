use Rattle.std.proofs.Common.{◌≡◌, ◌+◌, ◌∙◌, Some, ap, arith, drop, length, option_map, rules, subst, sym}
use Rattle.std.proofs.lemmas.List.{length-drop}
use Rattle.protocol.specs.Trace.{Trace}
use Rattle.frames.specs.Frame.{Frame}
use Rattle.node_threads.specs.Cell.{Cell, IsKept, lost}
use Rattle.node_threads.specs.Forgetting.{forgetting}
use Rattle.node_threads.proofs.Links.{forgetting_kept}
use Rattle.node_threads.proofs.cell.NodeCell.forget_sealed.Goals as goal

pub invariant_of-self-2 : goal.invariant_of-self-2
invariant_of-self-2 g c =
    let before : Cell g.row.C.Denot = record {
      core = c.self.inside.core;
      since = c.self.inside.since;
      trace = c.self.inside.trace;
      limit = c.self.inside.limit;
      links = c.self.inside.links.items;
      pending = c.self.inside.pending;
      handed_out = c.self.inside.handed_out;
      is_shut = c.self.inside.is_shut;
    } in
    let count = c.forget_sealed-count.result in
    let is : before.since ≡ Some c.in-Some.since = search rules in
    let within = c.forget_sealed-count.ensures.within in
    let trace : c.forget_sealed-count.new.self ≡ (forgetting count before).trace = c.forget_sealed-count.ensures.rest in
    let since : Some (c.in-Some.since + count) ≡ (forgetting count before).since = sym (ap (option_map (λ s. s + count)) is) in
    let kept : IsKept g.C.NodeCore.starts g.C.NodeCore.steps (forgetting count before) =
    forgetting_kept g.C.NodeCore.state g.C.NodeCore.starts g.C.NodeCore.steps before c.self.invariant.0 c.in-Some.since count is within in
    let here : IsKept g.C.NodeCore.starts g.C.NodeCore.steps (record (forgetting count before) { trace = c.forget_sealed-count.new.self }) =
    subst (λ t. IsKept g.C.NodeCore.starts g.C.NodeCore.steps (record (forgetting count before) { trace = t })) (sym trace) kept in
    let few = c.self.invariant.3 in
    let gone : lost before.since ≡ c.in-Some.since = ap lost is in
    let left : length c.forget_sealed-count.new.self.steps ≡ length (drop count before.trace.steps) = ap (λ (t : Trace Frame). length t.steps) trace in (
      subst (λ s. IsKept g.C.NodeCore.starts g.C.NodeCore.steps (record (forgetting count before) { since = s; trace = c.forget_sealed-count.new.self }))
          (sym since) here,
      c.self.invariant.1,
      c.self.invariant.2,
      omega (arith, few, gone, left, within, length-drop count before.trace.steps),
    )
