use Rattle.std.proofs.Common.{◌≡◌, ◌∙◌, ◌+◌, ◌<◌, ◌^◌, [], ap, arith, length, rules, sym}
use Rattle.node_threads.specs.Cell.{peers_of}
use Rattle.node_threads.proofs.Links.{fresh_kept}
use Rattle.node_threads.proofs.cell.NodeCell.new.Goals as goal

pub invariant_of-result : goal.invariant_of-result
invariant_of-result g c =
    let no_links : c.new.result.items ≡ [] = c.new.ensures.items in
    let no_names : c.new-2.result.keys ≡ [] = search rules in
    let few : 0 + length c.in_ok-trace.trace.steps < 2 ^ 64 = rw c.in_ok-trace.ensures (omega arith) in (
      rw c.in_ok-trace.ensures (rw no_links (rw c.new-4.ensures (fresh_kept g.C.NodeCore.state g.C.NodeCore.starts
          g.C.NodeCore.steps g.met.C.NodeCore.tells_its_start c.args.core c.args.opening c.args.trace_limit c.requires))),
      no_names ∙ sym (ap peers_of no_links),
      c.new-3.ensures.items,
      few,
    )

pub returns-clause-ok : goal.returns-clause-ok
returns-clause-ok g c = search (rules, c.in_ok-trace.ensures, c.new.ensures.items, c.new-4.ensures)
