-- A step appends one node, and at the end there are all.
use Rattle.std.proofs.Common.{◌∙◌, ◌++◌, ℕ, List, ap, refl, string_bytes}
use Rattle.std.specs.List.{list_any}
use Rattle.node_names.specs.Same.{same_origin}
use Rattle.node_names.specs.declared.ids.Origin.{Origin}
use Rattle.world.specs.Group.{origin_of}
use Rattle.at_rest.specs.declared.branch.Branch.{Branch}
use Rattle.trace_text.specs.Ends.{lacking_line, lacking_lines}
use Rattle.trace_text.proofs.Delivering.{lacking_is}
use Rattle.trace_text.proofs.Texts.{joined, lines-all, lines-more}
use Rattle.trace_text.proofs.messages.push_lacking.Goals as goal

pub loop-node-preserved : goal.loop-node-preserved
loop-node-preserved g c =
    let node = c.node-item.result in
    let delivered =
    c.contains.ensures
    ∙ c.in_ok-delivered.ensures c.run_of-run.result
    ∙ ap (λ (run : Origin). list_any (λ (b : Branch). same_origin b.node run) c.args.branches.now) c.run_of-run.ensures in
    let appended =
    c.in_ok-push_lacking_line.ensures
    ∙ ap (λ (line : List ℕ). string_bytes c.loop-node.text ++ line) (lacking_is c.args.branches.now (origin_of node) node.core c.contains.result delivered) in
    joined _ _ _ _ _ _ appended c.loop-node.invariant (lines-more (λ node. lacking_line c.args.branches.now (origin_of node) node.core)
    (lacking_lines c.args.branches.now) refl (λ x xs. refl) c.args.nodes.now c.loop-node.node-index node node c.loop-node-test.true c.node-item.is)

pub returns : goal.returns
returns g c = lines-all (lacking_lines c.args.branches.now) c.args.nodes.now c.loop-node.node-index _ _ c.loop-node-test.false c.loop-node.invariant
