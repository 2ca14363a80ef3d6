-- The document is its lines one after the other.
use Rattle.std.proofs.Common.{◌++◌, ℕ, List, refl}
use Rattle.std.specs.Prelude.{codes}
use Rattle.simulation.specs.Graph.{overlay_lines}
use Rattle.trace_text.proofs.Texts.{joined}
use Rattle.simulation.proofs.graph.push_graph.Goals as goal

pub returns : goal.returns
returns g c =
    let (parts, drawn, appended) = c.in_ok-push_trees.ensures in
    let head : List ℕ = codes "digraph plumtree {\n  rankdir = LR;\n  subgraph \"cluster overlay\" {\n    label = \"overlay\";\n" in
    let opened : List ℕ = (head ++ overlay_lines c.args.group.now.group.nodes) ++ codes "  }\n" in
    let overlay = joined _ _ _ head _ _ c.in_ok-push_overlay.ensures c.in_ok-push_str.ensures.bytes refl in
    let listed = joined _ _ _ _ _ opened c.in_ok-push_str-2.ensures.bytes overlay refl in
    let whole = joined _ _ _ opened parts (opened ++ parts) appended listed refl in (
      (opened ++ parts) ++ codes "}\n",
      record { parts = parts; drawn = drawn; written = refl },
      joined _ _ _ (opened ++ parts) _ _ c.in_ok-push_str-3.ensures.bytes whole refl,
    )
