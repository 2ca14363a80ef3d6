use Rattle.std.proofs.Common.{◌≡◌, ◌++◌, string_bytes, take}
use Rattle.simulation.specs.Graph.{link_lines}
use Rattle.simulation.proofs.graph.overlay.push_links.Given as goal

abbrev pub invariant-loop-member : goal.invariant-loop-member
invariant-loop-member g l = string_bytes l.text ≡ string_bytes l.initial.text ++ link_lines l.name (take l.member-index l.members)
