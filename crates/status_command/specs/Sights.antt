-- Which nodes see which others.
use Rattle.std.specs.Prelude.{Bool}
use Rattle.std.specs.List.{list_any}
use Rattle.node_names.specs.NodeName.{Name}
use Rattle.node_names.specs.Same.{same_name}
use Rattle.status_command.specs.declared.answer.Answer.{Answer}

-- whether the node that gave this answer has a name in its active view
abbrev pub sees : Answer → Name → Bool
sees answer name = list_any (λ neighbor. same_name neighbor.name name) answer.status.active.items
