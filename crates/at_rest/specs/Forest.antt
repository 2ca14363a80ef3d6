-- The trees of all messages, each found by its message's id.
use Rattle.std.specs.Prelude.{List, [], unwrap_or}
use Rattle.std.specs.Map.{lookup}
use Rattle.node_names.specs.Same.{same_id}
use Rattle.node_names.specs.declared.ids.MsgId.{MsgId}
use Rattle.at_rest.specs.declared.branch.Branch.{Branch}

-- the branches that are listed for the message, or no branches if it has no list
abbrev pub branches_at : MsgId → List (MsgId × List Branch) → List Branch
branches_at id listed = unwrap_or (lookup (same_id id) listed) []
