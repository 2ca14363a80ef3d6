-- The three parts of what is told of a message, one after the other.
use Rattle.std.proofs.Common.{◌∙◌, ◌++◌, List, ap, string_bytes}
use Rattle.world.specs.declared.node_state.NodeState.{NodeState}
use Rattle.node_core.specs.Plum.{Plum}
use Rattle.trace_text.specs.Ends.{lacking_lines, rest_line}
use Rattle.trace_text.proofs.Texts.{three}
use Rattle.trace_text.proofs.messages.push_message.Goals as goal

pub returns : goal.returns
returns g c =
    three _ _ _ _ (rest_line c.args.id.now c.args.is_resting) _ _
    c.in_ok-push_rest.ensures
    (c.in_ok-push_lacking.ensures
    ∙ ap (λ (nodes : List (NodeState Plum)). string_bytes c.push_rest.new.text ++ lacking_lines c.args.branches.now nodes) c.nodes.ensures)
    c.in_ok-push_str.ensures.bytes
