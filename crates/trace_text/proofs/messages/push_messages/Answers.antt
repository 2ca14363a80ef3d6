-- A step appends the lines of one message.
use Rattle.std.proofs.Common.{◌∙◌, ◌++◌, ℕ, Bool, List, ap, refl, string_bytes}
use Rattle.std.specs.Prelude.{not}
use Rattle.node_names.specs.Same.{has_id}
use Rattle.at_rest.specs.Forest.{branches_at}
use Rattle.at_rest.specs.declared.branch.Branch.{Branch}
use Rattle.trace_text.specs.Ends.{lacking_lines, message_text, messages_text, rest_line}
use Rattle.trace_text.proofs.Texts.{joined, lines-more}
use Rattle.trace_text.proofs.messages.push_messages.Goals as goal

pub loop-id-preserved : goal.loop-id-preserved
loop-id-preserved g c =
    let id = c.id-item.result in
    let world = c.args.world.now in
    joined _ _ _ _ _ _
    (c.in_ok-push_message.ensures
    ∙ ap (λ (about : List ℕ). string_bytes c.loop-id.text ++ (rest_line id c.is_at_rest.result ++ (lacking_lines c.tree.result.now world.group.nodes ++ about)))
    (c.text_of-about.ensures ∙ c.in_ok-texts.ensures id)
    ∙ ap (λ (rest : Bool). string_bytes c.loop-id.text ++ message_text world id rest c.tree.result.now) c.is_at_rest.ensures
    ∙ ap (λ (branches : List Branch). string_bytes c.loop-id.text ++ message_text world id (not (has_id c.args.unrest.now id)) branches) c.tree.ensures)
    c.loop-id.invariant
    (lines-more (λ one. message_text world one (not (has_id c.args.unrest.now one)) (branches_at one c.args.forest.now))
    (messages_text world c.args.unrest.now c.args.forest.now) refl (λ x xs. refl) c.args.ids.now c.loop-id.id-index id id c.loop-id-test.true c.id-item.is)
