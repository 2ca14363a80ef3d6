-- The changes are those from the parts before to those of the core.
use Rattle.std.proofs.Common.{◌∙◌, ◌++◌, ℕ, List, ap, string_bytes}
use Rattle.std.proofs.lemmas.Result.{on_ok_weaker}
use Rattle.node_names.specs.declared.ids.Origin.{Origin}
use Rattle.trace_text.specs.Parts.{Parts, changes_text}
use Rattle.trace_text.specs.Step.{line_of_changes}
use Rattle.trace_text.proofs.steps.push_change.Goals as goal

pub returns : goal.returns
returns g c =
    on_ok_weaker c.push_changes-2.result (λ told.
    told
    ∙ ap (λ (node : Origin). string_bytes c.args.text.now ++ line_of_changes node c.as_str.result.now) c.me.ensures
    ∙ ap (λ (changes : List ℕ). string_bytes c.args.text.now ++ line_of_changes c.args.core.now.gossip.me changes)
    (c.as_str.ensures.value ∙ c.in_ok-push_changes.ensures
    ∙ ap (λ (begun : List ℕ). begun ++ changes_text c.args.before.now c.in_ok-after.after) c.new-changes.ensures.bytes
    ∙ ap (λ (parts : Parts). changes_text c.args.before.now parts) c.in_ok-after.ensures)) c.push_changes-2.ensures
