use Rattle.std.proofs.Common.{◌++◌, ◌∷◌, ◌∙◌, [], ap, sym}
use Rattle.wire_node.specs.Waiting.{Waiting, spelling, with_draft}
use Rattle.wire_node.proofs.Drafting.{draft_new}
use Rattle.wire_node.proofs.drafts.draft_first.Goals as goal

pub returns-clause-ok : goal.returns-clause-ok
returns-clause-ok g c =
    let olds = c.args.entries.now.items in
    let bytes = spelling c.args.frame.now in
    c.in_ok-push.ensures.items
    ∙ ap (λ (w : Waiting). olds ++ w ∷ []) (c.in_ok-draft.ensures.ok ∙ ap (λ (w : Waiting). with_draft w bytes) c.new-entry.ensures)
    ∙ sym (draft_new olds c.args.name bytes c.requires)
