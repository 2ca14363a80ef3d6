use Rattle.std.proofs.Common.{◌≡◌, ◌∙◌, [], List, ap, map, refl, subst, sym}
use Rattle.wire_node.specs.Acting.{AreSettled}
use Rattle.wire_node.specs.Waiting.{Waiting, all_drafted, settled, settled_for}
use Rattle.wire_node.proofs.Apart.{apart_none}
use Rattle.wire_node.proofs.Drafting.{waits_more}
use Rattle.wire_node.proofs.Stepping.{settled_more}
use Rattle.wire_node.proofs.opening.first_entries.Goals as goal

pub returns-clause-waits : goal.returns-clause-waits
returns-clause-waits g c name =
    let sends = c.args.sends.now in
    let drafts : c.draft_all.new.entries.items ≡ all_drafted [] sends =
    c.in_ok-draft_all.ensures.ok ∙ ap (λ (ws : List Waiting). all_drafted ws sends) c.new-entries.ensures.items in
    ap (λ (ws : List Waiting). settled_for ws name) (c.settle_all.ensures ∙ ap (map settled) drafts) ∙ waits_more [] sends name refl

pub returns-clause-settled : goal.returns-clause-settled
returns-clause-settled g c =
    let drafts : c.draft_all.new.entries.items ≡ all_drafted [] c.args.sends.now =
    c.in_ok-draft_all.ensures.ok ∙ ap (λ (ws : List Waiting). all_drafted ws c.args.sends.now) c.new-entries.ensures.items in
    subst AreSettled (sym (c.settle_all.ensures ∙ ap (map settled) drafts)) (settled_more [] c.args.sends.now apart_none)
