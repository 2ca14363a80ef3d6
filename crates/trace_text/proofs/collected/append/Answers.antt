-- The text of the message is longer, or new.
use Rattle.std.proofs.Common.{◌≡◌, ◌∙◌, ℕ, List, [], ◌++◌, ap, refl, subst, sym}
use Rattle.std.specs.Map.{lookup}
use Rattle.std.specs.Option.{IsSome, option_copied_mut}
use Rattle.std.specs.Prelude.{Some, None, unwrap_or}
use Rattle.std.proofs.lemmas.Result.{on_ok_weaker}
use Rattle.node_names.specs.Same.{same_id}
use Rattle.node_names.specs.declared.ids.MsgId.{MsgId}
use Rattle.trace_text.proofs.Appended.{appended}
use Rattle.trace_text.proofs.collected.append.Goals as goal

pub returns-in-Some : goal.returns-in-Some
returns-in-Some g c =
    let id = c.args.id.now in
    let old : List (MsgId × List ℕ) = c.args.texts.now.entries in
    let new : List (MsgId × List ℕ) = (c.get_mut.follows.lender c.push_str.new.self).entries in
    let had : Some c.in-Some.text.now ≡ lookup (same_id id) old = sym (ap option_copied_mut c.in-Some.is) ∙ c.get_mut.ensures.value in
    let updates = c.get_mut.follows.holds c.push_str.new.self in
    on_ok_weaker c.push_str.result
    (λ pushed. appended old new id c.push_str.new.self c.args.more.now
    (pushed ∙ ap (λ o. unwrap_or o [] ++ c.args.more.now) had) (updates.3 (subst IsSome had refl)).0)
    c.push_str.ensures

pub returns-in_ok-insert-in-None : goal.returns-in_ok-insert-in-None
returns-in_ok-insert-in-None g c =
    let id = c.args.id.now in
    let old : List (MsgId × List ℕ) = c.args.texts.now.entries in
    let new : List (MsgId × List ℕ) = c.insert.new.self.entries in
    let had : None ≡ lookup (same_id id) old = sym (ap option_copied_mut c.in-None.is) ∙ c.get_mut.ensures.value in
    let updates : (q : MsgId) → lookup (same_id q) new ≡ _ = rw c.get_mut.follows.holds-at-none at c.in_ok-insert-in-None.ensures.updates.0 in
    let pushed = c.in_ok-push_str-in-None.ensures ∙ ap (λ (t : List ℕ). t ++ c.args.more.now) c.new-text.ensures in
    appended old new id c.push_str-in-None.new.self c.args.more.now (pushed ∙ ap (λ o. unwrap_or o [] ++ c.args.more.now) had) updates
