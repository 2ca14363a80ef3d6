-- The message has a number more, or its first one.
use Rattle.std.proofs.Common.{◌≡◌, ◌∙◌, ℕ, List, [], ◌∷◌, ◌++◌, ap, refl, subst, sym}
use Rattle.std.specs.Map.{lookup}
use Rattle.std.specs.Option.{IsSome, option_copied_mut}
use Rattle.std.specs.Prelude.{Some, None, unwrap_or}
use Rattle.std.proofs.lemmas.Result.{on_ok_weaker}
use Rattle.node_names.specs.Same.{same_id}
use Rattle.node_names.specs.declared.ids.MsgId.{MsgId}
use Rattle.trace_text.proofs.Appended.{appended}
use Rattle.simulation.proofs.graph.flights.add.Goals as goal

pub returns-in-Some : goal.returns-in-Some
returns-in-Some g c =
    let id = c.args.id.now in
    let more : List ℕ = c.args.number ∷ [] in
    let old : List (MsgId × List ℕ) = c.args.flights.now.entries in
    let new : List (MsgId × List ℕ) = (c.get_mut.follows.lender c.push.new.self).entries in
    let had : Some c.in-Some.numbers.now ≡ lookup (same_id id) old = sym (ap option_copied_mut c.in-Some.is) ∙ c.get_mut.ensures.value in
    let updates = c.get_mut.follows.holds c.push.new.self in
    on_ok_weaker c.push.result
    (λ pushed. appended old new id c.push.new.self more (pushed ∙ ap (λ o. unwrap_or o [] ++ more) had) (updates.3 (subst IsSome had refl)).0) c.push.ensures

pub returns-in_ok-insert-in-None : goal.returns-in_ok-insert-in-None
returns-in_ok-insert-in-None g c =
    let id = c.args.id.now in
    let more : List ℕ = c.args.number ∷ [] in
    let old : List (MsgId × List ℕ) = c.args.flights.now.entries in
    let new : List (MsgId × List ℕ) = c.insert.new.self.entries in
    let had : None ≡ lookup (same_id id) old = sym (ap option_copied_mut c.in-None.is) ∙ c.get_mut.ensures.value in
    let updates : (q : MsgId) → lookup (same_id q) new ≡ _ = rw c.get_mut.follows.holds-at-none at c.in_ok-insert-in-None.ensures.updates.0 in
    let pushed = c.in_ok-push-in-None.ensures ∙ ap (λ (t : List ℕ). t ++ more) c.new-numbers.ensures in
    appended old new id c.push-in-None.new.self more (pushed ∙ ap (λ o. unwrap_or o [] ++ more) had) updates
