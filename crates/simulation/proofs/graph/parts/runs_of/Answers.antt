-- The run of one branch more is there.
use Rattle.std.proofs.Common.{◌≡◌, ◌∙◌, ◌+◌, ◌∷◌, ◌++◌, [], List, true, false, ap, refl, sym, take}
use Rattle.std.specs.List.{list_any}
use Rattle.std.specs.Prelude.{◌||◌, Bool, cond}
use Rattle.std.proofs.lemmas.List.{take_more}
use Rattle.std.proofs.lemmas.List.Folds.{list_any-append}
use Rattle.node_names.specs.Same.{same_origin}
use Rattle.node_names.specs.declared.ids.Origin.{Origin}
use Rattle.at_rest.specs.declared.branch.Branch.{Branch}
use Rattle.simulation.proofs.graph.parts.runs_of.Goals as goal

either : (b old : Bool) → cond b true old ≡ (old || (b || false))
either true true = refl
either true false = refl
either false true = refl
either false false = refl

one_more : (branch : Branch) (some longer : List Branch) (o : Origin) (old new : Bool) →
    new ≡ cond (same_origin branch.node o) true old →
    old ≡ list_any (λ (b : Branch). same_origin b.node o) some →
    longer ≡ some ++ branch ∷ [] →
    new ≡ list_any (λ (b : Branch). same_origin b.node o) longer
one_more branch some longer o old new updates before is =
    updates
    ∙ ap (λ (b : Bool). cond (same_origin branch.node o) true b) before
    ∙ either (same_origin branch.node o) (list_any (λ (b : Branch). same_origin b.node o) some)
    ∙ sym (list_any-append (λ (b : Branch). same_origin b.node o) some (branch ∷ []))
    ∙ ap (list_any (λ (b : Branch). same_origin b.node o)) (sym is)

pub loop-branch-preserved : goal.loop-branch-preserved
loop-branch-preserved g c o =
    let branch : Branch = c.branch-item.result in
    let some : List Branch = take c.loop-branch.branch-index c.args.branches.now in
    one_more branch some (take (c.loop-branch.branch-index + 1) c.args.branches.now) o _ _ (c.in_ok-insert.ensures.updates.0 o) (c.loop-branch.invariant o)
    (take_more c.args.branches.now c.loop-branch.branch-index branch c.loop-branch-test.true ∙ ap (λ (b : Branch). some ++ b ∷ []) (sym c.branch-item.is))
