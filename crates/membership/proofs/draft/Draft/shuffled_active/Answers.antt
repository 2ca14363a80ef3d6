-- The limit is that of the views, and it is no more than the words that there are.
use Rattle.std.proofs.Common.{◌≤◌, ◌∙◌, [], ◌∷◌, ap, arith, drop, take}
use Rattle.std.proofs.lemmas.List.{take-take}
use Rattle.std.proofs.lemmas.Result.{IfOk-weaker}
use Rattle.node_names.specs.Limits.{Limits}
use Rattle.views.specs.Names.{others, sample}
use Rattle.membership.proofs.draft.Draft.shuffled_active.Goals as goal

pub returns : goal.returns
returns g c =
    let same = c.from.ensures ∙ c.ka.ensures.value ∙ ap (λ (l : Limits). l.ka) c.limits-limits.ensures.value in
    let few : c.from.result ≤ 12 = omega (arith, c.from.ensures, c.ka.ensures.value, c.ka.ensures.allowed.shuffle_to) in
    let candidates = others (c.args.target ∷ []) c.args.self.now.views.active in
    IfOk-weaker c.sample_active.result _ _
    (λ names drawn.
    drawn ∙ ap (λ ws. sample ws candidates) (take-take c.from.result 12 (drop 4 c.args.dice.now.0) few ∙ ap (λ n. take n (drop 4 c.args.dice.now.0)) same))
    c.sample_active.ensures
