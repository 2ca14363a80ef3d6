-- Each list has what was appended to it.
use Rattle.std.proofs.Common.{◌∙◌, ◌++◌, ap}
use Rattle.membership.proofs.moves.Moves.append.Goals as goal

pub returns-clause-ok : goal.returns-clause-ok
returns-clause-ok g c =
    rw (← c.self.view_is, ← c.more.view_is) (λ i. record {
      sends = (c.in_ok-append.ensures.ok ∙ ap (λ xs. c.self.inside.sends ++ xs) c.into_vec.ensures) i;
      downs = (c.in_default.ensures.ok ∙ ap (λ xs. c.self.inside.downs ++ xs) c.into_vec-2.ensures) i;
      ups = (c.in_default-append.ensures.ok ∙ ap (λ xs. c.self.inside.ups ++ xs) c.into_vec-3.ensures) i;
    })
