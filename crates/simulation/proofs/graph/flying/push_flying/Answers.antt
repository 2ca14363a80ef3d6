-- The packets that are about the message are drawn.
use Rattle.std.proofs.Common.{◌∙◌, ◌++◌, ℕ, List, ap, string_bytes}
use Rattle.std.proofs.lemmas.Result.{on_ok_weaker}
use Rattle.simulation.specs.Graph.{flying_lines}
use Rattle.simulation.proofs.Flights.{drawn}
use Rattle.simulation.proofs.graph.flying.push_flying.Goals as goal

pub returns : goal.returns
returns g c =
    on_ok_weaker c.push_each.result (λ told.
    told
    ∙ ap (λ (numbers : List ℕ). string_bytes c.args.text.now ++ flying_lines c.args.id.now c.args.group.now.group numbers)
    (c.numbers_of.ensures ∙ c.requires c.args.id.now)
    ∙ ap (λ (lines : List ℕ). string_bytes c.args.text.now ++ lines) (drawn c.args.id.now c.args.group.now.group c.args.group.now.group.flight))
    c.push_each.ensures
