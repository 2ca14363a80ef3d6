-- A message that is no news does nothing, and one that is news is taken.
use Rattle.std.proofs.Common.{ap, sym, ◌∙◌}
use Rattle.flood.specs.FloodCore.{Message, is_news}
use Rattle.flood.proofs.FloodMoves.{ignores}
use Rattle.flood.proofs.flood_core.FloodCore.prepare_arrival.Goals as goal

pub returns-then-not-is_news-clause-stepped : goal.returns-then-not-is_news-clause-stepped
returns-then-not-is_news-clause-stepped g c dice =
    ignores c.args.self.now c.args.sender.now c.args.note.now dice c.args.out.now
    (ap (λ (note : Message). is_news c.args.self.now note.id) (sym c.note.view_is) ∙ sym c.is_news.ensures ∙ c.if-not-is_news.true)
