-- A message that is news is of another origin, so it is not counted.
use Rattle.std.proofs.Common.{ap, sym, ◌∙◌}
use Rattle.flood.specs.FloodCore.{Flooding, is_news}
use Rattle.flood.proofs.FloodMoves.{counts_foreign}
use Rattle.flood.proofs.flood_core.FloodCore.advance_arrival.Goals as goal

pub invariant_of-self-2 : goal.invariant_of-self-2
invariant_of-self-2 g c = (
  c.self.invariant.0,
  counts_foreign (record { me = c.self.inside.me; peers = c.self.inside.peers.keys; held = c.self.inside.held.entries; count = c.self.inside.count })
      c.hold.new.held.entries c.note.inside.id c.note.inside.payload c.self.invariant.1 c.in_ok-hold.ensures.ok
      (ap (λ (core : Flooding). is_news core c.note.inside.id) c.self.view_is ∙ sym c.is_news.ensures ∙ c.if-not-is_news.false),
)
