use Rattle.std.proofs.Common.{◌≡◌, filter, take}
use Rattle.gossip_core.specs.Table.{is_news}
use Rattle.gossip_core.proofs.gossip.Gossip.news.Given as goal

abbrev pub invariant-loop-entry : goal.invariant-loop-entry
invariant-loop-entry g l = l.news.items ≡ filter (λ entry. is_news l.self entry.0) (take l.entry-index l.entries)
