use Rattle.std.proofs.Common.{◌≡◌, ◌++◌, take}
use Rattle.std.specs.List.{flat_map}
use Rattle.node_core.specs.News.{departure_of}
use Rattle.node_core.proofs.news.add_departures.Given as goal

-- those of the names so far that went
abbrev pub invariant-loop-name : goal.invariant-loop-name
invariant-loop-name g l = l.news.items ≡ l.fn.news.items ++ flat_map (departure_of l.farewell l.left.keys) (take l.name-index l.names)
