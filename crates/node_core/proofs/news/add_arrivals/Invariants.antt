use Rattle.std.proofs.Common.{◌≡◌, ◌++◌, take}
use Rattle.std.specs.List.{flat_map}
use Rattle.node_core.specs.News.{arrival_of}
use Rattle.node_core.proofs.news.add_arrivals.Given as goal

-- those of the names so far that came
abbrev pub invariant-loop-name : goal.invariant-loop-name
invariant-loop-name g l = l.news.items ≡ l.fn.news.items ++ flat_map (arrival_of l.before) (take l.name-index l.names)
