use Rattle.std.proofs.Common.{◌≡◌, ◌≤◌, ◌+◌, length, take}
use Rattle.std.specs.Prelude.{fold}
use Rattle.indexmap.specs.IndexSet.{spare}
use Rattle.views.specs.Sets.{views_of}
use Rattle.views.specs.Views.{Integration, integrate_one}
use Rattle.views.proofs.sets.Sets.integrate.Given as goal

-- the names so far are integrated, no more evictions than names were made, and there is room for the names that are
-- left
abbrev pub invariant-loop-name : goal.invariant-loop-name
invariant-loop-name g l =
    let start : Integration = record { views = views_of l.fn.self; evictions = 0 } in
    let so_far : Integration = record { views = views_of l.self; evictions = l.evictions } in
    record {
      integrated : so_far ≡ fold (integrate_one l.sent l.dice) start (take l.name-index l.names);
      counted : l.evictions ≤ l.name-index;
      room : length l.names ≤ spare l.self.passive + l.name-index;
    }
