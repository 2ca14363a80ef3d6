use Rattle.std.proofs.Common.{map, take}
use Rattle.at_rest.specs.Unrest.{Adds}
use Rattle.at_rest.proofs.unrest.add_queued.Given as goal

abbrev pub invariant-loop-entry : goal.invariant-loop-entry
invariant-loop-entry g l = Adds l.initial.ids.keys (map (λ entry. entry.1) (take l.entry-index l.queued)) l.ids.keys
