use Rattle.std.proofs.Common.{◌≡◌, not, filter, map, take, Some}
use Rattle.std.specs.List.{IsDistinct}
use Rattle.node_names.specs.Slots.{somes}
use Rattle.missing.specs.Slots.{ArePlaced, is_any_by}
use Rattle.missing.specs.Wants.{place_of, same_place}
use Rattle.missing.proofs.wants.remove_of.Given as goal

-- those of the ids so far are gone
abbrev pub invariant-loop-slot : goal.invariant-loop-slot
invariant-loop-slot g l =
    record {
      left : somes l.slots.items ≡ filter (λ entry. not (is_any_by (somes (take l.slot-index l.ids)) l.peer (Some entry))) (somes l.fn.slots.items);
      placed : ArePlaced l.slots.items l.places;
      once : IsDistinct same_place (map place_of (somes l.slots.items));
    }
