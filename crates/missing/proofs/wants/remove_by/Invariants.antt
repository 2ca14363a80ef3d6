use Rattle.std.proofs.Common.{◌≡◌, not, filter, map, take, Some}
use Rattle.std.specs.List.{IsDistinct}
use Rattle.node_names.specs.Slots.{somes}
use Rattle.missing.specs.Slots.{ArePlaced, is_by}
use Rattle.missing.specs.Wants.{place_of, same_place}
use Rattle.missing.proofs.wants.remove_by.Given as goal

-- those by the peers so far are gone
abbrev pub invariant-loop-peer : goal.invariant-loop-peer
invariant-loop-peer g l =
    record {
      left : somes l.slots.items ≡ filter (λ entry. not (is_by l.id (take l.peer-index l.peers) (Some entry))) (somes l.fn.slots.items);
      placed : ArePlaced l.slots.items l.places;
      once : IsDistinct same_place (map place_of (somes l.slots.items));
    }
