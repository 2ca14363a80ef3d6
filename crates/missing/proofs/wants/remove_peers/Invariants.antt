use Rattle.std.proofs.Common.{◌≡◌, map, take}
use Rattle.std.specs.List.{IsDistinct}
use Rattle.node_names.specs.Slots.{somes}
use Rattle.missing.specs.Slots.{AreArmed, IsKept}
use Rattle.missing.specs.Wants.{place_of, same_place, without_peers}
use Rattle.missing.proofs.wants.remove_peers.Given as goal

-- those by the peers so far are gone
abbrev pub invariant-loop-peer : goal.invariant-loop-peer
invariant-loop-peer g l =
    record {
      left : somes l.wants.slots.items ≡ without_peers (take l.peer-index l.peers) (somes l.fn.wants.slots.items);
      kept : IsKept l.wants.slots.items l.wants.places l.wants.peers.keys;
      once : IsDistinct same_place (map place_of (somes l.wants.slots.items));
      armed : AreArmed (somes l.ids) (somes l.wants.slots.items);
    }
