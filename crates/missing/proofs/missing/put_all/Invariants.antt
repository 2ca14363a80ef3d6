use Rattle.std.proofs.Common.{◌≡◌, ◌+◌, ◌≤◌, true, take, length, vec_len, vec_capacity}
use Rattle.indexmap.specs.IndexMap.{spare}
use Rattle.node_names.specs.Same.{has_name}
use Rattle.node_names.specs.Slots.{somes}
use Rattle.missing.specs.Slots.{AreTimed, IsKept}
use Rattle.missing.specs.Timers.{with_timers}
use Rattle.missing.specs.Wants.{with_wants}
use Rattle.missing.proofs.missing.put_all.Given as goal

abbrev pub invariant-loop-entry : goal.invariant-loop-entry
invariant-loop-entry g l =
    record {
      wants : somes l.wants.slots.items ≡ with_wants l.peer (take l.entry-index l.entries) (somes l.fn.wants.slots.items);
      kept : IsKept l.wants.slots.items l.wants.places l.wants.peers.keys;
      known : has_name l.wants.peers.keys l.peer ≡ true;
      timers : somes l.timers.slots.items ≡ with_timers (take l.entry-index l.entries) (somes l.fn.timers.slots.items);
      timed : AreTimed l.timers.slots.items l.timers.places l.timers.gone;
      room : vec_len l.wants.slots + length l.entries ≤ vec_capacity l.wants.slots + l.entry-index;
      places : length l.entries ≤ spare l.wants.places + l.entry-index;
      timer_room : vec_len l.timers.slots + length l.entries ≤ vec_capacity l.timers.slots + l.entry-index;
      spare : length l.entries ≤ spare l.timers.places + l.entry-index;
    }
