use Rattle.std.proofs.Common.{◌≡◌, take}
use Rattle.missing.specs.Slots.{is_by, place}
use Rattle.missing.proofs.wants.first_place.Given as goal

-- the first one by the peers so far
abbrev pub invariant-loop-peer : goal.invariant-loop-peer
invariant-loop-peer g l = l.first ≡ place (is_by l.id (take l.peer-index l.peer-items)) l.wants.slots.items
