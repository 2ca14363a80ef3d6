use Rattle.std.proofs.Common.{◌≡◌, length, map, take}
use Rattle.plumtree_c.specs.Plain.{name_of}
use Rattle.plumtree_c.proofs.room.put_names.Given as goal

-- the names so far are in the room
abbrev pub invariant-loop-i : goal.invariant-loop-i
invariant-loop-i l = (length l.room ≡ length l.fn.room) × (map name_of (take l.i l.room) ≡ take l.i l.names)
