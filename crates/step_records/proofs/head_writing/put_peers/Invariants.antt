use Rattle.std.proofs.Common.{◌≡◌, ◌∷◌, ◌++◌, length, take}
use Rattle.std.specs.List.{flat_map}
use Rattle.frames.specs.Field.{name_octets}
use Rattle.step_records.proofs.head_writing.put_peers.Given as goal

-- the number of the peers, and the peers so far, are written
abbrev pub invariant-loop-peer : goal.invariant-loop-peer
invariant-loop-peer l =
    l.out.items ≡ l.fn.out.items ++ (length l.head.peers ∷ flat_map name_octets (take l.peer-index l.head.peers))
