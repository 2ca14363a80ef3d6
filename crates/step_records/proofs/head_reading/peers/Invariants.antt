use Rattle.std.proofs.Common.{◌≡◌, ◌∷◌, ◌++◌, length}
use Rattle.std.specs.List.{flat_map}
use Rattle.frames.specs.Field.{name_octets}
use Rattle.step_records.proofs.head_reading.peers.Given as goal

-- the number of the peers, and the peers so far, are read, and the bytes behind them are left
abbrev pub invariant-loop-place : goal.invariant-loop-place
invariant-loop-place l = (l.fn.fields ≡ (l.count ∷ flat_map name_octets l.peers) ++ l.fields) × (length l.peers ≡ l._place)
