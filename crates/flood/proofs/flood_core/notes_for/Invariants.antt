use Rattle.std.proofs.Common.{◌≡◌, map, take}
use Rattle.flood.specs.FloodCore.{note_to, others}
use Rattle.flood.proofs.flood_core.notes_for.Given as goal

abbrev pub invariant-loop-peer : goal.invariant-loop-peer
invariant-loop-peer g l = l.notes.items ≡ map (note_to l.id l.payload) (others l.except (take l.peer-index l.peers))
