-- A handle, its parts and a box of a node own the same, and lie alike in memory.
use mathlib.Core.Path.{◌≡◌, refl}
use mir.Syntax.{impl, tnil, dnil}
use mathlib.Core.List.{[]}
use denote.Signature.{Slot, plain}
use Rattle.std.specs.Prelude.{Option, Some, None, IsTrue}
use Rattle.std.proofs.Common.{rules}
use Rattle.std_alloc.proofs.BoxSteps.Form.{Bx}
use Rattle.std_heap.specs.contracts.Global as Heap
use Rattle.std_heap.specs.contracts.GlobalAllocator.TheImpl.{ghosts, dict}
use Rattle.std_heap.proofs.Global.TheLaws as heap
use Rattle.plumtree_c.specs.Kept.{Kept}
use Rattle.plumtree_c.specs.Kept.Kept.{Machine, Bytes}
use Rattle.plumtree_c.specs.Owned.{has_bytes, has_machine}
use Rattle.plumtree_c.specs.contracts.node.Node as Node
use Rattle.plumtree_c.proofs.node.Node.TheLaws as node
use Rattle.plumtree_c.specs.contracts.wire.Wire as Wire
use Rattle.plumtree_c.proofs.wire.Wire.TheLaws as wire
use Rattle.plumtree_c.specs.contracts.parts.Parts as Parts
use Rattle.plumtree_c.specs.contracts.held.Held as Held

-- a box of a state machine
abbrev pub N : Bx
N = record {
  row = Node.the_row;
  laws = node.the_row_laws;
  al = record { row = Heap.the_row; laws = heap.the_row_laws; g = ghosts; d = dict; drops = impl [] tnil dnil };
}

-- a box of a node of bytes
abbrev pub W : Bx
W = record {
  row = Wire.the_row;
  laws = wire.the_row_laws;
  al = record { row = Heap.the_row; laws = heap.the_row_laws; g = ghosts; d = dict; drops = impl [] tnil dnil };
}

abbrev pub FromMachine : Slot 0
FromMachine = plain (λ _. Parts.the_row Node.the_row Heap.the_row ghosts)

abbrev pub FromBytes : Slot 0
FromBytes = plain (λ _. Parts.the_row Wire.the_row Heap.the_row ghosts)

abbrev pub FromHeld : Slot 0
FromHeld = plain (λ _. Held.the_row)

abbrev pub FromHeap : Slot 0
FromHeap = plain (λ _. Heap.the_row)

pub machine_of : (kept : Option Kept) → IsTrue (has_machine kept) → (node : Node.the_row.Denot) × (kept ≡ Some (Machine node))
machine_of None h = absurd (search rules)
machine_of (Some (Machine node)) h = (node, refl)
machine_of (Some (Bytes wire)) h = absurd (search rules)

pub bytes_of : (kept : Option Kept) → IsTrue (has_bytes kept) → (wire : Wire.the_row.Denot) × (kept ≡ Some (Bytes wire))
bytes_of None h = absurd (search rules)
bytes_of (Some (Machine node)) h = absurd (search rules)
bytes_of (Some (Bytes wire)) h = (wire, refl)
