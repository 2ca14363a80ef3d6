-- What the handle of a slot owns: what the box of its node owns, if there is one.
use base.Fml.{Fml, ftrue}
use denote.RawPtr.{Ptr}
use Rattle.std.specs.Prelude.{Bool, true, false, Option, None, Some}
use Rattle.std.specs.Box.Ownership.{box_owns}
use Rattle.std.specs.Global.{Global}
use Rattle.std_heap.specs.contracts.GlobalAllocator.TheImpl.{ghosts}
use Rattle.plumtree_c.specs.Kept.{Kept}
use Rattle.plumtree_c.specs.Kept.Kept.{Machine, Bytes}
use Rattle.plumtree_c.specs.contracts.node.Node as node
use Rattle.plumtree_c.specs.contracts.wire.Wire as wire

abbrev pub kept_owned : Global → Ptr → Option Kept → Fml
kept_owned alloc at None = ftrue
kept_owned alloc at (Some (Machine its)) = box_owns (ghosts.dealloc_token alloc) node.the_row at its
kept_owned alloc at (Some (Bytes its)) = box_owns (ghosts.dealloc_token alloc) wire.the_row at its

-- whether the slot has a state machine
abbrev pub has_machine : Option Kept → Bool
has_machine None = false
has_machine (Some (Machine node)) = true
has_machine (Some (Bytes wire)) = false

-- whether the slot has a node of bytes
abbrev pub has_bytes : Option Kept → Bool
has_bytes None = false
has_bytes (Some (Machine node)) = false
has_bytes (Some (Bytes wire)) = true
