-- A node may go to another thread: what its handle owns names no thread.
use mir.Raw.{raw}
use base.Shift.{Keyless}
use denote.Memory.{lone}
use denote.RawPtr.{Ptr}
use denote.Struct.Struct.{exits_of}
use denote.Struct.Owning.{shape, fields, to}
use denote.Param.Send.{IsSend, AllSend, owning_send, struct_send, sendable}
use Rattle.std.proofs.Crossing as heap
use Rattle.std.specs.Prelude.{Option, None, Some}
use Rattle.std.specs.Global.{Global}
use Rattle.std_alloc.proofs.SendSync.{quiet, lies}
use Rattle.std_heap.proofs.Global.TheSendSync as handle
use Rattle.plumtree_c.specs.Kept.{Kept}
use Rattle.plumtree_c.specs.Kept.Kept.{Machine, Bytes}
use Rattle.plumtree_c.specs.Owned.{kept_owned}
use Rattle.plumtree_c.specs.contracts.node.Node as Node
use Rattle.plumtree_c.specs.contracts.wire.Wire as Wire
use Rattle.plumtree_c.proofs.node.Node.TheSendSync.{the_send as node}
use Rattle.plumtree_c.proofs.wire.Wire.TheSendSync.{the_send as wire}
use Rattle.plumtree_c.specs.contracts.held.Held.{the_row, the_type}

owned : (alloc : Global) (at : Ptr) (kept : Option Kept) → Keyless (kept_owned alloc at kept)
owned alloc at None = tt
owned alloc at (Some (Machine its)) = (lies Node.the_row node at its, heap.frees.frees alloc (raw (lone Node.the_row.mir)) at)
owned alloc at (Some (Bytes its)) = (lies Wire.the_row wire at its, heap.frees.frees alloc (raw (lone Wire.the_row.mir)) at)

pub send : IsSend the_row
send =
    let all : AllSend (fields the_type) = (search sendable, (handle.the_field_send, tt)) in
    owning_send the_type all (λ d. owned d.alloc d.at d.value)
    (λ k. quiet (to the_type) (exits_of k (fields the_type)) ((struct_send (shape the_type) all).leaving k))
