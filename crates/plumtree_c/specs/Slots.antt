-- What the calls do to what a slot has, which is None where it has nothing.
use Rattle.std.specs.Prelude.{◌≡◌, Option, Some}
use Rattle.node_core.specs.Plum.{Plum}
use Rattle.plumtree_c.specs.Kept.{Kept, core_in}
use Rattle.plumtree_c.specs.Kept.Kept.{Bytes, Machine}
use Rattle.plumtree_c.specs.State.{NodeState}
use Rattle.plumtree_c.specs.Wire.{WireState}

-- Both slots have a state machine, and this holds of the two.
pub record Both (old new : Option Kept) (P : NodeState → NodeState → Type 0) : Type 0 where
  pub before : NodeState
  pub after : NodeState
  pub had : old ≡ Some (Machine before)
  pub has : new ≡ Some (Machine after)
  pub done : P before after

-- The slot has a state machine, and this holds of it.
pub record Has (slot : Option Kept) (P : NodeState → Type 0) : Type 0 where
  pub node : NodeState
  pub has : slot ≡ Some (Machine node)
  pub holds : P node

-- Both slots have a node of bytes, and this holds of the two.
pub record BothBytes (old new : Option Kept) (P : WireState → WireState → Type 0) : Type 0 where
  pub before : WireState
  pub after : WireState
  pub had : old ≡ Some (Bytes before)
  pub has : new ≡ Some (Bytes after)
  pub done : P before after

-- The slot has a node of bytes, and this holds of it.
pub record HasBytes (slot : Option Kept) (P : WireState → Type 0) : Type 0 where
  pub wire : WireState
  pub has : slot ≡ Some (Bytes wire)
  pub holds : P wire

-- The slot has a state machine or a node of bytes, and this holds of its core.
pub record HasCore (slot : Option Kept) (P : Plum → Type 0) : Type 0 where
  pub kept : Kept
  pub has : slot ≡ Some kept
  pub holds : P (core_in kept)
