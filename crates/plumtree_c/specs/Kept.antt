-- What a slot may have: a state machine, or a node of bytes.
use base.Stored.{Coded}
use Rattle.std.specs.Prelude.{◌≡◌, ◌⊎◌, refl, Option}
use mathlib.Core.Logic.{inl, inr}
use Rattle.std.specs.Coded.{code_by, coded_option, coded⊎}
use Rattle.node_core.specs.Plum.{Plum}
use Rattle.plumtree_c.specs.contracts.node.Node as node
use Rattle.plumtree_c.specs.contracts.wire.Wire as wire

-- A state machine, or a node of bytes.
pub data Kept : Type 0 where
  Machine : node.the_row.Denot → Kept
  Bytes : wire.the_row.Denot → Kept

abbrev split : Kept → node.the_row.Denot ⊎ wire.the_row.Denot
split (Machine node) = inl node
split (Bytes wire) = inr wire

abbrev join : node.the_row.Denot ⊎ wire.the_row.Denot → Kept
join (inl node) = Machine node
join (inr wire) = Bytes wire

pub join-split : (kept : Kept) → join (split kept) ≡ kept
join-split (Machine node) = refl
join-split (Bytes wire) = refl

abbrev pub kept_coded : Coded (Option Kept)
kept_coded = coded_option (code_by (node.the_row.Denot ⊎ wire.the_row.Denot) (coded⊎ node.the_row.coded wire.the_row.coded) split join join-split)

-- the core
abbrev pub core_in : Kept → Plum
core_in (Machine its) = its.core
core_in (Bytes its) = its.node.engine.machine.core
