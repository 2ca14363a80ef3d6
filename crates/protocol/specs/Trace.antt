-- What one run of a node did, as a list of its steps.
use Rattle.std.specs.Prelude.{List, Option}
use Rattle.std.specs.List.{flat_map}
use Rattle.node_names.specs.NodeName.{Name}
use Rattle.node_names.specs.declared.ids.Origin.{Origin}
use Rattle.protocol.specs.Delivery.{Delivery}
use Rattle.protocol.specs.Output.{Output}
use Rattle.protocol.specs.Stimulus.{Stimulus}

-- What made the core step, and what it then sent and delivered.
pub record Step (N : Type 0) : Type 0 where
  pub stimulus : Stimulus N
  pub out : Output N

-- Which run it is; the peers and the contact that it started with; what its start gave; and its steps, the first one
-- first.
pub record Trace (N : Type 0) : Type 0 where
  pub origin : Origin
  pub peers : List Name
  pub contact : Option Name
  pub opening : Output N
  pub steps : List (Step N)

-- what the steps delivered, in order
abbrev pub delivered : {N : Type 0} → List (Step N) → List Delivery
delivered steps = flat_map (λ s. s.out.deliveries) steps
