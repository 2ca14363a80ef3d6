-- What a step gives.
use Rattle.std.specs.Prelude.{◌≡◌, List, ◌++◌}
use Rattle.node_names.specs.NodeName.{Name}
use Rattle.protocol.specs.Delivery.{Delivery}

-- The packets that a step sends, each with its receiver, and what it delivers, in order.
pub record Output (N : Type 0) : Type 0 where
  pub sends : List (Name × N)
  pub deliveries : List Delivery

-- The step appends packets and deliveries to the output, by which it leads from the old core to the new one.
pub record Stepped {C N S : Type 0} (steps : C → S → List (Name × N) → List Delivery → C → Type 0)
    (old : C) (stimulus : S) (before : Output N) (new : C) (after : Output N) : Type 0 where
  pub sends : List (Name × N)
  pub given : List Delivery
  pub stepped : steps old stimulus sends given new
  pub sent : after.sends ≡ before.sends ++ sends
  pub delivered : after.deliveries ≡ before.deliveries ++ given
