-- From whom each delivery came.
use Rattle.std.specs.Prelude.{◌≡◌, ◌⊎◌, List, [], ◌∷◌, Some, None}
use Rattle.std.specs.List.{AllByRecursion as Each}
use Rattle.node_names.specs.declared.ids.Origin.{Origin}
use Rattle.protocol.specs.Delivery.{Delivery}
use Rattle.world.specs.Entry.{Entry}
use Rattle.world.specs.History.{Delivered}
use Rattle.world.specs.Rest.{GaveFrom}
use Rattle.world.specs.declared.packet.Packet.{Packet}

-- The event gave the delivery by a broadcast of the message's own origin, or by the arrival of a packet whose sender
-- had delivered the message before.
abbrev pub HasParent : {N : Type 0} → List (Packet N) → List Entry → Entry → Delivery → Type 0
HasParent sent past entry d =
    (GaveFrom sent entry.event entry None × (d.node ≡ d.id.origin))
    ⊎ ((sender : Origin) × GaveFrom sent entry.event entry (Some sender) × Delivered past sender d.id)

-- Every delivery of the history was made in this way.
abbrev pub HaveParents : {N : Type 0} → List (Packet N) → List Entry → Type 0
HaveParents sent [] = Unit {0}
HaveParents sent (entry ∷ past) = Each (λ d. HasParent sent past entry d) entry.given × HaveParents sent past
