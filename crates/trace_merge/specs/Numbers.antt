-- Numbers that have at most 64 bits.
use Rattle.std.specs.Prelude.{◌≤◌, ℕ, List}
use Rattle.node_names.specs.NodeName.{Name}
use Rattle.protocol.specs.Delivery.{Delivery}
use Rattle.protocol.specs.Lists.{IsOneOf}
use Rattle.frames.specs.Frame.{Frame}

-- the greatest number that has 64 bits
abbrev pub greatest : ℕ
greatest = 18446744073709551615

-- The frames' numbers have at most 64 bits.
abbrev pub AreShort : List (Name × Frame) → Type 0
AreShort sends = (send : Name × Frame) → IsOneOf send sends → send.1.number ≤ greatest

-- The messages' numbers have at most 64 bits.
abbrev pub AreFew : List Delivery → Type 0
AreFew given = (d : Delivery) → IsOneOf d given → d.id.seq ≤ greatest
