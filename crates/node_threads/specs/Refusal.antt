-- When a running node refuses a step.
use Rattle.std.specs.Prelude.{◌≡◌, ◌⊎◌, ◌<◌, ◌≤◌, ◌+◌, ◌^◌, ℕ, List, true, false, length}
use Rattle.protocol.specs.IdentityLaw.{IsTooLong}
use Rattle.protocol.specs.Stimulus.{Stimulus}
use Rattle.protocol.specs.declared.TheConstants.{MAX_PAYLOAD}
use Rattle.protocol.specs.declared.protocol.CoreError.TheVariants.{PayloadTooLong, SeqSpent, OutOfMemory}
use Rattle.frames.specs.Frame.{Frame}
use Rattle.node_threads.specs.Cell.{Cell, steps_made}
use Rattle.node_threads.specs.declared.error.HostError.{HostError}
use Rattle.node_threads.specs.declared.error.HostError.TheVariants as host

-- The node was not shut, its trace may have one more step, and there is a number for the place behind it.
abbrev pub HasRoom : {C : Type 0} → Cell C → Type 0
HasRoom cell = (cell.is_shut ≡ false) × (length cell.trace.steps < cell.limit) × (steps_made cell + 1 < 2 ^ 64)

-- When the core refuses the step with this error: a payload that is too long is refused as such, and numbers are used
-- up only if the core says so.
abbrev pub CoreRefuses : {C : Type 0} → (C → Stimulus Frame → Type 0) → C → Stimulus Frame → HostError → Type 0
CoreRefuses is_spent core stimulus host.Closed = ⊥
CoreRefuses is_spent core stimulus host.TraceFull = ⊥
CoreRefuses is_spent core stimulus (host.Refused PayloadTooLong) = IsTooLong stimulus
CoreRefuses is_spent core stimulus (host.Refused SeqSpent) = (IsTooLong stimulus → ⊥) × is_spent core stimulus
CoreRefuses is_spent core stimulus (host.Refused OutOfMemory) = ⊥
CoreRefuses is_spent core stimulus host.GateShut = ⊥
CoreRefuses is_spent core stimulus host.OutOfMemory = IsTooLong stimulus → ⊥

-- When the node refuses the step with this error, in this order: it was shut; its trace is full; the core refuses; an
-- allocation is refused.
abbrev pub Refuses : {C : Type 0} → (C → Stimulus Frame → Type 0) → Cell C → Stimulus Frame → HostError → Type 0
Refuses is_spent cell stimulus host.Closed = cell.is_shut ≡ true
Refuses is_spent cell stimulus host.TraceFull = (cell.is_shut ≡ false) × ((cell.limit ≤ length cell.trace.steps) ⊎ (2 ^ 64 ≤ steps_made cell + 1))
Refuses is_spent cell stimulus (host.Refused error) = HasRoom cell × CoreRefuses is_spent cell.core stimulus (host.Refused error)
Refuses is_spent cell stimulus host.GateShut = ⊥
Refuses is_spent cell stimulus host.OutOfMemory = HasRoom cell × (IsTooLong stimulus → ⊥)

-- When a port refuses to broadcast a payload with this error: if the error says that it is too long, it is, and if the
-- error says that all numbers are used up, it is not too long. The error is never `GateShut`.
abbrev pub RefusesPayload : List ℕ → HostError → Type 0
RefusesPayload payload host.Closed = Unit {0}
RefusesPayload payload host.TraceFull = Unit {0}
RefusesPayload payload (host.Refused PayloadTooLong) = MAX_PAYLOAD < length payload
RefusesPayload payload (host.Refused SeqSpent) = length payload ≤ MAX_PAYLOAD
RefusesPayload payload (host.Refused OutOfMemory) = ⊥
RefusesPayload payload host.GateShut = ⊥
RefusesPayload payload host.OutOfMemory = Unit {0}
