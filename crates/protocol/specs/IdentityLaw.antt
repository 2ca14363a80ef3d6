-- A core stays who it is.
use Rattle.std.specs.Prelude.{◌≡◌, ◌<◌, ◌≤◌, ◌^◌, ◌-◌, length}
use Rattle.protocol.specs.CoreState.{CoreState}
use Rattle.protocol.specs.Stimulus.{Stimulus}
use Rattle.protocol.specs.declared.TheConstants.{MAX_PAYLOAD}
use Rattle.protocol.specs.declared.stimulus.StimulusOf.TheVariants.{Broadcast, Arrive, Fire, Flush, Down, Shuffle, Join}

-- The core has the name and the incarnation that it had.
abbrev pub IdentityLaw : CoreState → CoreState → Type 0
IdentityLaw before after = after.me ≡ before.me

-- The stimulus is a broadcast of a payload that is too long: this alone is refused as such.
abbrev pub IsTooLong : {N : Type 0} → Stimulus N → Type 0
IsTooLong (Broadcast payload) = MAX_PAYLOAD < length payload
IsTooLong (Arrive sender note dice) = ⊥
IsTooLong (Fire id) = ⊥
IsTooLong Flush = ⊥
IsTooLong (Down peer dice) = ⊥
IsTooLong (Shuffle dice) = ⊥
IsTooLong (Join contact) = ⊥

-- The stimulus is a broadcast of an allowed payload, and the core has spent all its sequence numbers: this is refused
-- as such before anything is allocated.
abbrev pub IsOutOfNumbers : {N : Type 0} → CoreState → Stimulus N → Type 0
IsOutOfNumbers core (Broadcast payload) = (length payload ≤ MAX_PAYLOAD) × (core.count ≡ 2 ^ 64 - 1)
IsOutOfNumbers core (Arrive sender note dice) = ⊥
IsOutOfNumbers core (Fire id) = ⊥
IsOutOfNumbers core Flush = ⊥
IsOutOfNumbers core (Down peer dice) = ⊥
IsOutOfNumbers core (Shuffle dice) = ⊥
IsOutOfNumbers core (Join contact) = ⊥
