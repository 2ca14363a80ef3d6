-- The stimuli that make a core step.
use denote.Ref.{Bor}
use Rattle.std.specs.Prelude.{◌≢◌, ℕ, List}
use Rattle.node_names.specs.NodeName.{Name}
use Rattle.protocol.specs.declared.stimulus.StimulusOf.{StimulusOf}
use Rattle.protocol.specs.declared.stimulus.StimulusOf.TheVariants.{Broadcast, Arrive, Fire, Flush, Down, Shuffle, Join}

-- A stimulus whose packet is of the type N.
abbrev pub Stimulus : Type 0 → Type 0
Stimulus N = StimulusOf (List ℕ) N

-- the stimulus itself, where its payload or packet is borrowed
abbrev pub lent : {P N : Type 0} → StimulusOf (Bor P) (Bor N) → StimulusOf P N
lent (Broadcast payload) = Broadcast payload.now
lent (Arrive sender note dice) = Arrive sender note.now dice
lent (Fire id) = Fire id
lent Flush = Flush
lent (Down peer dice) = Down peer dice
lent (Shuffle dice) = Shuffle dice
lent (Join contact) = Join contact

-- The stimulus is no packet from a sender of this name.
abbrev pub IsNotFrom : {N : Type 0} → Name → Stimulus N → Type 0
IsNotFrom name (Arrive sender note dice) = sender.name ≢ name
IsNotFrom name (Broadcast payload) = Unit {0}
IsNotFrom name (Fire id) = Unit {0}
IsNotFrom name Flush = Unit {0}
IsNotFrom name (Down peer dice) = Unit {0}
IsNotFrom name (Shuffle dice) = Unit {0}
IsNotFrom name (Join contact) = Unit {0}
