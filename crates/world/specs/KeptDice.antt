-- Dice as the log keeps them.
use Rattle.std.specs.Prelude.{Option, Some, None, replicate}
use Rattle.std.specs.declared.boxed.Box.{Box}
use Rattle.node_names.specs.declared.dice.Dice.{Dice}

-- the dice that were drawn, or else zeros
abbrev pub dice_of : {A : Type 0} → Option (Box Dice A) → Dice
dice_of None = record { 0 = replicate 16 0 }
dice_of (Some dice) = dice.value
