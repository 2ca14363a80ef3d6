use Rattle.std.proofs.Common.{◌≡◌, ◌++◌, length, take}
use Rattle.std.specs.List.{flat_map}
use Rattle.step_records.specs.Text.{number_text}
use Rattle.step_records.proofs.fields.Fields.dice.Given as goal

-- the words so far are read, and the bytes behind them are left
abbrev pub invariant-loop-i : goal.invariant-loop-i
invariant-loop-i l = (l.fn.self ≡ flat_map number_text (take l.i l.dice.0) ++ l.self) × (length l.dice.0 ≡ 16)
