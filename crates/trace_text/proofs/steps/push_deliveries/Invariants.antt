use Rattle.std.proofs.Common.{◌≡◌, ◌++◌, string_bytes, take}
use Rattle.trace_text.specs.Step.{delivery_lines}
use Rattle.trace_text.proofs.steps.push_deliveries.Given as goal

abbrev pub invariant-loop-delivery : goal.invariant-loop-delivery
invariant-loop-delivery g l = string_bytes l.text ≡ string_bytes l.initial.text ++ delivery_lines (take l.delivery-index l.given)
