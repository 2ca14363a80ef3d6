use Rattle.std.proofs.Common.{◌≡◌, ◌++◌, drop, string_bytes}
use Rattle.trace_text.specs.Step.{flight_items}
use Rattle.trace_text.proofs.steps.push_flight_items.Given as goal

abbrev pub invariant-loop-place : goal.invariant-loop-place
invariant-loop-place g l = string_bytes l.text ++ flight_items l.place (drop l.place l.flight) ≡ string_bytes l.initial.text ++ flight_items 0 l.flight
