use Rattle.std.proofs.Common.{◌≡◌, ◌++◌, ℕ, List, string_bytes, take}
use Rattle.trace_text.specs.Counts.{TellsSpreads}
use Rattle.trace_text.proofs.summary.push_spreads.Given as goal

abbrev pub invariant-loop-id : goal.invariant-loop-id
invariant-loop-id g l = (told : List ℕ) × TellsSpreads l.sent (take l.id-index l.ids) told × (string_bytes l.text ≡ string_bytes l.initial.text ++ told)
