-- The printed forms of refusals.
use Rattle.std.specs.Prelude.{ℕ, List, codes}
use Rattle.protocol.specs.declared.protocol.CoreError.{CoreError}
use Rattle.protocol.specs.declared.protocol.CoreError.TheVariants as core

-- why a core refused a step
abbrev pub core_error_text : CoreError → List ℕ
core_error_text core.PayloadTooLong = codes "the payload is too long"
core_error_text core.SeqSpent = codes "the numbers of this incarnation are used up"
core_error_text core.OutOfMemory = codes "out of memory"
