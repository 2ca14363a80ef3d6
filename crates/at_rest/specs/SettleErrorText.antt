-- The printed forms of the errors of settling.
use Rattle.std.specs.Prelude.{ℕ, List, codes}
use Rattle.at_rest.specs.declared.error.SettleError.{SettleError}
use Rattle.at_rest.specs.declared.error.SettleError.TheVariants.{NotCalm, SeqSpent, OutOfMemory}

abbrev pub settle_error_text : SettleError → List ℕ
settle_error_text NotCalm = codes "the group is not calm"
settle_error_text SeqSpent = codes "the numbers of a node are used up"
settle_error_text OutOfMemory = codes "out of memory"
