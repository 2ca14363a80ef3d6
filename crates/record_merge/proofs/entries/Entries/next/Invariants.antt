use Rattle.std.proofs.Common.{ℕ, length}
use Rattle.record_merge.specs.Replaying.{BeginsFiles}
use Rattle.record_merge.proofs.entries.Entries.next.Given as goal

-- some files are begun, and no entry is found yet
abbrev pub invariant-files : goal.invariant-files
invariant-files l = (n : ℕ) × BeginsFiles n l.fn.self l.self

abbrev pub decreases-files : goal.decreases-files
decreases-files l = length l.self.files
