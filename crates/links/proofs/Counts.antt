-- Counts over several calls.
use Rattle.std.proofs.Common.{◌≡◌, ℕ, ◌+◌, ◌≤◌, false, arith}
use Rattle.std.proofs.lemmas.Bool.Decides.{nat_tests}
use Rattle.links.specs.Counting.{counted, has_risen}

-- one more call
pub counted_more : (count calls : ℕ) → counted (counted count calls) 1 ≡ counted count (calls + 1)
counted_more count calls = omega arith

-- a count of failures that was read before and after a call, and did not rise
pub unrisen : (before after old mid new : ℕ) → before ≡ old → after ≡ new → mid ≡ old → mid ≤ new → has_risen before after ≡ false → new ≡ old
unrisen before after old mid new b a m up same = grind (arith, nat_tests)
