-- A list of announcements, whose count was read.
use Rattle.std.proofs.Common.{◌≡◌, ℕ, ◌≤◌, true, List, Ok, refl, arith}
use Rattle.std.specs.Prelude.{◌&&◌, nat_le}
use Rattle.std.specs.Int.{w16}
use Rattle.std.proofs.lemmas.Bool.Decides.{nat_tests}
use Rattle.frames.specs.declared.TheConstants.{MAX_ANNOUNCEMENTS}
use Rattle.frames.specs.Reading.{word, times, announcement, announcements, alone}

count_passes : (n : ℕ) → 1 ≤ n → n ≤ MAX_ANNOUNCEMENTS → (nat_le 1 n && nat_le n MAX_ANNOUNCEMENTS) ≡ true
count_passes n some few = grind (arith, nat_tests)

-- as many announcements are read as the count says
pub announcements_after : (old after : List ℕ) (count n : ℕ) →
    word w16 old ≡ Ok (n, after) →
    count ≡ n →
    1 ≤ count →
    count ≤ MAX_ANNOUNCEMENTS →
    alone announcements old ≡ alone (times count announcement) after
unfolding announcements alone
announcements_after old after count n read is some few = rw (read, ← is, count_passes count some few) refl
