use Rattle.std.proofs.Common.{refl}
use Rattle.missing.proofs.SoundLemmas.{sound-empty}
use Rattle.missing.proofs.missing.Missing.new.Goals as goal

pub invariant_of-result : goal.invariant_of-result
invariant_of-result g c =
    (rw (c.new.ensures.items, c.new-4.ensures.timers) sound-empty, rw (c.new.ensures.items, c.new-2.ensures.empty) ((λ at. refl), tt), c.new-4.ensures.timed)
