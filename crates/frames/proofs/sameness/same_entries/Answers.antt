-- The announcements are compared.
use Rattle.frames.proofs.SameFields.{decides_of, entries_Decide}
use Rattle.frames.proofs.sameness.same_entries.Goals as goal

pub returns : goal.returns
returns g c = decides_of c.eq.ensures (entries_Decide c.entries_of.result.now c.entries_of-2.result.now) c.entries_of.ensures c.entries_of-2.ensures
