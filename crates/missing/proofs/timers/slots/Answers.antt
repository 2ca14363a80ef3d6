use Rattle.missing.proofs.SlotLemmas.{gone-within}
use Rattle.missing.proofs.timers.slots.Goals as goal

pub behind-requires-clause-within : goal.behind-requires-clause-within
behind-requires-clause-within g c = rw c.deref.ensures.value (gone-within c.args.timers.now.gone c.args.timers.now.slots.items c.requires)
