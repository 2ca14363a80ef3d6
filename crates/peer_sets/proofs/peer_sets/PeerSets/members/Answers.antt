use Rattle.peer_sets.proofs.MemberLemmas.{split_from_distinct}
use Rattle.peer_sets.proofs.peer_sets.PeerSets.members.Goals as goal

pub returns-clause-split : goal.returns-clause-split
returns-clause-split g c = rw (← c.self.view_is) (split_from_distinct c.self.inside.members.items c.self.invariant.distinct)
