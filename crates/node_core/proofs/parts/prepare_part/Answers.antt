-- What the membership moves, the part moves.
use Rattle.node_core.proofs.parts.prepare_part.Goals as goal

pub returns-in-Membership-clause-moved : goal.returns-in-Membership-clause-moved
returns-in-Membership-clause-moved g c = rw c.in-Membership.is c.prepare_event.ensures.moved
