use Rattle.std.proofs.Common.{map, subst}
use Rattle.plumtree_c.specs.Plain.{contact_of, limits_of, name_of, origin_of}
use Rattle.plumtree_c.specs.Slots.{HasBytes}
use Rattle.plumtree_c.specs.Wire.{WireStarts}
use Rattle.plumtree_c.proofs.lifetime.plumtree_wire_start.Goals as goal

pub returns-in-Ok-answer-clause-done : goal.returns-in-Ok-answer-clause-done
returns-in-Ok-answer-clause-done c done =
    subst (λ name. HasBytes c.start_wire-answer.new.slot.held.value
    (WireStarts (origin_of name c.args.incarnation) (limits_of c.args.limits.now) c.args.waiting
    (map name_of c.args.peers.now) (contact_of c.args.contact.now)))
    c.in-Ok.ensures.ok c.in-Ok-answer.ensures.ok
