-- The first place of all is that of the first node with a queue.
use Rattle.std.proofs.Common.{◌∙◌, sym, ap}
use Rattle.std.specs.Prelude.{slice_get}
use Rattle.at_rest.specs.Settling.{queue_of}
use Rattle.at_rest.specs.declared.left.Kind.TheVariants.{Announcements}
use Rattle.at_rest.proofs.Lefts.{first_with, no_keys, no_name, none_left, queues_tell}
use Rattle.at_rest.proofs.next.next_flush.Goals as goal

pub returns-in_err-first-clause-none : goal.returns-in_err-first-clause-none
returns-in_err-first-clause-none g c =
    rw c.from_residual.ensures
    (none_left g.C.Core.state Announcements (queue_of g.C.Core.state)
    (queues_tell g.C.Core.state) c.args.world.now.group.nodes c.args.left.now.queues c.requires
    (no_keys c.args.left.now.queues.keys c.in_err-first.ensures.variant.1))

pub returns-in_err-name-clause-none : goal.returns-in_err-name-clause-none
returns-in_err-name-clause-none g c =
    absurd (no_name g.C.Core.state Announcements (queue_of g.C.Core.state)
    (queues_tell g.C.Core.state) c.args.world.now.group.nodes c.args.left.now.queues c.requires c.in_ok-first.field-0.now c.in_ok-first.ensures.member
    (sym (ap (λ ks. slice_get ks c.in_ok-first.field-0.now) c.names.ensures) ∙ sym c.in_err-name.ensures.key))

pub returns-clause-first : goal.returns-clause-first
returns-clause-first g c =
    first_with g.C.Core.state Announcements (queue_of g.C.Core.state)
    (queues_tell g.C.Core.state) c.args.world.now.group.nodes c.args.left.now.queues c.requires c.in_ok-first.field-0.now c.in_ok-name.field-0.now
    (sym (ap (λ ks. slice_get ks c.in_ok-first.field-0.now) c.names.ensures) ∙ sym c.in_ok-name.ensures.key) c.in_ok-first.ensures.member
    c.in_ok-first.ensures.least
