-- The first place of all is that of the first node with a timer.
use Rattle.std.proofs.Common.{◌≡◌, ◌∙◌, sym, ap}
use Rattle.std.specs.Prelude.{Option, Some, None, [], ◌∷◌, List, slice_get}
use Rattle.node_names.specs.Slots.{somes}
use Rattle.node_names.specs.declared.ids.MsgId.{MsgId}
use Rattle.world.specs.declared.event.EventOf.TheVariants.{Fire}
use Rattle.at_rest.specs.Settling.{timers_of}
use Rattle.at_rest.specs.declared.left.Kind.TheVariants.{Timers}
use Rattle.at_rest.proofs.Lefts.{first_with, is_first, no_keys, no_name, none_left, some_item, timers_tell}
use Rattle.at_rest.proofs.next.next_firing.Goals as goal

pub returns-in_err-first-clause-none : goal.returns-in_err-first-clause-none
returns-in_err-first-clause-none g c =
    rw c.from_residual.ensures
    (none_left g.C.Core.state Timers (timers_of g.C.Core.state) (timers_tell g.C.Core.state) c.args.world.now.group.nodes c.args.left.now.timers c.requires
    (no_keys c.args.left.now.timers.keys c.in_err-first.ensures.variant.1))

pub returns-in_err-name-clause-none : goal.returns-in_err-name-clause-none
returns-in_err-name-clause-none g c =
    absurd (no_name g.C.Core.state Timers (timers_of g.C.Core.state)
    (timers_tell g.C.Core.state) c.args.world.now.group.nodes c.args.left.now.timers c.requires c.in_ok-first.field-0.now c.in_ok-first.ensures.member
    (sym (ap (λ ks. slice_get ks c.in_ok-first.field-0.now) c.names.ensures) ∙ sym c.in_err-name.ensures.key))

pub returns-in_err-core-clause-none : goal.returns-in_err-core-clause-none
returns-in_err-core-clause-none g c =
    let some =
    some_item g.C.Core.state Timers (timers_of g.C.Core.state)
    (timers_tell g.C.Core.state) c.args.world.now.group.nodes c.args.left.now.timers c.requires c.in_ok-first.field-0.now c.in_ok-name.field-0.now
    (sym (ap (λ ks. slice_get ks c.in_ok-first.field-0.now) c.names.ensures) ∙ sym c.in_ok-name.ensures.key) c.in_ok-first.ensures.member in
    let none : [] ≡ some.0 ∷ some.1 = ap (λ (o : Option g.row.C.Denot). timers_of g.C.Core.state o) c.in_err-core.ensures ∙ some.2 in
    cc

pub returns-in_err-id-clause-none : goal.returns-in_err-id-clause-none
returns-in_err-id-clause-none g c =
    let some =
    some_item g.C.Core.state Timers (timers_of g.C.Core.state)
    (timers_tell g.C.Core.state) c.args.world.now.group.nodes c.args.left.now.timers c.requires c.in_ok-first.field-0.now c.in_ok-name.field-0.now
    (sym (ap (λ ks. slice_get ks c.in_ok-first.field-0.now) c.names.ensures) ∙ sym c.in_ok-name.ensures.key) c.in_ok-first.ensures.member in
    let all : somes c.timers.result.now ≡ some.0 ∷ some.1 =
    c.timers.ensures ∙ ap (λ (o : Option g.row.C.Denot). timers_of g.C.Core.state o) c.in_ok-core.ensures ∙ some.2 in
    let none : None ≡ Some some.0 = c.in_err-id.ensures ∙ ap (λ (ids : List MsgId). slice_get ids 0) all in
    cc

pub returns-clause-first : goal.returns-clause-first
returns-clause-first g c =
    let first =
    first_with g.C.Core.state Timers (timers_of g.C.Core.state)
    (timers_tell g.C.Core.state) c.args.world.now.group.nodes c.args.left.now.timers c.requires c.in_ok-first.field-0.now c.in_ok-name.field-0.now
    (sym (ap (λ ks. slice_get ks c.in_ok-first.field-0.now) c.names.ensures) ∙ sym c.in_ok-name.ensures.key) c.in_ok-first.ensures.member
    c.in_ok-first.ensures.least in
    let all : somes c.timers.result.now ≡ first.0 ∷ first.1.others =
    c.timers.ensures ∙ ap (λ (o : Option g.row.C.Denot). timers_of g.C.Core.state o) c.in_ok-core.ensures ∙ first.1.something in (
      first.0,
      first.1,
      ap (λ id. Fire c.in_ok-name.field-0.now id) (sym (is_first (somes c.timers.result.now) c.in_ok-id.id first.0 first.1.others c.in_ok-id.ensures all)),
    )
