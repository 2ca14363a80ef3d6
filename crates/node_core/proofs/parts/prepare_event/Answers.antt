-- The view has changed if the sets are not the same, and what is sent is what the table sends.
use Rattle.std.proofs.Common.{◌≡◌, ◌<◌, ◌+◌, ◌^◌, ◌-◌, List, None, true, ◌∙◌, ap, length, subst, sym}
use Rattle.std.specs.Prelude.{◌↔◌, not}
use Rattle.std.specs.declared.result.Result.TheVariants.{Err}
use Rattle.node_names.specs.NodeName.{Name}
use Rattle.views.specs.Views.{Views}
use Rattle.membership.specs.Event.{lent}
use Rattle.membership.specs.Membership.{Membership, Moves, Turn, moves_of, still}
use Rattle.membership.specs.Table.{table}
use Rattle.protocol.specs.SameNames.{SameNames}
use Rattle.protocol.specs.declared.protocol.CoreError.TheVariants.{SeqSpent}
use Rattle.node_core.specs.Fits.{AreFit}
use Rattle.node_core.specs.Steps.{appended}
use Rattle.node_core.proofs.SameSets.{was_true}
use Rattle.node_core.proofs.Told.{error_is}
use Rattle.node_core.proofs.parts.prepare_event.Goals as goal

-- the packets of the moves are those of the turn
sent : (t : Turn) {inside moves : Moves} → inside ≡ moves → moves ≡ moves_of t → inside.sends ≡ t.sends
sent t view is = ap (λ (m : Moves). m.sends) (view ∙ is)

pub returns-clause-moved : goal.returns-clause-moved
returns-clause-moved g c =
    let old : c.active.result.now.keys ≡ c.args.membership.now.views.active = c.active.ensures.names ∙ ap (λ (v : Views). v.active) c.views.ensures in
    let new = c.active-2.ensures.names ∙ ap (λ (v : Views). v.active) c.views-2.ensures ∙ ap (λ (m : Membership). m.views.active) c.in_ok-next.ensures.next in
    let same : (c.are_same-is_moved.result ≡ true) ↔ SameNames c.args.membership.now.views.active _ =
    subst (λ (names : List Name). (c.are_same-is_moved.result ≡ true) ↔ SameNames c.args.membership.now.views.active names) new
    (subst (λ (names : List Name). (c.are_same-is_moved.result ≡ true) ↔ SameNames names c.active-2.result.now.keys) old c.are_same-is_moved.ensures) in
    ((λ e. same.0 (was_true c.are_same-is_moved.result e)), (λ s. ap not (same.1 s)))

pub append_list-requires : goal.append_list-requires
append_list-requires g c =
    subst AreFit
    (sym (sent (table (lent c.args.event.now) c.args.dice.now (still c.args.membership.now)) c.moves.view_is c.in_ok-next.ensures.moves)) c.requires

pub returns-in_err-framed-clause-spent : goal.returns-in_err-framed-clause-spent
returns-in_err-framed-clause-spent g c is =
    subst (λ sends. 2 ^ 64 - 1 < c.args.framed + length sends)
    (sent (table (lent c.args.event.now) c.args.dice.now (still c.args.membership.now)) c.moves.view_is c.in_ok-next.ensures.moves)
    (c.in_err-framed.ensures.spent
    (ap Err (error_is c.from_residual-in_err-framed.result c.in_err-framed.field-0.0 SeqSpent c.from_residual-in_err-framed.ensures.1 is)))

pub returns-clause-last : goal.returns-clause-last
returns-clause-last g c =
    c.in_ok-framed.ensures.last
    ∙ ap (λ sends. c.args.framed + length sends)
    (sent (table (lent c.args.event.now) c.args.dice.now (still c.args.membership.now)) c.moves.view_is c.in_ok-next.ensures.moves)

pub returns-clause-ok : goal.returns-clause-ok
returns-clause-ok g c =
    c.in_ok-framed.ensures.ok
    ∙ ap (λ sends. appended c.args.me.now c.args.framed sends None c.args.out.now)
    (sent (table (lent c.args.event.now) c.args.dice.now (still c.args.membership.now)) c.moves.view_is c.in_ok-next.ensures.moves)
