-- What a stimulus does is what its part does.
use Rattle.std.proofs.Common.{◌≡◌, ◌<◌, ◌+◌, ◌-◌, ◌^◌, length, sym, subst, inl, inr}
use Rattle.std.specs.Prelude.{◌↔◌, IfOk, OnOk, false}
use Rattle.views.specs.Views.{AreSound}
use Rattle.protocol.specs.IdentityLaw.{IsOutOfNumbers, IsTooLong}
use Rattle.protocol.specs.Output.{Stepped}
use Rattle.protocol.specs.SameNames.{SameNames}
use Rattle.protocol.specs.Stimulus.{lent}
use Rattle.node_core.specs.Fits.{AreFit}
use Rattle.node_core.specs.Parts.{IsSpentPart, IsTooLongPart, IsTurn, Makes, Part}
use Rattle.node_core.specs.Plum.{Plum, plum_state}
use Rattle.node_core.specs.Steps.{IsAllowed, PlumIsSpent, PlumSteps, Turned, appended, plum_after, turned}
use Rattle.node_core.proofs.Fitting.{turned_fits}
use Rattle.node_core.proofs.PartsAgree.{allowed_by, both_ways, ok_allowed, part_does, spent_by, too_long_by}
use Rattle.node_core.proofs.Told.{gives_step, keeps_turn}
use Rattle.node_core.proofs.plum_core.PlumCoreCore.prepare.Goals as goal

pub prepare_part-requires : goal.prepare_part-requires
prepare_part-requires g c short =
    let core : Plum = record { me = c.self.inside.me; membership = c.self.inside.membership; gossip = c.self.inside.gossip; framed = c.self.inside.framed } in
    let allowed : IsAllowed (lent c.args.stimulus.now) =
    allowed_by (lent c.args.stimulus.now) (λ long. short (subst IsTooLongPart (sym c.part_of-part.ensures)
    ((too_long_by c.self.inside.me c.self.inside.membership (lent c.args.stimulus.now)).1 long))) in
    subst (λ (t : Turned). AreFit t.sends) (sym (part_does core (lent c.args.stimulus.now) c.part_of-part.ensures))
    (turned_fits core c.self.invariant (subst AreSound c.views.ensures c.limits-sound.ensures.sound)
    (lent c.args.stimulus.now) (c.heed.ensures allowed)).1

pub returns-clause-too_long : goal.returns-clause-too_long
returns-clause-too_long g c =
    both_ways c.prepare_part.ensures.too_long (subst (λ (p : Part). IsTooLongPart p ↔ IsTooLong (lent c.args.stimulus.now))
    (sym c.part_of-part.ensures) (too_long_by c.self.inside.me c.self.inside.membership (lent c.args.stimulus.now)))

pub returns-clause-turn : goal.returns-clause-turn
returns-clause-turn g c =
    let core : Plum = record { me = c.self.inside.me; membership = c.self.inside.membership; gossip = c.self.inside.gossip; framed = c.self.inside.framed } in
    subst (λ (core : Plum). IfOk c.prepare_part.result (λ prepared. IsTurn core (lent c.args.stimulus.now) prepared.turn)) c.self.view_is
    (keeps_turn c.prepare_part.result core (lent c.args.stimulus.now)
    (ok_allowed c.prepare_part.result (lent c.args.stimulus.now) (returns-clause-too_long g c))
    (subst (λ (t : Turned). IfOk c.prepare_part.result (λ prepared. Makes core.membership core.gossip t prepared.turn.moved prepared.turn.row))
    (part_does core (lent c.args.stimulus.now) c.part_of-part.ensures)
    c.prepare_part.ensures.makes)
    (subst (λ (t : Turned). IfOk c.prepare_part.result (λ prepared. prepared.turn.framed ≡ core.framed + length t.sends))
    (part_does core (lent c.args.stimulus.now) c.part_of-part.ensures)
    c.prepare_part.ensures.last))

pub returns-clause-stepped : goal.returns-clause-stepped
returns-clause-stepped g c =
    let core : Plum = record { me = c.self.inside.me; membership = c.self.inside.membership; gossip = c.self.inside.gossip; framed = c.self.inside.framed } in
    subst (λ (core : Plum). OnOk c.prepare_part.result (Stepped PlumSteps core (lent c.args.stimulus.now) c.args.out.now
    (plum_after core (lent c.args.stimulus.now)) c.prepare_part.new.out)) c.self.view_is
    (gives_step c.prepare_part.result core (lent c.args.stimulus.now) c.args.out.now c.prepare_part.new.out
    (ok_allowed c.prepare_part.result (lent c.args.stimulus.now) (returns-clause-too_long g c))
    (subst (λ (t : Turned). OnOk c.prepare_part.result (c.prepare_part.new.out ≡ appended core.me core.framed t.sends t.delivered c.args.out.now))
    (part_does core (lent c.args.stimulus.now) c.part_of-part.ensures)
    c.prepare_part.ensures.ok))

pub returns-clause-moved : goal.returns-clause-moved
returns-clause-moved g c =
    let core : Plum = record { me = c.self.inside.me; membership = c.self.inside.membership; gossip = c.self.inside.gossip; framed = c.self.inside.framed } in
    subst (λ (core : Plum). IfOk c.prepare_part.result (λ prepared. (prepared.moved ≡ false)
    ↔ SameNames core.membership.views.active (turned core.me core.membership core.gossip (lent c.args.stimulus.now)).membership.views.active))
    c.self.view_is
    (subst (λ (t : Turned). IfOk c.prepare_part.result (λ prepared. (prepared.moved ≡ false)
    ↔ SameNames c.self.inside.membership.views.active t.membership.views.active))
    (part_does core (lent c.args.stimulus.now) c.part_of-part.ensures) c.prepare_part.ensures.moved)

pub returns-clause-spent : goal.returns-clause-spent
returns-clause-spent g c is =
    let core : Plum = record { me = c.self.inside.me; membership = c.self.inside.membership; gossip = c.self.inside.gossip; framed = c.self.inside.framed } in
    subst (λ (core : Plum). PlumIsSpent core (lent c.args.stimulus.now)) c.self.view_is
    (elim (c.prepare_part.ensures.spent is) [
      | inl used ↦ inl ((spent_by core (lent c.args.stimulus.now)).0 (subst (IsSpentPart core.gossip) c.part_of-part.ensures used))
      | inr more ↦ inr (subst (λ (t : Turned). 2 ^ 64 - 1 < core.framed + length t.sends)
          (part_does core (lent c.args.stimulus.now) c.part_of-part.ensures) more)
    ])

pub returns-clause-numbers : goal.returns-clause-numbers
returns-clause-numbers g c out =
    let core : Plum = record { me = c.self.inside.me; membership = c.self.inside.membership; gossip = c.self.inside.gossip; framed = c.self.inside.framed } in
    c.prepare_part.ensures.numbers (subst (IsSpentPart core.gossip) (sym c.part_of-part.ensures) ((spent_by core (lent c.args.stimulus.now)).1
    (subst (λ (core : Plum). IsOutOfNumbers (plum_state core) (lent c.args.stimulus.now)) (sym c.self.view_is) out)))
