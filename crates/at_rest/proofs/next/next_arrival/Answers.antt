-- Every packet in flight was sent.
use Rattle.std.proofs.Common.{◌≡◌, ◌∙◌, ◌<◌, ◌≤◌, sym, ap, refl, subst, arith, length, ℕ, List}
use Rattle.std.proofs.lemmas.Option.{slice_get_read}
use Rattle.std.specs.Prelude.{Some, reverse, slice_get}
use Rattle.world.proofs.Kept.{each-at}
use Rattle.world.proofs.TrafficRuns.{run_sent}
use Rattle.world.specs.Refusals.{sent_under}
use Rattle.world.specs.declared.packet.Packet.{Packet}
use Rattle.at_rest.proofs.next.next_arrival.Goals as goal

pub returns-in_err-packet-clause-none : goal.returns-in_err-packet-clause-none
returns-in_err-packet-clause-none g c =
    let sent =
    run_sent g.C.Core.state g.C.Note.Wire.content g.C.Core.is_sound g.C.Core.starts g.C.Core.steps g.met.C.Core.lawful c.args.world.now.limits
    (reverse c.args.world.now.log) c.args.world.now.group c.history.ensures in
    let there : slice_get c.args.world.now.group.flight 0 ≡ Some c.in_ok-number.number.now =
    sym (ap (λ (ns : List ℕ). slice_get ns 0) c.flight.ensures) ∙ sym c.in_ok-number.ensures.value in
    let less : c.in_ok-number.number.now < length c.args.world.now.group.sent =
    each-at (λ number. number < length c.args.world.now.group.sent) c.args.world.now.group.flight 0 c.in_ok-number.number.now sent there in
    let past : length c.args.world.now.group.sent ≤ c.in_ok-number.number.now =
    subst (λ (ps : List (Packet g.row.C-Note.Denot)). length ps ≤ c.in_ok-number.number.now) c.sent.ensures c.in_err-packet.ensures.lookup.3 in
    absurd (omega arith)

pub returns-clause-name : goal.returns-clause-name
returns-clause-name g c = (
  c.in_ok-packet.packet.now,
  ap (λ n. sent_under c.args.world.now.group.sent n) (sym (ap (λ (ns : List ℕ). slice_get ns 0) c.flight.ensures) ∙ sym c.in_ok-number.ensures.value)
      ∙ ap (λ (ps : List (Packet g.row.C-Note.Denot)). slice_get ps c.in_ok-number.number.now) (sym c.sent.ensures)
      ∙ slice_get_read c.sent.result.now
      (length c.sent.result.now) c.in_ok-number.number.now c.in_ok-packet.packet.now refl c.in_ok-packet.ensures.lookup.3.0 c.in_ok-packet.ensures.lookup.1,
  refl,
)
