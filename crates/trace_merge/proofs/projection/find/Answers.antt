-- One more entry is taken; and all of them.
use Rattle.std.proofs.Common.{◌∙◌, ◌+◌, ◌-◌, ◌≤◌, ℕ, List, ap, arith, drop, length, sym, take}
use Rattle.std.proofs.Math.ListN.{drop_of_length-le}
use Rattle.std.proofs.lemmas.List.{length-drop, take_all}
use Rattle.std.specs.Prelude.{Option, reverse}
use Rattle.node_names.specs.declared.ids.Incarnation.{Incarnation}
use Rattle.node_names.specs.declared.ids.Origin.{Origin}
use Rattle.world.specs.Entry.{Entry}
use Rattle.world.specs.History.{incarnation_of, started_by}
use Rattle.trace_merge.specs.Projection.{first_number, projection, traced_on}
use Rattle.trace_merge.proofs.Projecting.{projection-more, reverse_more}
use Rattle.trace_merge.proofs.projection.find.Goals as goal

pub loop-at-preserved : goal.loop-at-preserved
loop-at-preserved g c =
    let o : Origin = c.args.origin in
    let log : List Entry = c.args.log.now in
    let e : Entry = c.index-log-at.result in
    let past : List Entry = reverse (take c.loop-at.at log) in
    let end : ℕ = c.first_number-end.result in
    let later : List Entry = drop (c.loop-at.at + 1) log in
    let whole : length later ≤ length log - (c.loop-at.at + 1) = simp length-drop (omega arith) in (
      c.in_ok-take.ensures.origin ∙ c.loop-at.invariant.0,
      c.in_ok-take.ensures.last
          ∙ ap (λ (me : Origin). started_by me.name e.event c.loop-at.found.last) c.loop-at.invariant.0
          ∙ ap (λ (last : Option Incarnation). started_by o.name e.event last) c.loop-at.invariant.1
          ∙ sym (ap (incarnation_of o.name) (reverse_more log c.loop-at.at e c.loop-at-test.true c.index-log-at.is)),
      c.in_ok-take.ensures.trace
          ∙ ap (λ (me : Origin). traced_on me c.loop-at.found.last c.args.sent.now e end c.loop-at.found.trace) c.loop-at.invariant.0
          ∙ ap (λ (last : Option Incarnation). traced_on o last c.args.sent.now e end c.loop-at.found.trace) c.loop-at.invariant.1
          ∙ ap (traced_on o (incarnation_of o.name past) c.args.sent.now e end) c.loop-at.invariant.2
          ∙ sym (projection-more o c.args.sent.now log c.loop-at.at e end c.loop-at-test.true c.index-log-at.is)
          ∙ ap (λ n. projection o c.args.sent.now n (reverse (take (c.loop-at.at + 1) log)))
          (c.first_number-end.ensures ∙ ap (first_number (length c.args.sent.now)) (take_all (length log - (c.loop-at.at + 1)) later whole)),
    )

pub returns : goal.returns
returns g c =
    let o : Origin = c.args.origin in
    let log : List Entry = c.args.log.now in
    let all : length log ≤ c.loop-at.at = omega arith in
    c.loop-at.invariant.2
    ∙ ap (λ (later : List Entry). projection o c.args.sent.now (first_number (length c.args.sent.now) later) (reverse (take c.loop-at.at log)))
    (drop_of_length-le log all)
    ∙ ap (λ (es : List Entry). projection o c.args.sent.now (length c.args.sent.now) (reverse es)) (take_all c.loop-at.at log all)
