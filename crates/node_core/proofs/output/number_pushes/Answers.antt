-- Each member that gets the message has one packet more.
use Rattle.std.proofs.Common.{◌+◌, ◌++◌, ◌∷◌, [], ◌∙◌, Err, ap, append_assoc, arith, drop, length, length-append, map, sym, take}
use Rattle.peer_sets.specs.Members.{eager_but}
use Rattle.protocol.specs.declared.protocol.CoreError.TheVariants.{SeqSpent}
use Rattle.gossip_core.specs.Answers.{pushes}
use Rattle.gossip_core.specs.Table.{gossip_to}
use Rattle.node_core.specs.Steps.{numbered}
use Rattle.node_core.proofs.Frames.{middle_fits, numbered-push}
use Rattle.node_core.proofs.Pushes.{around, no_more, one_more}
use Rattle.node_core.proofs.Told.{error_is}
use Rattle.node_core.proofs.output.number_pushes.Goals as goal
use Rattle.node_core.proofs.output.number_pushes.Goals.{then-goes_to+in_ok-last, else-goes_to}

pub number_push-requires : goal.number_push-requires
number_push-requires g c =
    middle_fits _ _ (gossip_to c.args.spread.now.id c.args.spread.now.round c.args.spread.now.payload.now c.member-item.result.0) (pushes c.args.spread.now)
    (around c.args.spread.now.id c.args.spread.now.round c.args.spread.now.payload.now c.args.spread.now.left_out c.args.spread.now.members.now
    c.loop-member.member-index c.member-item.result c.loop-member-test.true c.member-item.is (sym c.goes_to.ensures ∙ c.if-goes_to.true))
    c.requires

pub returns-in_err-last-clause-spent : goal.returns-in_err-last-clause-spent
returns-in_err-last-clause-spent g c is =
    let sent = map (gossip_to c.args.spread.now.id c.args.spread.now.round c.args.spread.now.payload.now)
    (eager_but c.args.spread.now.left_out (take c.loop-member.member-index c.args.spread.now.members.now)) in
    let left = map (gossip_to c.args.spread.now.id c.args.spread.now.round c.args.spread.now.payload.now)
    (eager_but c.args.spread.now.left_out (drop (c.loop-member.member-index + 1) c.args.spread.now.members.now)) in
    let next = gossip_to c.args.spread.now.id c.args.spread.now.round c.args.spread.now.payload.now c.member-item.result.0 in
    let all = around c.args.spread.now.id c.args.spread.now.round c.args.spread.now.payload.now c.args.spread.now.left_out c.args.spread.now.members.now
    c.loop-member.member-index c.member-item.result c.loop-member-test.true c.member-item.is (sym c.goes_to.ensures ∙ c.if-goes_to.true) in
    omega (
      arith,
      c.loop-member.invariant.0,
      ap length all,
      length-append sent (next ∷ left),
      c.in_err-last.ensures.spent (ap Err (error_is c.from_residual.result c.in_err-last.field-0.0 SeqSpent c.from_residual.ensures.1 is)),
    )

pub loop-member-preserved : goal.loop-member-preserved
loop-member-preserved g c =
    let sent = map (gossip_to c.args.spread.now.id c.args.spread.now.round c.args.spread.now.payload.now)
    (eager_but c.args.spread.now.left_out (take c.loop-member.member-index c.args.spread.now.members.now)) in
    let next = gossip_to c.args.spread.now.id c.args.spread.now.round c.args.spread.now.payload.now c.member-item.result.0 in
    elim c.if-goes_to.branch [
      | then-goes_to+in_ok-last w ↦
          let more = one_more c.args.spread.now.id c.args.spread.now.round c.args.spread.now.payload.now c.args.spread.now.left_out
          c.args.spread.now.members.now c.loop-member.member-index c.member-item.result c.loop-member-test.true c.member-item.is
          (sym c.goes_to.ensures ∙ w.if-goes_to.true) in (
            omega (arith, w.last-is, w.in_ok-last.ensures.last, c.loop-member.invariant.0, ap length more, length-append sent (next ∷ [])),
            w.frames-is
                ∙ w.in_ok-last.ensures.ok
                ∙ ap (λ frames. frames ++ (next.0, record { sender = c.args.me.now; number = c.loop-member.last + 1; body = next.1 }) ∷ [])
                c.loop-member.invariant.1
                ∙ append_assoc c.args.frames.now (numbered c.args.me.now c.args.framed sent)
                ((next.0, record { sender = c.args.me.now; number = c.loop-member.last + 1; body = next.1 }) ∷ [])
                ∙ ap (λ frames. c.args.frames.now ++ frames)
                (sym (numbered-push c.args.me.now c.args.framed sent next c.loop-member.last c.loop-member.invariant.0))
                ∙ ap (λ sends. c.args.frames.now ++ numbered c.args.me.now c.args.framed sends) (sym more),
          )
      | else-goes_to w ↦
          let same = no_more c.args.spread.now.id c.args.spread.now.round c.args.spread.now.payload.now c.args.spread.now.left_out
          c.args.spread.now.members.now c.loop-member.member-index c.member-item.result c.loop-member-test.true c.member-item.is
          (sym c.goes_to.ensures ∙ w.if-goes_to.false) in (
            w.last-is ∙ c.loop-member.invariant.0 ∙ ap (λ sends. c.args.framed + length sends) (sym same),
            w.frames-is ∙ c.loop-member.invariant.1 ∙ ap (λ sends. c.args.frames.now ++ numbered c.args.me.now c.args.framed sends) (sym same),
          )
    ]
