use Rattle.std.proofs.Common.{◌≡◌, ◌+◌, ◌++◌, ◌∷◌, ◌∙◌, [], List, ap, arith, subst, sym, take}
use Rattle.std.proofs.lemmas.List.{take_more}
use Rattle.node_names.specs.NodeName.{Name}
use Rattle.frames.specs.Frame.{Frame}
use Rattle.wire_node.specs.Waiting.{KeepsSettled, Waiting, all_drafted, drafted, spelling}
use Rattle.wire_node.proofs.Drafting.{all_more, draft_keeps, keeps_then}
use Rattle.wire_node.proofs.drafts.draft_all.Goals as goal

pub loop-send-preserved : goal.loop-send-preserved
loop-send-preserved g c =
    let olds = c.args.entries.now.items in
    let mids = c.loop-send.entries.items in
    let sends = c.args.sends.now in
    let i = c.loop-send.send-index in
    let send : Name × Frame = c.send-item.result in
    let more : take (i + 1) sends ≡ take i sends ++ send ∷ [] =
    take_more sends i send (omega (arith, c.loop-send-test.true)) ∙ ap (λ (s : Name × Frame). take i sends ++ s ∷ []) (sym c.send-item.is) in (
      c.in_ok-draft.ensures.ok
          ∙ ap (λ (ws : List Waiting). drafted ws send.0 (spelling send.1)) c.loop-send.invariant.0
          ∙ sym (all_more olds (take i sends) send)
          ∙ ap (all_drafted olds) (sym more),
      keeps_then olds mids c.draft.new.entries.items c.loop-send.invariant.1
          (subst (KeepsSettled mids) (sym c.in_ok-draft.ensures.ok) (draft_keeps mids send.0 (spelling send.1))),
    )

pub returns-in_err-draft-clause-kept : goal.returns-in_err-draft-clause-kept
returns-in_err-draft-clause-kept g c =
    keeps_then c.args.entries.now.items c.loop-send.entries.items c.draft.new.entries.items c.loop-send.invariant.1 c.in_err-draft.ensures.err
