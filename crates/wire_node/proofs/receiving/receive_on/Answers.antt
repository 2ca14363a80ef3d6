use Rattle.std.proofs.Common.{◌≡◌, ◌≤◌, ◌⊎◌, ◌∙◌, ◌+◌, ◌++◌, Bool, ℕ, List, [], ap, true, drop, length, inl, subst, sym}
use Rattle.std.proofs.lemmas.List.{drop-drop}
use Rattle.std.proofs.lemmas.Result.{IfOk-at_ok}
use Rattle.frames.specs.declared.TheConstants.{MAX_FRAME}
use Rattle.frames.specs.declared.fault.FrameFault.TheVariants.{TooLong}
use Rattle.wire_node.specs.Receiving.{Draws, IsLeft, IsPartial, Takes}
use Rattle.wire_node.specs.Refusing.{IsStop}
use Rattle.wire_node.specs.declared.error.WireError.TheVariants.{Frame as NoFrame, OutOfMemory}
use Rattle.wire_node.proofs.Stops.{err_at, left_at, ok_at, stop_at, stop_keeping}
use Rattle.wire_node.proofs.Taking.{from_none, from_none_kept, takes_then}
use Rattle.wire_node.proofs.receiving.receive_on.Goals as goal

pub returns-in-Err-ended-clause-taken : goal.returns-in-Err-ended-clause-taken
returns-in-Err-ended-clause-taken g c =
    let draws = g.D.DiceSource.to_come in
    let bytes = c.args.bytes.now in
    let at = c.finish_cut-at.result.0 in
    let count = c.take_frames-count.result.0 in
    let rest = c.after.result.now in
    let left = c.finish_cut-at.new.left.items in
    let p = c.finish_cut-at.new.peer in
    let q = c.take_frames-count.new.peer in
    let mid = c.finish_cut-at.new.engine in
    let new = c.take_frames-count.new.engine in
    let d = draws c.finish_cut-at.new.source in
    let none : left ≡ [] =
    IfOk-at_ok (λ (finished : Bool). finished ≡ true → left ≡ []) c.in-Ok-true.is c.finish_cut-at.ensures.whole c.in-Ok-true.field-0-test in
    let one : c.finish_cut-at.ensures.taken.0 ≡ d =
    sym (left_at c.finish_cut-at.result.1 c.in-Ok-true.field-0 c.finish_cut-at.ensures.taken.0 d c.in-Ok-true.is c.finish_cut-at.ensures.taken.2) in
    let first : Takes c.args.engine.now c.args.peer.now (c.args.left.now.items ++ bytes) (draws c.args.source.now) mid p (left ++ drop at bytes) d =
    subst (λ (e : Draws). Takes c.args.engine.now c.args.peer.now (c.args.left.now.items ++ bytes) (draws c.args.source.now) mid p (left ++ drop at bytes) e)
    one c.finish_cut-at.ensures.taken.1 in
    let f = c.take_frames-count.ensures.taken.0 in (
      f,
      takes_then c.args.engine.now c.args.peer.now (c.args.left.now.items ++ bytes) (draws c.args.source.now) mid p
          (left ++ drop at bytes) d new q (left ++ drop (at + count) bytes) f first
          (from_none mid new p q left left bytes rest at c.after.ensures d f count none c.take_frames-count.ensures.taken.1),
      subst (λ r. IsLeft r f (draws c.take_frames-count.new.source)) c.in-Err-ended.is c.take_frames-count.ensures.taken.2,
    )

pub returns-in-Ok-clause-taken : goal.returns-in-Ok-clause-taken
returns-in-Ok-clause-taken g c =
    let draws = g.D.DiceSource.to_come in
    let bytes = c.args.bytes.now in
    let at = c.finish_cut-at.result.0 in
    let count = c.take_frames-count.result.0 in
    let rest = c.after.result.now in
    let left = c.finish_cut-at.new.left.items in
    let p = c.finish_cut-at.new.peer in
    let q = c.take_frames-count.new.peer in
    let mid = c.finish_cut-at.new.engine in
    let new = c.take_frames-count.new.engine in
    let d = draws c.finish_cut-at.new.source in
    let none : left ≡ [] =
    IfOk-at_ok (λ (finished : Bool). finished ≡ true → left ≡ []) c.in-Ok-true.is c.finish_cut-at.ensures.whole c.in-Ok-true.field-0-test in
    let one : c.finish_cut-at.ensures.taken.0 ≡ d =
    sym (left_at c.finish_cut-at.result.1 c.in-Ok-true.field-0 c.finish_cut-at.ensures.taken.0 d c.in-Ok-true.is c.finish_cut-at.ensures.taken.2) in
    let first : Takes c.args.engine.now c.args.peer.now (c.args.left.now.items ++ bytes) (draws c.args.source.now) mid p (left ++ drop at bytes) d =
    subst (λ (e : Draws). Takes c.args.engine.now c.args.peer.now (c.args.left.now.items ++ bytes) (draws c.args.source.now) mid p (left ++ drop at bytes) e)
    one c.finish_cut-at.ensures.taken.1 in
    let f = c.take_frames-count.ensures.taken.0 in
    let now = c.keep.new.left.items in (
      f,
      takes_then c.args.engine.now c.args.peer.now (c.args.left.now.items ++ bytes) (draws c.args.source.now) mid p
          (left ++ drop at bytes) d new q (now ++ drop (length bytes) bytes) f first
          (from_none_kept mid new p q left now bytes rest at c.after.ensures d f count c.after-2.result.now none c.after-2.ensures
          (c.in-Ok.ensures.ok ∙ ap (λ (l : List ℕ). l ++ c.after-2.result.now) (sym none)) c.take_frames-count.ensures.taken.1),
      left_at c.take_frames-count.result.1 _ f (draws c.take_frames-count.new.source) c.in_default.is c.take_frames-count.ensures.taken.2,
    )

pub returns-in-Err-keep-clause-taken : goal.returns-in-Err-keep-clause-taken
returns-in-Err-keep-clause-taken g c =
    let draws = g.D.DiceSource.to_come in
    let bytes = c.args.bytes.now in
    let at = c.finish_cut-at.result.0 in
    let count = c.take_frames-count.result.0 in
    let rest = c.after.result.now in
    let left = c.finish_cut-at.new.left.items in
    let p = c.finish_cut-at.new.peer in
    let q = c.take_frames-count.new.peer in
    let mid = c.finish_cut-at.new.engine in
    let new = c.take_frames-count.new.engine in
    let d = draws c.finish_cut-at.new.source in
    let none : left ≡ [] =
    IfOk-at_ok (λ (finished : Bool). finished ≡ true → left ≡ []) c.in-Ok-true.is c.finish_cut-at.ensures.whole c.in-Ok-true.field-0-test in
    let one : c.finish_cut-at.ensures.taken.0 ≡ d =
    sym (left_at c.finish_cut-at.result.1 c.in-Ok-true.field-0 c.finish_cut-at.ensures.taken.0 d c.in-Ok-true.is c.finish_cut-at.ensures.taken.2) in
    let first : Takes c.args.engine.now c.args.peer.now (c.args.left.now.items ++ bytes) (draws c.args.source.now) mid p (left ++ drop at bytes) d =
    subst (λ (e : Draws). Takes c.args.engine.now c.args.peer.now (c.args.left.now.items ++ bytes) (draws c.args.source.now) mid p (left ++ drop at bytes) e)
    one c.finish_cut-at.ensures.taken.1 in
    let f = c.take_frames-count.ensures.taken.0 in (
      f,
      subst
          (λ (l : List ℕ).
          Takes c.args.engine.now c.args.peer.now (c.args.left.now.items ++ bytes) (draws c.args.source.now) new q (l ++ drop (at + count) bytes) f)
          (sym c.in-Err-keep.ensures.err)
          (takes_then c.args.engine.now c.args.peer.now (c.args.left.now.items ++ bytes) (draws c.args.source.now) mid p
          (left ++ drop at bytes) d new q (left ++ drop (at + count) bytes) f first
          (from_none mid new p q left left bytes rest at c.after.ensures d f count none c.take_frames-count.ensures.taken.1)),
      inl (left_at c.take_frames-count.result.1 _ f (draws c.take_frames-count.new.source) c.in_default.is c.take_frames-count.ensures.taken.2),
    )

pub returns-in-Err-ended-clause-why : goal.returns-in-Err-ended-clause-why
returns-in-Err-ended-clause-why g c =
    let left = c.finish_cut-at.new.left.items in
    let none : left ≡ [] =
    IfOk-at_ok (λ (finished : Bool). finished ≡ true → left ≡ []) c.in-Ok-true.is c.finish_cut-at.ensures.whole c.in-Ok-true.field-0-test in
    let rest = c.after.result.now in
    let count = c.take_frames-count.result.0 in
    stop_at c.take_frames-count.new.engine.machine.core left (drop (c.finish_cut-at.result.0 + count) c.args.bytes.now) (drop count rest) c.in-Err-ended.error
    none (ap (drop count) c.after.ensures ∙ drop-drop count c.finish_cut-at.result.0 c.args.bytes.now)
    (err_at (IsStop c.take_frames-count.new.engine.machine.core [] (drop count rest)) c.take_frames-count.result.1 c.in-Err-ended.error c.in-Err-ended.is
    c.take_frames-count.ensures.why)

pub returns-in-Err-keep-clause-why : goal.returns-in-Err-keep-clause-why
returns-in-Err-keep-clause-why g c =
    let left = c.finish_cut-at.new.left.items in
    let none : left ≡ [] =
    IfOk-at_ok (λ (finished : Bool). finished ≡ true → left ≡ []) c.in-Ok-true.is c.finish_cut-at.ensures.whole c.in-Ok-true.field-0-test in
    let rest = c.after.result.now in
    let count = c.take_frames-count.result.0 in
    let at = c.finish_cut-at.result.0 in
    let bytes = c.args.bytes.now in
    let same : drop count rest ≡ drop (at + count) bytes = ap (drop count) c.after.ensures ∙ drop-drop count at bytes in
    let partial : IsPartial (drop (at + count) bytes) =
    subst IsPartial same (ok_at (IsPartial (drop count rest)) c.take_frames-count.result.1 _ c.in_default.is c.take_frames-count.ensures.partial) in
    stop_keeping c.take_frames-count.new.engine.machine.core c.keep.new.left.items (drop (at + count) bytes) c.in-Err-keep.error
    partial (c.in-Err-keep.ensures.err ∙ none)
    (subst (λ (b : List ℕ). (c.in-Err-keep.error ≡ OutOfMemory) ⊎ ((c.in-Err-keep.error ≡ NoFrame TooLong) × (MAX_FRAME ≤ length b)))
    c.after-2.ensures c.in-Err-keep.ensures.why)
