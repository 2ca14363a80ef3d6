use Rattle.std.proofs.Common.{◌++◌, drop, refl, rules, subst, take}
use Rattle.frames.specs.Answer.{IsFaultOf}
use Rattle.frames.specs.Grammar.{IsSpelling}
use Rattle.frames.specs.Reading.{read}
use Rattle.wire_node.proofs.Stops.{cut_memory, stop_cut, stop_step}
use Rattle.wire_node.proofs.Taking.{completed, takes_one}
use Rattle.wire_node.proofs.receiving.complete.Goals as goal

pub returns-clause-some : goal.returns-clause-some
returns-clause-some g c =
    let left = c.args.left.now.items in
    let bytes = c.args.bytes.now in
    let whole = c.top_up.new.left.items in
    let now = c.drop_front.new.items.items in
    let count = c.in_ok-count.count in
    let frame = c.in-Ok.decoded.0 in
    let spelled : IsSpelling frame (take c.in-Ok.decoded.1 whole) =
    subst (λ t. IsSpelling frame (take c.in-Ok.decoded.1 t)) c.as_slice.ensures.value c.in-Ok.ensures.found.0 in
    takes_one c.args.engine.now c.args.peer.now (left ++ bytes) (g.D.DiceSource.to_come c.args.source.now) c.take_frame.new.engine c.take_frame.new.peer
    (now ++ drop count bytes) (g.D.DiceSource.to_come c.take_frame.new.source) frame
    (completed frame left bytes whole now count c.in-Ok.decoded.1 c.in_ok-count.ensures.ok spelled c.drop_front.ensures)
    c.in_default-take_frame.ensures.ok c.take_frame.ensures.drawn

pub returns-in_err-count-clause-why : goal.returns-in_err-count-clause-why
returns-in_err-count-clause-why g c =
    cut_memory c.args.engine.now.machine.core c.args.left.now.items c.args.bytes.now c.from_residual.result (search rules)

pub returns-in-Err-refused_by-clause-why : goal.returns-in-Err-refused_by-clause-why
returns-in-Err-refused_by-clause-why g c = λ long.
    let fault = c.in-Err.fault in
    let its : IsFaultOf fault (read c.top_up.new.left.items) = subst (λ t. IsFaultOf fault (read t)) c.as_slice.ensures.value c.in-Err.ensures.exact in
    stop_cut c.args.engine.now.machine.core c.args.left.now.items c.args.bytes.now long c.top_up.new.left.items c.in_ok-count.count fault
    c.in-Err-refused_by.error c.in_ok-count.ensures.ok its c.in-Err-refused_by.ensures.err

pub returns-in-Err-take_frame-clause-why : goal.returns-in-Err-take_frame-clause-why
returns-in-Err-take_frame-clause-why g c = λ long.
    let left = c.args.left.now.items in
    let bytes = c.args.bytes.now in
    let whole = c.top_up.new.left.items in
    let count = c.in_ok-count.count in
    let len = c.in-Ok.decoded.1 in
    let frame = c.in-Ok.decoded.0 in
    let spelled : IsSpelling frame (take len whole) = subst (λ t. IsSpelling frame (take len t)) c.as_slice.ensures.value c.in-Ok.ensures.found.0 in
    stop_step c.args.engine.now.machine.core left bytes long frame (drop len whole ++ drop count bytes) c.in-Err-take_frame.error c.of_core.result
    (completed frame left bytes whole (drop len whole) count len c.in_ok-count.ensures.ok spelled refl)
    c.in-Err-take_frame.ensures.why c.of_core.ensures
