use Rattle.std.proofs.Common.{◌≡◌, ◌<◌, ◌+◌, [], Ok, ap, arith, drop, length, refl, subst, sym, take}
use Rattle.std.specs.Prelude.{IsOk}
use Rattle.std.proofs.lemmas.List.{length-drop, length-take-le}
use Rattle.frames.specs.Grammar.{IsSpelling}
use Rattle.frames.specs.Reading.{read}
use Rattle.wire_node.specs.Moving.{Engine}
use Rattle.wire_node.specs.Refusing.{IsStop, refusal_of}
use Rattle.wire_node.proofs.Stops.{stop_frame}
use Rattle.wire_node.proofs.Taking.{cuts_at, spelling_long, takes_one, takes_then}
use Rattle.wire_node.proofs.receiving.take_frames.Goals as goal

pub loop-frame-preserved : goal.loop-frame-preserved
loop-frame-preserved g c =
    let draws = g.D.DiceSource.to_come in
    let bytes = c.args.bytes.now in
    let at = c.loop-frame.at in
    let len = c.in-Ok.len in
    let frame = c.in-Ok.frame in
    let spelled : IsSpelling frame (take len (drop at bytes)) = subst (λ t. IsSpelling frame (take len t)) c.after.ensures c.in-Ok.ensures.found.0 in (
      omega (arith, c.in-Ok.ensures.found.1, ap length c.after.ensures, length-drop at bytes, c.loop-frame.invariant.0),
      takes_then c.args.engine.now c.args.peer.now bytes (draws c.args.source.now) c.loop-frame.engine c.loop-frame.peer
          (drop at bytes) (draws c.loop-frame.source) c.take_frame.new.engine c.take_frame.new.peer
          (drop (at + len) bytes) (draws c.take_frame.new.source) c.loop-frame.invariant.1
          (takes_one c.loop-frame.engine c.loop-frame.peer (drop at bytes) (draws c.loop-frame.source) c.take_frame.new.engine c.take_frame.new.peer
          (drop (at + len) bytes) (draws c.take_frame.new.source) frame (cuts_at frame bytes at len spelled) c.in_default.ensures.ok
          c.take_frame.ensures.drawn),
    )

pub loop-frame-smaller : goal.loop-frame-smaller
loop-frame-smaller g c =
    let rest = c.after.result.now in
    let at = c.loop-frame.at in
    let long : 3 < length (take c.in-Ok.len rest) = spelling_long c.in-Ok.frame (take c.in-Ok.len rest) c.in-Ok.ensures.found.0 in
    omega (
      arith,
      long,
      length-take-le c.in-Ok.len rest c.in-Ok.ensures.found.1,
      c.in-Ok.ensures.found.1,
      ap length c.after.ensures,
      length-drop at c.args.bytes.now,
    )

pub returns-in-Err-take_frame-clause-why : goal.returns-in-Err-take_frame-clause-why
returns-in-Err-take_frame-clause-why g c =
    let bytes = c.args.bytes.now in
    let at = c.loop-frame.at in
    let len = c.in-Ok.len in
    let frame = c.in-Ok.frame in
    let rest = drop at bytes in
    let core = c.loop-frame.engine.machine.core in
    let e = c.in-Err-take_frame.error in
    let why = c.in-Err-take_frame.ensures.why in
    let spelled : IsSpelling frame (take len rest) = subst (λ t. IsSpelling frame (take len t)) c.after.ensures c.in-Ok.ensures.found.0 in
    let whole : read rest ≡ Ok (frame, len) = subst (λ t. read t ≡ Ok (frame, len)) c.after.ensures c.in-Ok.ensures.exact in
    let stop : IsStop core [] rest (refusal_of e) =
    stop_frame core [] rest (drop (at + len) bytes) frame why.0 e (cuts_at frame bytes at len spelled) why.1 (λ none. subst IsOk (sym whole) refl) in
    subst (IsStop c.take_frame.new.engine.machine.core [] rest) (sym c.of_core.ensures)
    (subst (λ (n : Engine). IsStop n.machine.core [] rest (refusal_of e)) (sym c.in-Err-take_frame.ensures.err.0) stop)
