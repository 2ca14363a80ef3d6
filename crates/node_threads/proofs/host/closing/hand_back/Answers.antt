use Rattle.std.proofs.Common.{◌≡◌, ◌∙◌, ◌≤◌, length, subst, sym}
use Rattle.protocol.specs.Trace.{Trace, delivered}
use Rattle.frames.specs.Frame.{Frame}
use Rattle.node_threads.specs.Closing.{Finds, IsLeft, Mismatches}
use Rattle.node_threads.specs.Leaving.{outlets_of}
use Rattle.node_threads.proofs.host.closing.hand_back.Goals as goal

pub returns-clause-err : goal.returns-clause-err
returns-clause-err g c =
    let outlets = outlets_of c.as_slice.result.now in
    let trace = c.into_trace-trace.result in
    let since : c.since-since.result ≡ c.args.cell.since = c.since-since.ensures in
    let left : IsLeft g.C.NodeCore.starts g.C.NodeCore.steps c.since-since.result trace =
    subst (λ s. IsLeft g.C.NodeCore.starts g.C.NodeCore.steps s trace) (sym since) c.into_trace-trace.ensures.history in
    let found : Mismatches c.args.cell.since trace c.args.ports.items outlets c.in-Err.mismatch =
    subst (λ t. Mismatches c.args.cell.since t c.args.ports.items outlets c.in-Err.mismatch) (sym c.into_trace-trace.ensures.same) c.in-Err.ensures.err in
    let mismatch : Mismatches c.since-since.result trace c.args.ports.items outlets c.in-Err.mismatch =
    subst (λ s. Mismatches s trace c.args.ports.items outlets c.in-Err.mismatch) (sym since) found in
    subst (λ workers. Finds g.C.NodeCore.starts g.C.NodeCore.steps c.args.ports.items (outlets_of workers) c.close_error.result) c.as_slice.ensures.value
    (c.close_error.ensures c.args.ports.items outlets left mismatch)

pub returns-in-Ok-clause-handed_within : goal.returns-in-Ok-clause-handed_within
returns-in-Ok-clause-handed_within g c = λ none.
    subst (λ (t : Trace Frame). c.count_handed-handed_out.result ≤ length (delivered t.steps)) (sym c.into_trace-trace.ensures.same)
    (c.count_handed-handed_out.ensures.within (sym c.since-since.ensures ∙ none))
