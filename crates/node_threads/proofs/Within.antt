-- What came out of a link is no more than it was to carry.
use Rattle.std.specs.Prelude.{◌≤◌, ℕ, List, Result, Ok, Err, IfOk, length, map}
use Rattle.std.proofs.Common.{ap, arith, length-append}
use Rattle.std.proofs.lemmas.List.{length-map}
use mathlib.Core.List.{IsPrefix}
use Rattle.protocol.specs.Trace.{Trace}
use Rattle.frames.specs.Frame.{Frame}
use Rattle.node_threads.specs.Closing.{IsWithin}
use Rattle.node_threads.specs.LinkText.{spelling, text_since}
use Rattle.node_threads.specs.Outlet.{Outlet}
use Rattle.node_threads.specs.Report.{BeginsText, report_of}

prefix_length : {X : Type 0} (xs ys : List X) → IsPrefix xs ys → length xs ≤ length ys
prefix_length xs ys (rest, is) = let long = ap length is in omega (arith, length-append xs rest, long)

pub within : (since : ℕ) (trace : Trace Frame) (outlet : Outlet) → BeginsText since trace outlet → IsWithin since trace (report_of outlet)
within since trace outlet begins =
    let text = text_since since trace outlet.peer outlet.opened in
    record {
      opened_since = begins.opened_since;
      opened_within = begins.opened_before;
      taken_of_text = let most = prefix_length outlet.given (map spelling text) begins.begins in omega (arith, most, length-map text spelling);
    }

pub always_ok : {X E P : Type 0} (r : Result X E) → P → IfOk r (λ x. P)
always_ok (Ok x) p = p
always_ok (Err e) p = tt
