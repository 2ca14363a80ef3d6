-- A step appends the line of one message, with the counts of the packets.
use Rattle.std.proofs.Common.{◌∙◌, ◌++◌, ℕ, List, ap, refl}
use Rattle.trace_text.specs.Counts.{copies_of, depth_text, spread_line, TellsSpread}
use Rattle.trace_text.proofs.Spreads.{TellsSpreads-more}
use Rattle.trace_text.proofs.Texts.{joined}
use Rattle.trace_text.proofs.summary.push_spreads.Goals as goal

pub loop-id-preserved : goal.loop-id-preserved
loop-id-preserved g c =
    let id = c.id-item.result in
    let copied = c.count_of-copied.result in
    let announced = c.count_of-announced.result in
    let (before, told, appended) = c.loop-id.invariant in
    let (greatest, mean, more) = c.in_ok-push_message.ensures in
    let line : List ℕ = spread_line id copied announced ++ depth_text greatest mean in
    let tells : TellsSpread c.args.sent.now id line = record {
      greatest = greatest;
      mean = mean;
      written =
          ap (λ (n : ℕ). spread_line id n announced ++ depth_text greatest mean) (c.count_of-copied.ensures ∙ c.in_ok-copies.ensures id)
          ∙ ap (λ (n : ℕ). spread_line id (copies_of id c.args.sent.now) n ++ depth_text greatest mean)
          (c.count_of-announced.ensures ∙ c.in_ok-announcements.ensures id);
    } in (
      before ++ line,
      TellsSpreads-more c.args.sent.now c.args.ids.now c.loop-id.id-index id before line c.loop-id-test.true c.id-item.is told tells,
      joined _ _ _ _ _ _ more appended refl,
    )
