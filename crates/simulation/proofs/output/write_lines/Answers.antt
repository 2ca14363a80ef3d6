-- A step writes one line.
use Rattle.std.proofs.Common.{◌≡◌, ℕ, ◌∙◌, ◌++◌, Bor, List, ap, map, refl, sym, take}
use Rattle.protocol.specs.Delivery.{Delivery}
use Rattle.simulation.specs.Lines.{line_of, lines_of}
use Rattle.trace_text.proofs.Texts.{lines-more}
use Rattle.simulation.proofs.Texts.{written}
use Rattle.simulation.proofs.output.write_lines.Goals as goal

pub loop-delivery-preserved : goal.loop-delivery-preserved
loop-delivery-preserved g c =
    let line : c.as_bytes.result.now ≡ line_of c.delivery-item.result.now =
    c.as_bytes.ensures.value ∙ c.in_ok-push_line.ensures ∙ ap (λ (text : List ℕ). text ++ line_of c.delivery-item.result.now) c.clear.ensures.bytes in
    let more =
    lines-more (λ (d : Bor Delivery). line_of d.now)
    (λ (ds : List (Bor Delivery)). lines_of (map (λ d. d.now) ds))
    refl
    (λ d ds. refl)
    c.args.deliveries.now c.loop-delivery.delivery-index c.delivery-item.result c.delivery-item.result c.loop-delivery-test.true c.delivery-item.is in
    let longer = more ∙ ap (λ (text : List ℕ). lines_of (map (λ d. d.now) (take c.loop-delivery.delivery-index c.args.deliveries.now)) ++ text) (sym line) in
    written _ _ _ _ _ _ c.loop-delivery.invariant c.in_ok-write_all.ensures.bytes longer
