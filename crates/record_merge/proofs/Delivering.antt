-- What the steps of a trace deliver, step by step.
use Rattle.std.proofs.Common.{◌≡◌, ◌∙◌, ◌+◌, ◌<◌, ℕ, zero, suc, List, [], ◌∷◌, ◌++◌, add-one, ap, append_assoc, arith, length, refl, sym, take}
use Rattle.std.specs.Prelude.{IfSome, Option, Some, None, slice_get}
use Rattle.std.proofs.lemmas.List.{append-nil}
use Rattle.protocol.specs.Delivery.{Delivery}
use Rattle.protocol.specs.Trace.{Step, delivered}
use Rattle.frames.specs.Frame.{Frame}

-- what one step more delivers
delivered_step : (steps : List (Step Frame)) (place : ℕ) (s : Step Frame) →
    slice_get steps place ≡ Some s →
    delivered (take (suc place) steps) ≡ delivered (take place steps) ++ s.out.deliveries
delivered_step [] place s at = let no : None ≡ Some s = at in absurd cc
delivered_step (x ∷ steps) zero s at =
    let is : Some x ≡ Some s = at in
    let same : x ≡ s = cc in
    append-nil x.out.deliveries ∙ ap (λ (t : Step Frame). t.out.deliveries) same
delivered_step (x ∷ steps) (suc place) s at =
    ap (λ (ds : List Delivery). x.out.deliveries ++ ds) (delivered_step steps place s at)
    ∙ sym (append_assoc x.out.deliveries (delivered (take place steps)) s.out.deliveries)

-- there is a step at each place before the end
none_within : (steps : List (Step Frame)) (place : ℕ) → place < length steps → slice_get steps place ≡ None → ⊥
none_within [] place within at = absurd (omega arith)
none_within (x ∷ steps) zero within at = let no : Some x ≡ None = at in cc
none_within (x ∷ steps) (suc place) within at = none_within steps place (omega arith) at

-- after one place more
pub step_on : (steps : List (Step Frame)) (place : ℕ) (first old new : List Delivery) →
    place < length steps →
    old ≡ first ++ delivered (take place steps) →
    IfSome (slice_get steps place) (λ s. new ≡ old ++ s.out.deliveries) →
    new ≡ first ++ delivered (take (place + 1) steps)
step_on steps place first old new within so_far appended = go (slice_get steps place) refl appended
  where
    go : (found : Option (Step Frame)) →
        slice_get steps place ≡ found →
        IfSome found (λ s. new ≡ old ++ s.out.deliveries) →
        new ≡ first ++ delivered (take (place + 1) steps)
    go None at more = absurd (none_within steps place within at)
    go (Some s) at more =
        more ∙ ap (λ (ds : List Delivery). ds ++ s.out.deliveries) so_far ∙ append_assoc first (delivered (take place steps)) s.out.deliveries
        ∙ ap (λ (ds : List Delivery). first ++ ds) (sym (delivered_step steps place s at))
        ∙ ap (λ n. first ++ delivered (take n steps)) (sym (add-one place))
