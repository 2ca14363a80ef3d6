-- What is left of a history.
use Rattle.std.specs.Prelude.{◌≡◌, ◌≤◌, ℕ, List, [], ◌∷◌, Option, Some, None, length, refl}
use Rattle.std.proofs.Common.{◌∙◌, ap, arith, subst, sym}
use Rattle.node_names.specs.NodeName.{Name}
use Rattle.node_names.specs.Limits.{Limits}
use Rattle.node_names.specs.declared.ids.Origin.{Origin}
use Rattle.protocol.specs.Delivery.{Delivery}
use Rattle.protocol.specs.Stimulus.{Stimulus}
use Rattle.protocol.specs.Trace.{Step, Trace, delivered}
use Rattle.frames.specs.Frame.{Frame}
use Rattle.node_threads.specs.Cell.{Cell, IsKept, after, lost}
use Rattle.node_threads.specs.Closing.{IsLeft}
use Rattle.node_threads.specs.History.{IsEndTo, IsHistoryTo}

no_items : {X : Type 0} (xs : List X) → length xs ≡ 0 → xs ≡ []
no_items [] none = refl
no_items (x ∷ xs) none = absurd (omega arith)

module _
    {C : Type 0}
    (starts : Origin → Limits → List Name → Option Name → List (Name × Frame) → C → Type 0)
    (steps : C → Stimulus Frame → List (Name × Frame) → List Delivery → C → Type 0)
    (cell : Cell C)
    (kept : IsKept starts steps cell)
  where
    pub end_to : IsEndTo starts steps (lost cell.since) cell.trace cell.core
    end_to = record { before = kept.before; lacks = kept.forgotten; history = (kept.kept.limits, kept.kept.replays) }

    -- nothing is lost
    none_before : cell.since ≡ None → kept.before ≡ []
    none_before none = no_items kept.before (kept.forgotten ∙ ap lost none)

    pub history_to : cell.since ≡ None → IsHistoryTo starts steps cell.trace cell.core
    history_to none = subst (λ before. IsHistoryTo starts steps (after before cell.trace) cell.core) (none_before none) (kept.kept.limits, kept.kept.replays)

    pub handed_within : cell.since ≡ None → cell.handed_out ≤ length (delivered cell.trace.steps)
    handed_within none = subst (λ before. cell.handed_out ≤ length (delivered (after before cell.trace).steps)) (none_before none) kept.kept.handed

    pub is_left : IsLeft starts steps cell.since cell.trace
    is_left = go cell.since refl
      where
        go : (since : Option ℕ) → cell.since ≡ since → IsLeft starts steps since cell.trace
        go None is = let all = history_to is in record { limits = all.0; last = cell.core; replays = all.1 }
        go (Some since) is = record {
          before = kept.before;
          lacks = kept.forgotten ∙ ap lost is;
          history = record { limits = kept.kept.limits; last = cell.core; replays = kept.kept.replays };
        }
