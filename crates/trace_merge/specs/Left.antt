-- Runs that may not be finished yet.
use Rattle.std.specs.Prelude.{◌≡◌, ℕ, List, Option, None, Some, slice_get}
use Rattle.std.specs.BTreeMap.{BTreeMap, get}
use Rattle.node_names.specs.Order.{origin_cmp}
use Rattle.node_names.specs.declared.ids.Origin.{Origin}
use Rattle.protocol.specs.Trace.{Trace}
use Rattle.frames.specs.Frame.{Frame}
use Rattle.trace_merge.specs.Merging.{IsOut, place_at}

-- Each of the runs has its trace at its index, and the traces of all other runs are played out.
pub record AreLeft (traces : List (Trace Frame)) (places : List (Option ℕ)) (runs : BTreeMap Origin ℕ) : Type 0 where
  pub named : (o : Origin) (n : ℕ) → get origin_cmp runs o ≡ Some n → (t : Trace Frame) × (slice_get traces n ≡ Some t) × (t.origin ≡ o)
  pub others : (i : ℕ) (t : Trace Frame) → slice_get traces i ≡ Some t → get origin_cmp runs t.origin ≡ None → IsOut t (place_at places i)
