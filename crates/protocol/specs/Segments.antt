-- The steps of a trace, part by part.
use Rattle.std.specs.Prelude.{◌≡◌, ◌<◌, ◌≤◌, ◌+◌, ℕ, List, [], ◌∷◌, drop, get_or, length}
use Rattle.std.specs.List.{flat_map}
use Rattle.protocol.specs.Trace.{Step}

-- Steps of a trace, of which the first is at this place.
pub record Segment (N : Type 0) : Type 0 where
  pub first : ℕ
  pub steps : List (Step N)

-- The segment has all steps of these from its place on.
abbrev pub Ends : {N : Type 0} → List (Step N) → Segment N → Type 0
Ends steps segment = (segment.first ≤ length steps) × (segment.steps ≡ drop segment.first steps)

-- the steps of these segments, one after the other
abbrev pub joined : {N : Type 0} → List (Segment N) → List (Step N)
joined segments = flat_map (λ s. s.steps) segments

-- Each segment begins where the one before it ends, and the first at this place.
abbrev pub Abut : {N : Type 0} → ℕ → List (Segment N) → Type 0
Abut first [] = Unit {0}
Abut first (s ∷ rest) = (s.first ≡ first) × Abut (first + length s.steps) rest

-- The first `count` segments begin before this place, and no others do.
pub record BeginBefore {N : Type 0} (place : ℕ) (segments : List (Segment N)) (count : ℕ) : Type 0 where
  pub bound : count ≤ length segments
  pub before : (i : ℕ) (d : Segment N) → i < count → (get_or segments i d).first < place
  pub behind : (i : ℕ) (d : Segment N) → count ≤ i → i < length segments → place ≤ (get_or segments i d).first
