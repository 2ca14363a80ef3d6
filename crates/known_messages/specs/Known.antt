-- The known message ids.
use Rattle.std.specs.Prelude.{◌≡◌, ℕ, ◌+◌, ◌≤◌, ◌&&◌, true, false, List, map, nat_lt, IsSomeAnd}
use Rattle.std.specs.FinSet as set
use Rattle.std.specs.List.{flat_map}
use Rattle.std.specs.Map.{lookup}
use Rattle.node_names.specs.Order.{id_cmp}
use Rattle.node_names.specs.Same.{same_origin}
use Rattle.node_names.specs.declared.ids.Origin.{Origin}
use Rattle.node_names.specs.declared.ids.MsgId.{MsgId}
use Rattle.known_messages.specs.Span.{Span, numbers, HasRoomFor}

-- the ids of the known numbers of one origin
abbrev pub ids_of : Origin × Span → List MsgId
ids_of entry = map (λ n. record { origin = entry.0; seq = n }) (numbers entry.1)

-- the known ids
abbrev pub ids : List (Origin × Span) → set.FinSet id_cmp
ids known = set.from_list (flat_map ids_of known)

-- The id can be inserted without allocating.
abbrev pub HasRoom : List (Origin × Span) → MsgId → Type 0
HasRoom known id = IsSomeAnd (lookup (same_origin id.origin) known) (λ span. HasRoomFor span id.seq)

-- the known ids of the origin whose numbers are greater than `n`
abbrev pub ids_past : Origin → ℕ → set.FinSet id_cmp → set.FinSet id_cmp
ids_past origin n known = set.retain known (λ id. same_origin id.origin origin && nat_lt n id.seq)

-- `unbroken` is the highest number up to which all numbers of the origin from 1 are known, and `past` is how many are
-- known past it.
pub record IsSpan (known : set.FinSet id_cmp) (origin : Origin) (unbroken past : ℕ) : Type 0 where
  pub known_to : (n : ℕ) → 1 ≤ n → n ≤ unbroken → set.contains known (record { origin = origin; seq = n }) ≡ true
  pub lacks_next : set.contains known (record { origin = origin; seq = unbroken + 1 }) ≡ false
  pub count : past ≡ set.len (ids_past origin unbroken known)
