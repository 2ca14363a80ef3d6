-- Lists from which entries are taken out without moving the others, and the places of their entries.
use Rattle.std.specs.Prelude.{◌≡◌, ◌&&◌, ℕ, zero, suc, Bool, false, List, [], ◌∷◌, Option, None, Some, cond, true, ⊤}
use Rattle.std.specs.List.{AllByRecursion as Each}
use Rattle.indexmap.specs.IndexMap.{IndexMap, get}
use Rattle.node_names.specs.NodeName.{Name}
use Rattle.node_names.specs.Same.{same_id, same_name, has_id, has_name}
use Rattle.node_names.specs.Slots.{somes}
use Rattle.node_names.specs.declared.ids.MsgId.{MsgId}
use Rattle.missing.specs.Wants.{place_of, same_place}

-- one place later, if there is a place
abbrev pub later : Option ℕ → Option ℕ
later None = None
later (Some n) = Some (suc n)

-- the place of the first that passes the test, if one does
abbrev pub place : {X : Type 0} → (X → Bool) → List X → Option ℕ
place test [] = None
place test (x ∷ xs) = cond (test x) (Some zero) (later (place test xs))

-- whether the slot has an entry with this key
abbrev pub holds : {K X : Type 0} → (K → K → Bool) → (X → K) → K → Option X → Bool
holds eq key k None = false
holds eq key k (Some x) = eq k (key x)

-- a timer is looked up by its id
abbrev pub has_timer : MsgId → Option MsgId → Bool
has_timer id slot = holds same_id (λ armed. armed) id slot

-- an announcement is looked up by its id and its peer
abbrev pub has_place : MsgId × Name → Option (MsgId × Name × ℕ) → Bool
has_place at slot = holds same_place place_of at slot

-- whether the slot has an announcement of the id
abbrev pub is_of : MsgId → Option (MsgId × Name × ℕ) → Bool
is_of id None = false
is_of id (Some entry) = same_id id entry.0

-- whether the slot has an announcement of the id by one of these peers
abbrev pub is_by : MsgId → List Name → Option (MsgId × Name × ℕ) → Bool
is_by id peers None = false
is_by id peers (Some entry) = has_name peers entry.1 && same_id id entry.0

-- whether the slot has an announcement of one of these ids by the peer
abbrev pub is_any_by : List MsgId → Name → Option (MsgId × Name × ℕ) → Bool
is_any_by ids peer None = false
is_any_by ids peer (Some entry) = has_id ids entry.0 && same_name peer entry.1

-- so many slots at the front are empty
abbrev pub AreGone : {X : Type 0} → ℕ → List (Option X) → Type 0
AreGone zero slots = ⊤
AreGone (suc n) [] = ⊥
AreGone (suc n) (None ∷ slots) = AreGone n slots
AreGone (suc n) (Some x ∷ slots) = ⊥

-- the map has the place of each timer, and nothing else, and so many slots at the front are empty
abbrev pub AreTimed : {S : Type 0} → List (Option MsgId) → IndexMap MsgId ℕ S → ℕ → Type 0
AreTimed slots places gone = ((id : MsgId) → get same_id places id ≡ place (has_timer id) slots) × AreGone gone slots

-- the map has the place of each announcement, and nothing else
abbrev pub ArePlaced : {S : Type 0} → List (Option (MsgId × Name × ℕ)) → IndexMap (MsgId × Name) ℕ S → Type 0
ArePlaced slots places = (at : MsgId × Name) → get same_place places at ≡ place (has_place at) slots

-- each announcement is by one of these peers
abbrev pub AreBy : List Name → List (MsgId × Name × ℕ) → Type 0
AreBy peers wants = Each (λ entry. has_name peers entry.1 ≡ true) wants

-- each announcement is of one of these ids
abbrev pub AreArmed : List MsgId → List (MsgId × Name × ℕ) → Type 0
AreArmed timers wants = Each (λ entry. has_id timers entry.0 ≡ true) wants

-- the lower of two numbers
abbrev pub lower : ℕ → ℕ → ℕ
lower zero n = zero
lower (suc m) zero = zero
lower (suc m) (suc n) = suc (lower m n)

-- the lower of two places
abbrev pub earlier : Option ℕ → Option ℕ → Option ℕ
earlier None b = b
earlier (Some m) None = Some m
earlier (Some m) (Some n) = Some (lower m n)

-- the map has the place of each announcement, and their peers are among these
abbrev pub IsKept : {S : Type 0} → List (Option (MsgId × Name × ℕ)) → IndexMap (MsgId × Name) ℕ S → List Name → Type 0
IsKept slots places peers = ArePlaced slots places × AreBy peers (somes slots)
