-- What an outlet is seen as.
use Rattle.std.specs.Prelude.{◌≡◌, ℕ, List, [], ◌++◌}
use mathlib.Core.List.{IsPrefix}
use Rattle.node_names.specs.NodeName.{Name}

-- The end of a ring: the frames that came out of it, each as its bytes, and those that it saw there and did not give.
pub record Tap : Type 0 where
  pub given : List (List ℕ)
  pub seen : List (List ℕ)

-- The frames that came out of a ring end in these.
abbrev pub EndsIn : List (List ℕ) → List (List ℕ) → Type 0
EndsIn all last = (before : List (List ℕ)) × (all ≡ before ++ last)

-- The name that its link goes to, how many steps the node had made when that was opened, what came out of it since, each
-- frame as its bytes, and what it saw in its ring and did not give.
pub record Outlet : Type 0 where
  pub peer : Name
  pub opened : ℕ
  pub given : List (List ℕ)
  pub seen : List (List ℕ)

-- It gave nothing, and may have seen more.
pub record Looks (old new : Outlet) : Type 0 where
  pub peer : new.peer ≡ old.peer
  pub opened : new.opened ≡ old.opened
  pub given : new.given ≡ old.given
  pub more : IsPrefix old.seen new.seen

-- the outlet of a link that was opened before any step, which has given nothing
abbrev pub fresh_outlet : Name → Outlet
fresh_outlet name = record { peer = name; opened = 0; given = []; seen = [] }
