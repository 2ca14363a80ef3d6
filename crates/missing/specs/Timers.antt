-- The ids whose timers are armed.
use Rattle.std.specs.Prelude.{ℕ, not, List, [], ◌∷◌, ◌++◌, filter, Option, None, Some, if◌then◌else◌}
use Rattle.node_names.specs.Same.{same_id, has_id}
use Rattle.node_names.specs.declared.ids.MsgId.{MsgId}

-- the timers with that of the id added last; a timer that is armed already keeps its place
abbrev pub with_timer : MsgId → List MsgId → List MsgId
with_timer id timers = if has_id timers id then timers else timers ++ id ∷ []

-- the timers with those of the announced ids added in turn
abbrev pub with_timers : List (MsgId × ℕ) → List MsgId → List MsgId
with_timers [] timers = timers
with_timers (announced ∷ more) timers = with_timers more (with_timer announced.0 timers)

-- the timers with that of the id added last, where there is an id
abbrev pub with_slot : Option MsgId → List MsgId → List MsgId
with_slot None timers = timers
with_slot (Some id) timers = with_timer id timers

-- the timers without that of the id
abbrev pub without_timer : MsgId → List MsgId → List MsgId
without_timer id timers = filter (λ armed. not (same_id id armed)) timers
