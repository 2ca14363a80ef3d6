-- What goes through a ring to another thread, and what the ring has no room for yet.
use Rattle.std.specs.Prelude.{ℕ, List, ◌++◌}

-- What was put into the ring, oldest first, and what waits behind it.
pub record Outbox (T : Type 0) : Type 0 where
  pub sent : List T
  pub waiting : List T
  pub free : ℕ

-- all that it was given, in order
abbrev pub given : {T : Type 0} → Outbox T → List T
given box = box.sent ++ box.waiting
