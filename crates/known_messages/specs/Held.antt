-- The messages that are held.
use Rattle.std.specs.Prelude.{ℕ, ◌-◌, List, length, drop, if◌then◌else◌, nat_eq}
use Rattle.node_names.specs.declared.ids.MsgId.{MsgId}

-- The ids and payloads in order of delivery, and for how many more messages there is room.
pub record Held : Type 0 where
  pub messages : List (MsgId × List ℕ)
  pub room : ℕ

-- the last `keep` messages, or all of them if `keep` is 0
abbrev pub kept_last : ℕ → List (MsgId × List ℕ) → List (MsgId × List ℕ)
kept_last keep messages = if nat_eq keep 0 then messages else drop (length messages - keep) messages
