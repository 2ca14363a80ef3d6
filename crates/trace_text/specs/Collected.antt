-- Texts of messages, each found by its message's id.
use Rattle.std.specs.Prelude.{ℕ, List, [], unwrap_or}
use Rattle.std.specs.Map.{lookup}
use Rattle.node_names.specs.Same.{same_id}
use Rattle.node_names.specs.declared.ids.MsgId.{MsgId}

-- the text that is listed for the message, or an empty one if it has none
abbrev pub text_at : MsgId → List (MsgId × List ℕ) → List ℕ
text_at id texts = unwrap_or (lookup (same_id id) texts) []
