-- How a delivered message goes on.
use Rattle.std.specs.Prelude.{◌≡◌, ◌+◌, ◌&&◌, ℕ, Bool, List, Option, Some, None, true, false, count_by}
use Rattle.std.specs.List.{AllByRecursion as Each}
use Rattle.node_names.specs.NodeName.{Name}
use Rattle.node_names.specs.declared.ids.MsgId.{MsgId}
use Rattle.protocol.specs.Content.{Content}
use Rattle.protocol.specs.CoreState.{CoreState}
use Rattle.protocol.specs.Delivery.{Delivery}
use Rattle.node_names.specs.Same.{has_name, same_name, same_id}
use Rattle.protocol.specs.Stimulus.{Stimulus}
use Rattle.protocol.specs.declared.stimulus.StimulusOf.TheVariants.{Broadcast, Arrive, Fire, Flush, Down, Shuffle, Join}

-- whether a packet that carries this, if anything, carries the message
abbrev pub is_carried : MsgId → Option (MsgId × List ℕ) → Bool
is_carried id None = false
is_carried id (Some carried) = same_id id carried.0

-- how many packets to the name carry the message
abbrev pub packets_carrying : {N : Type 0} → (N → Content) → MsgId → Name → List (Name × N) → ℕ
packets_carrying content id name sends = count_by (λ send. same_name name send.0 && is_carried id (content send.1).carried) sends

-- how many announcements of the message are queued for the name
abbrev pub entries_queued : MsgId → Name → List (Name × MsgId × ℕ) → ℕ
entries_queued id name queued = count_by (λ entry. same_name name entry.0 && same_id id entry.1) queued

-- whether the stimulus is a packet from a sender of this name
abbrev pub is_from : {N : Type 0} → Name → Stimulus N → Bool
is_from name (Broadcast payload) = false
is_from name (Arrive sender note dice) = same_name name sender.name
is_from name (Fire id) = false
is_from name Flush = false
is_from name (Down peer dice) = false
is_from name (Shuffle dice) = false
is_from name (Join contact) = false

-- A name gets one packet that carries the message or one queued announcement of it, and not both, where it is an
-- active member and not the sender of the packet that came; every other name gets neither.
pub record GetsShare {N : Type 0} (content : N → Content) (stimulus : Stimulus N) (sends : List (Name × N)) (after : CoreState) (id : MsgId) (name : Name) :
    Type 0 where
  pub one : has_name after.active name ≡ true → is_from name stimulus ≡ false → packets_carrying content id name sends + entries_queued id name after.queued ≡ 1
  pub none_to_strangers : has_name after.active name ≡ false → packets_carrying content id name sends + entries_queued id name after.queued ≡ 0
  pub none_back : is_from name stimulus ≡ true → packets_carrying content id name sends + entries_queued id name after.queued ≡ 0

-- Of each delivered message every name gets its share.
abbrev pub SpreadLaw : {N : Type 0} → (N → Content) → Stimulus N → List (Name × N) → List Delivery → CoreState → Type 0
SpreadLaw content stimulus sends given after = Each (λ d. (name : Name) → GetsShare content stimulus sends after d.id name) given
