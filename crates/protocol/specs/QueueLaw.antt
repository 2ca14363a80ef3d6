-- What is queued, and how it leaves the queue.
use Rattle.std.specs.Prelude.{◌≡◌, ◌⊎◌, ◌+◌, ◌≤◌, ◌&&◌, ◌==◌, ℕ, List, [], ◌∷◌, true, false, count_by, if◌then◌else◌}
use Rattle.std.specs.List.{AllByRecursion as Each}
use Rattle.node_names.specs.NodeName.{Name}
use Rattle.node_names.specs.declared.ids.MsgId.{MsgId}
use Rattle.protocol.specs.Content.{Content}
use Rattle.protocol.specs.CoreState.{CoreState}
use Rattle.protocol.specs.Delivery.{Delivery}
use Rattle.protocol.specs.DeliveryLaw.{ids}
use Rattle.protocol.specs.Lists.{IsOneOf}
use Rattle.node_names.specs.Same.{has_name, same_name, same_id}
use Rattle.protocol.specs.SpreadLaw.{entries_queued}
use Rattle.protocol.specs.Stimulus.{Stimulus}
use Rattle.protocol.specs.declared.stimulus.StimulusOf.TheVariants.{Broadcast, Arrive, Fire, Flush, Down, Shuffle, Join}

-- Queued announcements are for active members and of ids that the core has, one per member and id.
pub record SoundQueue (core : CoreState) : Type 0 where
  pub of_members : Each (λ entry. has_name core.active entry.0 ≡ true) core.queued
  pub of_had : Each (λ entry. core.has entry.1 ≡ true) core.queued
  pub once : (name : Name) (id : MsgId) → entries_queued id name core.queued ≤ 1

-- how often one packet announces the id at the round
abbrev pub times_announced : MsgId → ℕ → List (MsgId × ℕ) → ℕ
times_announced id round entries = count_by (λ entry. same_id id entry.0 && (round == entry.1)) entries

-- how often the packets to the name announce the id at the round
abbrev pub announcements : {N : Type 0} → (N → Content) → Name → MsgId → ℕ → List (Name × N) → ℕ
announcements content name id round [] = 0
announcements content name id round (send ∷ sends) =
    (if same_name name send.0 then times_announced id round (content send.1).announced else 0) + announcements content name id round sends

-- how often the id is queued for the name at the round
abbrev pub times_queued : Name → MsgId → ℕ → List (Name × MsgId × ℕ) → ℕ
times_queued name id round queued = count_by (λ entry. same_name name entry.0 && (same_id id entry.1 && (round == entry.2))) queued

-- No packet announces anything.
abbrev pub AnnouncesNothing : {N : Type 0} → (N → Content) → List (Name × N) → Type 0
AnnouncesNothing content sends = Each (λ send. (content send.1).announced ≡ []) sends

-- An entry leaves the queue only where its member is active no longer. Entries are compared with their rounds, since a
-- core may not change the round of one that stays.
abbrev pub KeepsQueue : CoreState → CoreState → Type 0
KeepsQueue before after = Each (λ entry. IsOneOf entry after.queued ⊎ (has_name after.active entry.0 ≡ false)) before.queued

-- A flush announces each queued entry to its member, once and nothing more, and leaves the queue empty. No other
-- stimulus announces anything or takes an entry of an active member off the queue.
abbrev pub FlushesQueue : {N : Type 0} → (N → Content) → CoreState → Stimulus N → List (Name × N) → CoreState → Type 0
FlushesQueue content before Flush sends after =
    ((name : Name) (id : MsgId) (round : ℕ) → announcements content name id round sends ≡ times_queued name id round before.queued) × (after.queued ≡ [])
FlushesQueue content before (Broadcast payload) sends after = AnnouncesNothing content sends × KeepsQueue before after
FlushesQueue content before (Arrive sender note dice) sends after = AnnouncesNothing content sends × KeepsQueue before after
FlushesQueue content before (Fire id) sends after = AnnouncesNothing content sends × KeepsQueue before after
FlushesQueue content before (Down peer dice) sends after = AnnouncesNothing content sends × KeepsQueue before after
FlushesQueue content before (Shuffle dice) sends after = AnnouncesNothing content sends × KeepsQueue before after
FlushesQueue content before (Join contact) sends after = AnnouncesNothing content sends × KeepsQueue before after

-- An entry appears only for a message that the step delivers, and it leaves only by a flush that announces it or with
-- its member.
pub record QueueLaw {N : Type 0} (content : N → Content) (before : CoreState)
    (stimulus : Stimulus N) (sends : List (Name × N)) (given : List Delivery) (after : CoreState) : Type 0 where
  pub appears : Each (λ entry. IsOneOf entry before.queued ⊎ IsOneOf entry.1 (ids given)) after.queued
  pub leaves : FlushesQueue content before stimulus sends after
