-- Which announced messages a core wants, and from whom.
use Rattle.std.specs.Prelude.{◌≡◌, ◌≢◌, ◌⊎◌, ◌≤◌, ◌&&◌, ℕ, List, true, false, count_by}
use Rattle.std.specs.List.{AllByRecursion as Each}
use Rattle.node_names.specs.NodeName.{Name}
use Rattle.node_names.specs.declared.ids.MsgId.{MsgId}
use Rattle.protocol.specs.Content.{Content}
use Rattle.protocol.specs.CoreState.{CoreState}
use Rattle.protocol.specs.Lists.{IsOneOf}
use Rattle.node_names.specs.Same.{has_name, same_name, same_id}
use Rattle.protocol.specs.Stimulus.{Stimulus}
use Rattle.protocol.specs.declared.stimulus.StimulusOf.TheVariants.{Broadcast, Arrive, Fire, Flush, Down, Shuffle, Join}

-- how many entries say that the name announced the id
abbrev pub entries_wanted : MsgId → Name → List (MsgId × Name × ℕ) → ℕ
entries_wanted id name wants = count_by (λ entry. same_id id entry.0 && same_name name entry.1) wants

-- The core wants the message from the name.
abbrev pub IsWanted : CoreState → MsgId → Name → Type 0
IsWanted core id name = (round : ℕ) × IsOneOf (id, name, round) core.wants

-- Wanted entries are by active members and of ids that the core lacks, one per id and member, and each id's timer is
-- armed; and no timer is armed for an id that the core has.
pub record SoundWants (core : CoreState) : Type 0 where
  pub by_members : Each (λ entry. has_name core.active entry.1 ≡ true) core.wants
  pub of_lacked : Each (λ entry. core.has entry.0 ≡ false) core.wants
  pub once : (id : MsgId) (name : Name) → entries_wanted id name core.wants ≤ 1
  pub armed : Each (λ entry. IsOneOf entry.0 core.timers) core.wants
  pub timers_lack : Each (λ id. core.has id ≡ false) core.timers

-- The stimulus is a packet by which the name announces the id at the round.
abbrev pub Announces : {N : Type 0} → (N → Content) → Stimulus N → Name → MsgId → ℕ → Type 0
Announces content (Broadcast payload) name id round = ⊥
Announces content (Arrive sender note dice) name id round = (name ≡ sender.name) × IsOneOf (id, round) (content note).announced
Announces content (Fire wanted) name id round = ⊥
Announces content Flush name id round = ⊥
Announces content (Down peer dice) name id round = ⊥
Announces content (Shuffle dice) name id round = ⊥
Announces content (Join contact) name id round = ⊥

-- What an active member announces is wanted from it afterwards, unless the core has it or is its origin. Entries appear
-- in no other way and only for ids of other runs, and a timer only for a wanted id. The member is to be active after
-- the step, since one that the step drops may have no entry.
pub record WantLaw {N : Type 0} (content : N → Content) (before : CoreState) (stimulus : Stimulus N) (after : CoreState) : Type 0 where
  pub taken : (name : Name) (id : MsgId) (round : ℕ) →
      Announces content stimulus name id round →
      has_name after.active name ≡ true →
      id.origin ≢ before.me →
      after.has id ≡ false →
      IsWanted after id name
  pub appears : Each (λ entry. IsOneOf entry before.wants ⊎ (Announces content stimulus entry.1 entry.0 entry.2 × (entry.0.origin ≢ before.me))) after.wants
  pub arms : Each (λ id. IsOneOf id before.timers ⊎ ((name : Name) × IsWanted after id name)) after.timers
