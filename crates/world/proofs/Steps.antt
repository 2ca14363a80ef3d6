-- What the events that step a core have in common: whose core it is, by what stimulus it steps, and that its step meets
-- the laws.
use Rattle.std.proofs.Common.{◌≡◌, ◌∙◌, ◌+◌, ℕ, List, arith, sym, ap, refl, subst, inl, inr}
use Rattle.std.specs.Prelude.{◌⊎◌, Option, Some, remove, slice_get}
use Rattle.node_names.specs.NodeName.{Name}
use Rattle.node_names.specs.Limits.{Limits}
use Rattle.node_names.specs.declared.dice.Dice.{Dice}
use Rattle.node_names.specs.declared.ids.Origin.{Origin}
use Rattle.protocol.specs.Content.{Content}
use Rattle.protocol.specs.CoreState.{CoreState}
use Rattle.protocol.specs.Delivery.{Delivery}
use Rattle.protocol.specs.DeliveryLaw.{ids}
use Rattle.protocol.specs.HoldLaw.{KeepsLast}
use Rattle.protocol.specs.Laws.{Laws, StepLaws}
use Rattle.protocol.specs.Lists.{IsOneOf}
use Rattle.protocol.specs.Stimulus.{Stimulus, IsNotFrom}
use Rattle.protocol.specs.declared.stimulus.StimulusOf.TheVariants as stimulus
use Rattle.world.specs.Entry.{Entry}
use Rattle.world.specs.Group.{Group}
use Rattle.world.specs.Run.{Acts, Arrives}
use Rattle.world.specs.declared.packet.Packet.{Packet}
use Rattle.world.proofs.FindLemmas.{found_name}
use Rattle.world.proofs.Flying.{stays_or_leaves}
use Rattle.world.proofs.Kept.{Keeps, KeepsCore, KeepsPacket, each-at}
use Rattle.world.proofs.Weights.{arriving, flying_weight, one_removed, sum_removed, weight_of}

-- The stimulus is the arrival of the packet that was sent with this number.
pub record IsArrivalOf {N : Type 0} (sent : List (Packet N)) (name : Name) (by : Stimulus N) (number : ℕ) : Type 0 where
  pub packet : Packet N
  pub dice : Dice
  pub was_sent : slice_get sent number ≡ Some packet
  pub receiver : packet.to ≡ name
  pub arrives : by ≡ stimulus.Arrive packet.sender packet.note dice

module _
    {C N : Type 0}
    (state : C → CoreState)
    (content : N → Content)
    (is_sound : Limits → C → Type 0)
    (starts : Origin → Limits → List Name → Option Name → List (Name × N) → C → Type 0)
    (steps : C → Stimulus N → List (Name × N) → List Delivery → C → Type 0)
    (laws : Laws state content is_sound starts steps)
    (limits : Limits)
    (past : List Entry)
    (entry : Entry)
    (before after : Group C N)
  where
    -- The core of the name steps by the stimulus, lawfully. What was in flight stays so, unless it is what arrives.
    pub record IsStep (name : Name) (by : Stimulus N) : Type 0 where
      pub staying : List ℕ
      pub acts : Acts state steps before staying name by entry after
      pub core : KeepsCore state is_sound limits past acts.node acts.old
      pub mine : name ≡ (state acts.old).me.name
      pub lawful : StepLaws content (state acts.old) by acts.sends entry.given (state acts.new)
      pub sound : is_sound limits acts.new
      pub keeps : KeepsLast limits.keep (state acts.old).held (ids entry.given) (state acts.new).held
      pub stays : (number : ℕ) → IsOneOf number before.flight → IsOneOf number staying ⊎ IsArrivalOf before.sent name by number
      pub flew : (w : Packet N → ℕ) → flying_weight w before.sent before.flight ≡ arriving w name by + flying_weight w before.sent staying
      pub stayed : (number : ℕ) → IsOneOf number staying → IsOneOf number before.flight
      pub was_sent : (sender : Origin) (note : N) (dice : Dice) →
          by ≡ stimulus.Arrive sender note dice →
          (number : ℕ) × (packet : Packet N) × (slice_get before.sent number ≡ Some packet) × (packet.sender ≡ sender) × (packet.note ≡ note)

    module _ (kept : Keeps state content is_sound limits past before.nodes before.sent) where
      -- a step of a running core by a stimulus that is not from itself
      step_by :
          (staying : List ℕ)
          (name : Name)
          (by : Stimulus N) →
          Acts state steps before staying name by entry after →
          IsNotFrom name by →
          ((number : ℕ) → IsOneOf number before.flight → IsOneOf number staying ⊎ IsArrivalOf before.sent name by number) →
          ((w : Packet N → ℕ) → flying_weight w before.sent before.flight ≡ arriving w name by + flying_weight w before.sent staying) →
          ((number : ℕ) → IsOneOf number staying → IsOneOf number before.flight) →
          ((sender : Origin) (note : N) (dice : Dice) →
          by ≡ stimulus.Arrive sender note dice →
          (number : ℕ) × (packet : Packet N) × (slice_get before.sent number ≡ Some packet) × (packet.sender ≡ sender) × (packet.note ≡ note)) →
          IsStep name by
      step_by staying name by acts from_other stays flew stayed was_sent =
          let core : KeepsCore state is_sound limits past acts.node acts.old = kept.cores name acts.node acts.old acts.known acts.running in
          let mine : name ≡ (state acts.old).me.name = found_name name before.nodes acts.node acts.known ∙ ap (λ (o : Origin). o.name) (sym core.is_me) in
          let not_mine : IsNotFrom (state acts.old).me.name by = subst (λ n. IsNotFrom n by) mine from_other in
          record {
            staying = staying;
            acts = acts;
            core = core;
            mine = mine;
            lawful = laws.step limits acts.old by acts.sends entry.given acts.new core.sound not_mine acts.stepped;
            sound = laws.step_sound limits acts.old by acts.sends entry.given acts.new core.sound not_mine acts.stepped;
            keeps = laws.keeps limits acts.old by acts.sends entry.given acts.new core.sound not_mine acts.stepped;
            stays = stays;
            flew = flew;
            stayed = stayed;
            was_sent = was_sent;
          }

      -- where nothing arrives, what was in flight is
      passed_by : (w : Packet N → ℕ) → flying_weight w before.sent before.flight ≡ 0 + flying_weight w before.sent before.flight
      passed_by w = let same : flying_weight w before.sent before.flight ≡ 0 + flying_weight w before.sent before.flight = omega arith in same

      -- a broadcast
      pub broadcast_step : (name : Name) (payload : List ℕ) →
          Acts state steps before before.flight name (stimulus.Broadcast payload) entry after →
          IsStep name (stimulus.Broadcast payload)
      broadcast_step name payload acts =
          step_by before.flight name (stimulus.Broadcast payload) acts tt (λ number flies. inl flies) (λ w. passed_by w)
          (λ number stays. stays) (λ sender note dice e. let no : stimulus.Broadcast payload ≡ stimulus.Arrive sender note dice = e in cc)

      -- a firing
      pub fire_step : (name : Name) (id : _) → Acts state steps before before.flight name (stimulus.Fire id) entry after → IsStep name (stimulus.Fire id)
      fire_step name id acts =
          step_by before.flight name (stimulus.Fire id) acts tt (λ number flies. inl flies) (λ w. passed_by w)
          (λ number stays. stays) (λ sender note dice e. let no : stimulus.Fire id ≡ stimulus.Arrive sender note dice = e in cc)

      -- a flush
      pub flush_step : (name : Name) → Acts state steps before before.flight name stimulus.Flush entry after → IsStep name stimulus.Flush
      flush_step name acts =
          step_by before.flight name stimulus.Flush acts tt (λ number flies. inl flies) (λ w. passed_by w)
          (λ number stays. stays) (λ sender note dice e. let no : stimulus.Flush ≡ stimulus.Arrive sender note dice = e in cc)

      -- a failed link
      pub down_step : (name peer : Name) (dice : Dice) →
          Acts state steps before before.flight name (stimulus.Down peer dice) entry after →
          IsStep name (stimulus.Down peer dice)
      down_step name peer dice acts =
          step_by before.flight name (stimulus.Down peer dice) acts tt (λ number flies. inl flies) (λ w. passed_by w)
          (λ number stays. stays) (λ sender note other e. let no : stimulus.Down peer dice ≡ stimulus.Arrive sender note other = e in cc)

      -- a tick
      pub shuffle_step : (name : Name) (dice : Dice) →
          Acts state steps before before.flight name (stimulus.Shuffle dice) entry after →
          IsStep name (stimulus.Shuffle dice)
      shuffle_step name dice acts =
          step_by before.flight name (stimulus.Shuffle dice) acts tt (λ number flies. inl flies) (λ w. passed_by w)
          (λ number stays. stays) (λ sender note other e. let no : stimulus.Shuffle dice ≡ stimulus.Arrive sender note other = e in cc)

      -- a joining
      pub join_step : (name contact : Name) →
          Acts state steps before before.flight name (stimulus.Join contact) entry after →
          IsStep name (stimulus.Join contact)
      join_step name contact acts =
          step_by before.flight name (stimulus.Join contact) acts tt (λ number flies. inl flies) (λ w. passed_by w)
          (λ number stays. stays) (λ sender note dice e. let no : stimulus.Join contact ≡ stimulus.Arrive sender note dice = e in cc)

      -- an arrival
      pub arrive_step : (place : ℕ) (dice : Dice)
          (effect : Arrives state steps before place (λ packet. stimulus.Arrive packet.sender packet.note dice) entry after) →
          IsStep effect.packet.to (stimulus.Arrive effect.packet.sender effect.packet.note dice)
      arrive_step place dice effect =
          let packet : KeepsPacket content past effect.packet =
          each-at (λ p. KeepsPacket content past p) before.sent effect.number effect.packet kept.packets effect.sent in
          step_by (remove before.flight place) effect.packet.to (stimulus.Arrive effect.packet.sender effect.packet.note dice) effect.acts packet.from_other
          (λ number flies. elim (stays_or_leaves before.flight place effect.number number effect.in_flight flies) [
            | inl arrives ↦
                inr (record {
                  packet = effect.packet;
                  dice = dice;
                  was_sent = subst (λ k. slice_get before.sent k ≡ Some effect.packet) (sym arrives) effect.sent;
                  receiver = refl;
                  arrives = refl;
                })
            | inr stays ↦ inl stays
          ])
          (λ w. sum_removed (λ number. weight_of w (slice_get before.sent number)) before.flight place effect.number effect.in_flight
          ∙ ap (λ o. weight_of w o + flying_weight w before.sent (remove before.flight place)) effect.sent)
          (λ number stays. one_removed before.flight place number stays)
          (λ sender note other e.
          let this : stimulus.Arrive effect.packet.sender effect.packet.note dice ≡ stimulus.Arrive sender note other = e in
          (effect.number, effect.packet, effect.sent, cc, cc))
