-- All nine laws of a core: of what it is at its start, of what it is at any time, and of what each step does.
use Rattle.std.specs.Prelude.{◌≡◌, ◌≢◌, List, [], Option, None, false, IsTrue}
use Rattle.std.specs.List.{AllByRecursion as Each}
use Rattle.node_names.specs.NodeName.{Name}
use Rattle.node_names.specs.Limits.{Limits}
use Rattle.node_names.specs.declared.ids.MsgId.{MsgId}
use Rattle.node_names.specs.declared.ids.Origin.{Origin}
use Rattle.protocol.specs.AskLaw.{AskLaw}
use Rattle.protocol.specs.Content.{Content}
use Rattle.protocol.specs.CoreState.{CoreState}
use Rattle.protocol.specs.Delivery.{Delivery}
use Rattle.protocol.specs.DeliveryLaw.{DeliveryLaw, HasCountedIds, ids}
use Rattle.protocol.specs.HoldLaw.{HoldLaw, HoldsWhatItHas, HoldsWhatItLists, KeepsLast}
use Rattle.protocol.specs.IdentityLaw.{IdentityLaw}
use Rattle.protocol.specs.PayloadLaw.{PayloadLaw}
use Rattle.protocol.specs.Peers.{are_peers}
use Rattle.protocol.specs.QueueLaw.{QueueLaw, SoundQueue}
use Rattle.protocol.specs.SoundViews.{SoundViews}
use Rattle.protocol.specs.SpreadLaw.{SpreadLaw}
use Rattle.protocol.specs.Stimulus.{Stimulus, IsNotFrom}
use Rattle.protocol.specs.ViewLaw.{ViewLaw}
use Rattle.protocol.specs.WantLaw.{WantLaw, SoundWants}

-- The packet carries nothing, announces nothing and asks for nothing.
pub record IsSilent (content : Content) : Type 0 where
  pub carries_nothing : content.carried ≡ None
  pub announces_nothing : content.announced ≡ []
  pub asks_nothing : content.asked ≡ None

-- A core starts with its peers as its active view and with nothing else, and its first packets go to others and are
-- silent.
pub record StartLaws {N : Type 0} (content : N → Content) (me : Origin) (peers : List Name) (sends : List (Name × N)) (core : CoreState) : Type 0 where
  pub is_me : core.me ≡ me
  pub has_nothing : (id : MsgId) → core.has id ≡ false
  pub holds_nothing : (id : MsgId) → core.payload id ≡ None
  pub lists_nothing : core.held ≡ []
  pub active_are_peers : core.active ≡ peers
  pub passive_is_empty : core.passive ≡ []
  pub queue_is_empty : core.queued ≡ []
  pub wants_nothing : core.wants ≡ []
  pub arms_nothing : core.timers ≡ []
  pub counts_nothing : core.count ≡ 0
  pub sends_to_others : Each (λ send. send.0 ≢ me.name) sends
  pub sends_silent : Each (λ send. IsSilent (content send.1)) sends

-- What holds of a core at any time. Where all messages are to be kept, it holds all that it has.
pub record StateLaws (limits : Limits) (core : CoreState) : Type 0 where
  pub views : SoundViews limits core
  pub counted : HasCountedIds core
  pub holds : limits.keep ≡ 0 → HoldsWhatItHas core
  pub lists : HoldsWhatItLists core
  pub queue : SoundQueue core
  pub wants : SoundWants core

-- What each step does.
pub record StepLaws {N : Type 0} (content : N → Content) (before : CoreState)
    (stimulus : Stimulus N) (sends : List (Name × N)) (given : List Delivery) (after : CoreState) : Type 0 where
  pub identity : IdentityLaw before after
  pub payloads : PayloadLaw content before stimulus sends given after
  pub deliveries : DeliveryLaw content before stimulus given after
  pub views : ViewLaw before sends
  pub spread : SpreadLaw content stimulus sends given after
  pub queue : QueueLaw content before stimulus sends given after
  pub wants : WantLaw content before stimulus after
  pub asks : AskLaw content before stimulus sends given after
  pub holds : HoldLaw content before stimulus sends given

-- The starts and steps of a core meet the laws wherever packets come from others, and lead from sound cores to sound
-- ones; and each step keeps the messages that were delivered last, at least as many as the limits say. The limits of a
-- core stay the same by `step_sound`, since what a core shows has no limits.
pub record Laws
    {C N : Type 0}
    (state : C → CoreState)
    (content : N → Content)
    (is_sound : Limits → C → Type 0)
    (starts : Origin → Limits → List Name → Option Name → List (Name × N) → C → Type 0)
    (steps : C → Stimulus N → List (Name × N) → List Delivery → C → Type 0)
    : Type 0 where
  pub start : (me : Origin) (limits : Limits) (peers : List Name) (contact : Option Name) (sends : List (Name × N)) (core : C) →
      IsTrue (are_peers limits me.name peers contact) →
      starts me limits peers contact sends core →
      StartLaws content me peers sends (state core)
  pub start_sound : (me : Origin) (limits : Limits) (peers : List Name) (contact : Option Name) (sends : List (Name × N)) (core : C) →
      IsTrue (are_peers limits me.name peers contact) →
      starts me limits peers contact sends core →
      is_sound limits core
  pub always : (limits : Limits) (core : C) → is_sound limits core → StateLaws limits (state core)
  pub step : (limits : Limits) (old : C) (stimulus : Stimulus N) (sends : List (Name × N)) (given : List Delivery) (new : C) →
      is_sound limits old →
      IsNotFrom (state old).me.name stimulus →
      steps old stimulus sends given new →
      StepLaws content (state old) stimulus sends given (state new)
  pub keeps : (limits : Limits) (old : C) (stimulus : Stimulus N) (sends : List (Name × N)) (given : List Delivery) (new : C) →
      is_sound limits old →
      IsNotFrom (state old).me.name stimulus →
      steps old stimulus sends given new →
      KeepsLast limits.keep (state old).held (ids given) (state new).held
  pub step_sound : (limits : Limits) (old : C) (stimulus : Stimulus N) (sends : List (Name × N)) (given : List Delivery) (new : C) →
      is_sound limits old →
      IsNotFrom (state old).me.name stimulus →
      steps old stimulus sends given new →
      is_sound limits new
