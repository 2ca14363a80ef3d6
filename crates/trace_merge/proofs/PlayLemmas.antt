-- What one more event does to a group, as the traces of its runs tell it.
use Rattle.std.proofs.Common.{◌≡◌, ◌≢◌, ◌∙◌, ◌++◌, ℕ, List, [], ◌∷◌, ap, false, length, refl, subst, sym, true}
use Rattle.std.specs.Prelude.{◌&&◌, Bool, Option, Some, None, nat_eq, remove, reverse}
use Rattle.std.proofs.lemmas.List.{reverse-append}
use Rattle.std.specs.Cmp.{unsigned_Decides}
use Rattle.node_names.specs.NodeName.{Name}
use Rattle.node_names.specs.Limits.{Limits}
use Rattle.node_names.specs.Same.{same_name, same_name-Decides, same_origin, same_origin-Decides}
use Rattle.node_names.specs.declared.ids.Incarnation.{Incarnation}
use Rattle.node_names.specs.declared.ids.Origin.{Origin}
use Rattle.protocol.specs.CoreState.{CoreState}
use Rattle.protocol.specs.Delivery.{Delivery}
use Rattle.protocol.specs.Output.{Output}
use Rattle.protocol.specs.Stimulus.{Stimulus}
use Rattle.protocol.specs.Trace.{Trace}
use Rattle.protocol.specs.declared.stimulus.StimulusOf.TheVariants as stimulus
use Rattle.world.specs.Entry.{Entry}
use Rattle.world.specs.Event.{Event}
use Rattle.world.specs.Group.{Group, Logged}
use Rattle.world.specs.History.{incarnation_of}
use Rattle.world.specs.Plan.{arrival, stimulus_by}
use Rattle.world.specs.Refusals.{sent_under}
use Rattle.world.specs.Run.{Acts, Applied, Effect, Happens, Run}
use Rattle.world.specs.declared.event.EventOf.TheVariants.{Start, Broadcast, Arrive, Lose, Again, Fire, Flush, Down, Shuffle, Join, Stop}
use Rattle.world.specs.declared.packet.Packet.{Packet}
use Rattle.trace_merge.specs.Projection.{is_last, projection, projection_in, receiver, started_on, stepped_name, traced_on}
use Rattle.trace_merge.proofs.Stable.{projection-after}

-- the newest entry of a log stands first in its history
pub newest : (log : List Entry) (entry : Entry) → reverse (log ++ entry ∷ []) ≡ entry ∷ reverse log
newest log entry = reverse-append log (entry ∷ [])

-- a run is the last of its name where its incarnation is
pub is_last-its : (o : Origin) (last : Option Incarnation) → last ≡ Some o.incarnation → is_last o last ≡ true
is_last-its o last its = ap (is_last o) its ∙ (unsigned_Decides o.incarnation.0 o.incarnation.0).1 refl

-- and not where it is another
pub is_last-not : (o : Origin) (last : Option Incarnation) → last ≢ Some o.incarnation → is_last o last ≡ false
is_last-not o None other = refl
is_last-not o (Some incarnation) other = go (nat_eq incarnation.0 o.incarnation.0) refl
  where
    go : (b : Bool) → nat_eq incarnation.0 o.incarnation.0 ≡ b → b ≡ false
    go false is = refl
    go true is = absurd (other (λ i. Some (record { 0 = (unsigned_Decides incarnation.0 o.incarnation.0).0 is i })))

-- names that differ are told apart
pub name-differs : (name other : Name) → name ≢ other → same_name name other ≡ false
name-differs name other differ = go (same_name name other) refl
  where
    go : (b : Bool) → same_name name other ≡ b → b ≡ false
    go false is = refl
    go true is = absurd (differ ((same_name-Decides name other).0 is))

-- and so are runs
pub origin-differs : (o other : Origin) → o ≢ other → same_origin o other ≡ false
origin-differs o other differ = go (same_origin o other) refl
  where
    go : (b : Bool) → same_origin o other ≡ b → b ≡ false
    go false is = refl
    go true is = absurd (differ ((same_origin-Decides o other).0 is))

-- what is false with something is false
pub and-false : (b : Bool) → (b && false) ≡ false
and-false true = refl
and-false false = refl

-- an event that steps a core starts no node
pub starts_none : {N : Type 0} (o : Origin) (sent : List (Packet N)) (event : Event)
    (number : Option ℕ) (name : Name) (out : Output N) (trace : Option (Trace N)) →
    stepped_name sent event number ≡ Some name →
    started_on o event out trace ≡ trace
starts_none o sent (Start n incarnation peers contact) number name out trace is = let none : None ≡ Some name = is in cc
starts_none o sent (Broadcast n payload) number name out trace is = refl
starts_none o sent (Arrive place dice) number name out trace is = refl
starts_none o sent (Lose place) number name out trace is = refl
starts_none o sent (Again again) number name out trace is = refl
starts_none o sent (Fire n id) number name out trace is = refl
starts_none o sent (Flush n) number name out trace is = refl
starts_none o sent (Down n peer dice) number name out trace is = refl
starts_none o sent (Shuffle n dice) number name out trace is = refl
starts_none o sent (Join n contact) number name out trace is = refl
starts_none o sent (Stop n) number name out trace is = refl

module _
    {C N : Type 0}
    (state : C → CoreState)
    (starts : Origin → Limits → List Name → Option Name → List (Name × N) → C → Type 0)
    (steps : C → Stimulus N → List (Name × N) → List Delivery → C → Type 0)
    (limits : Limits)
  where
    -- a step of a name and by a stimulus is one of the same name and by the same stimulus
    acts_so : (before : Group C N) (entry : Entry) (after : Group C N) (staying : List ℕ) (n name : Name) (t told : Stimulus N) →
        Acts state steps before staying n t entry after →
        Some n ≡ Some name →
        Some t ≡ Some told →
        Acts state steps before staying name told entry after
    acts_so before entry after staying n name t told acts is by =
        let same : n ≡ name = cc in
        let tells : t ≡ told = cc in
        subst (λ m. Acts state steps before staying m told entry after) same (subst (λ s. Acts state steps before staying n s entry after) tells acts)

    -- where nothing leaves the flight
    acts_as : (before : Group C N) (entry : Entry) (after : Group C N) (n name : Name) (t told : Stimulus N) →
        Acts state steps before before.flight n t entry after →
        Some n ≡ Some name →
        Some t ≡ Some told →
        (staying : List ℕ) × Acts state steps before staying name told entry after
    acts_as before entry after n name t told acts is by = (before.flight, acts_so before entry after before.flight n name t told acts is by)

    -- an event that steps the core of a name acts there
    pub acts_of : (before : Group C N) (entry : Entry) (after : Group C N) (event : Event) (name : Name) (told : Stimulus N) →
        Effect state starts steps limits before entry after event →
        stepped_name before.sent event entry.packet ≡ Some name →
        stimulus_by before.sent event entry.packet ≡ Some told →
        (staying : List ℕ) × Acts state steps before staying name told entry after
    acts_of before entry after (Start n incarnation peers contact) name told effect is by = let none : None ≡ Some name = is in cc
    acts_of before entry after (Broadcast n payload) name told effect is by = acts_as before entry after n name (stimulus.Broadcast payload) told effect.1 is by
    acts_of before entry after (Arrive place dice) name told effect is by =
        let under : sent_under before.sent entry.packet ≡ Some effect.packet = ap (sent_under before.sent) effect.named ∙ effect.sent in (
          _,
          acts_so before entry after (remove before.flight place) effect.packet.to name
              (stimulus.Arrive effect.packet.sender effect.packet.note dice) told effect.acts
              (sym (ap receiver under) ∙ is) (sym (ap (λ p. arrival p dice) under) ∙ by),
        )
    acts_of before entry after (Lose place) name told effect is by = let none : None ≡ Some name = is in cc
    acts_of before entry after (Again number) name told effect is by = let none : None ≡ Some name = is in cc
    acts_of before entry after (Fire n id) name told effect is by = acts_as before entry after n name (stimulus.Fire id) told effect.1 is by
    acts_of before entry after (Flush n) name told effect is by = acts_as before entry after n name stimulus.Flush told effect.1 is by
    acts_of before entry after (Down n peer dice) name told effect is by = acts_as before entry after n name (stimulus.Down peer dice) told effect.1 is by
    acts_of before entry after (Shuffle n dice) name told effect is by = acts_as before entry after n name (stimulus.Shuffle dice) told effect.1 is by
    acts_of before entry after (Join n contact) name told effect is by = acts_as before entry after n name (stimulus.Join contact) told effect.1 is by
    acts_of before entry after (Stop n) name told effect is by = let none : None ≡ Some name = is in cc

    -- the history goes on
    pub ran_on : (event : Event) (given : List Delivery) (old new : Logged C N) →
        Applied state starts steps event given old new →
        old.limits ≡ limits →
        Run state starts steps limits (reverse old.log) old.group →
        Run state starts steps limits (reverse new.log) new.group
    ran_on event given old new applied same ran =
        subst (λ h. Run state starts steps limits h new.group) (sym (ap reverse applied.logged ∙ newest old.log applied.entry))
        (old.group, ran, subst (λ l. Happens state starts steps l old.group applied.entry new.group) same applied.happened)

    -- and so does what a run did
    pub projected_on : (o : Origin) (event : Event) (given : List Delivery) (old new : Logged C N) (applied : Applied state starts steps event given old new) →
        old.limits ≡ limits →
        Run state starts steps limits (reverse old.log) old.group →
        projection_in o new ≡ traced_on o (incarnation_of o.name (reverse old.log)) new.group.sent applied.entry (length new.group.sent) (projection_in o old)
    projected_on o event given old new applied same ran =
        let happened : Happens state starts steps limits old.group applied.entry new.group =
        subst (λ l. Happens state starts steps l old.group applied.entry new.group) same applied.happened in
        ap (projection o new.group.sent (length new.group.sent)) (ap reverse applied.logged ∙ newest old.log applied.entry)
        ∙ projection-after state starts steps limits o (reverse old.log) old.group applied.entry new.group ran happened.0 happened.1
