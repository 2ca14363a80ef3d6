-- What a stimulus does is what its part does.
use Rattle.std.proofs.Common.{◌≡◌, ◌∙◌, Bool, true, false, refl, sym, ap, arith, subst}
use Rattle.std.specs.Prelude.{◌↔◌, IsErrOf, OnOk, if◌then◌else◌}
use Rattle.std.specs.declared.result.Result.{Result}
use Rattle.std.specs.declared.result.Result.TheVariants.{Ok, Err}
use Rattle.node_names.specs.NodeName.{Name}
use Rattle.node_names.specs.Same.{same_name}
use Rattle.node_names.specs.declared.dice.Dice.{Dice}
use Rattle.node_names.specs.declared.ids.Origin.{Origin}
use Rattle.protocol.specs.IdentityLaw.{IsOutOfNumbers, IsTooLong}
use Rattle.protocol.specs.Stimulus.{Stimulus}
use Rattle.protocol.specs.declared.protocol.CoreError.{CoreError}
use Rattle.protocol.specs.declared.protocol.CoreError.TheVariants.{PayloadTooLong}
use Rattle.protocol.specs.declared.stimulus.StimulusOf.TheVariants.{Broadcast, Arrive, Fire, Flush, Down, Shuffle, Join}
use Rattle.frames.specs.Body.{Body}
use Rattle.frames.specs.Frame.{Frame}
use Rattle.frames.specs.declared.body.BodyOf.TheVariants as body
use Rattle.membership.specs.Membership.{Membership}
use Rattle.gossip_core.specs.State.{GossipState}
use Rattle.node_core.specs.Parts.{IsSpentPart, IsTooLongPart, Makes, Part, PreparedStep, by_part, part_heard, part_of}
use Rattle.node_core.specs.Plum.{Plum, plum_state}
use Rattle.node_core.specs.Steps.{IsAllowed, greeting, heard, idle, is_joined, turned}
use Rattle.node_core.specs.declared.dispatch.PartOf.TheVariants.{Greeting, Nobody}
use Rattle.node_core.proofs.Told.{no_error}

module _ (m : Membership) (g : GossipState) (sender : Name) where
  heard_by : (said : Body) (dice : Dice) → heard m g sender said dice ≡ by_part m g (part_heard sender said dice)
  heard_by body.Join dice = refl
  heard_by (body.ForwardJoin new ttl) dice = refl
  heard_by (body.Neighbor high) dice = refl
  heard_by (body.NeighborReply accepted) dice = refl
  heard_by body.Disconnect dice = refl
  heard_by (body.Shuffle origin ttl names) dice = refl
  heard_by (body.ShuffleReply names) dice = refl
  heard_by (body.Gossip id round payload) dice = refl
  heard_by (body.IHave entries) dice = refl
  heard_by (body.Graft id round) dice = refl
  heard_by body.Prune dice = refl
  heard_by body.GraftPeer dice = refl

-- what a packet says is too long or spent for no part
not_too_long : (sender : Name) (said : Body) (dice : Dice) → IsTooLongPart (part_heard sender said dice) → ⊥
not_too_long sender body.Join dice h = h
not_too_long sender (body.ForwardJoin new ttl) dice h = h
not_too_long sender (body.Neighbor high) dice h = h
not_too_long sender (body.NeighborReply accepted) dice h = h
not_too_long sender body.Disconnect dice h = h
not_too_long sender (body.Shuffle origin ttl names) dice h = h
not_too_long sender (body.ShuffleReply names) dice h = h
not_too_long sender (body.Gossip id round payload) dice h = h
not_too_long sender (body.IHave entries) dice h = h
not_too_long sender (body.Graft id round) dice h = h
not_too_long sender body.Prune dice h = h
not_too_long sender body.GraftPeer dice h = h

not_spent : (g : GossipState) (sender : Name) (said : Body) (dice : Dice) → IsSpentPart g (part_heard sender said dice) → ⊥
not_spent g sender body.Join dice h = h
not_spent g sender (body.ForwardJoin new ttl) dice h = h
not_spent g sender (body.Neighbor high) dice h = h
not_spent g sender (body.NeighborReply accepted) dice h = h
not_spent g sender body.Disconnect dice h = h
not_spent g sender (body.Shuffle origin ttl names) dice h = h
not_spent g sender (body.ShuffleReply names) dice h = h
not_spent g sender (body.Gossip id round payload) dice h = h
not_spent g sender (body.IHave entries) dice h = h
not_spent g sender (body.Graft id round) dice h = h
not_spent g sender body.Prune dice h = h
not_spent g sender body.GraftPeer dice h = h

-- what a stimulus does, its part does
turned_by : (me : Origin) (m : Membership) (g : GossipState) (stimulus : Stimulus Frame) → turned me m g stimulus ≡ by_part m g (part_of me m stimulus)
turned_by me m g (Broadcast payload) = refl
turned_by me m g (Arrive sender frame dice) = go (same_name sender.name me.name)
  where
    go : (b : Bool) →
        (if b then idle m g else heard m g sender.name frame.body dice) ≡ by_part m g (if b then Nobody else part_heard sender.name frame.body dice)
    go true = refl
    go false = heard_by m g sender.name frame.body dice
turned_by me m g (Fire id) = refl
turned_by me m g Flush = refl
turned_by me m g (Down peer dice) = refl
turned_by me m g (Shuffle dice) = refl
turned_by me m g (Join contact) = go (is_joined me m contact)
  where
    go : (b : Bool) → (if b then idle m g else greeting m g contact) ≡ by_part m g (if b then Nobody else Greeting contact)
    go true = refl
    go false = refl

-- what the part of a stimulus does, the stimulus does
pub part_does : {part : Part} (core : Plum) (stimulus : Stimulus Frame) →
    part ≡ part_of core.me core.membership stimulus →
    by_part core.membership core.gossip part ≡ turned core.me core.membership core.gossip stimulus
part_does core stimulus is = ap (by_part core.membership core.gossip) is ∙ sym (turned_by core.me core.membership core.gossip stimulus)

-- what is kept makes what the stimulus does, whichever way core and turn are written
pub makes_inside : {inside core : Plum} {kept turn : PreparedStep} (stimulus : Stimulus Frame) →
    inside ≡ core →
    kept ≡ turn →
    Makes core.membership core.gossip (turned core.me core.membership core.gossip stimulus) turn.moved turn.row →
    Makes inside.membership inside.gossip (turned inside.me inside.membership inside.gossip stimulus) kept.moved kept.row
makes_inside {inside} {core} {kept} {turn} stimulus is_core is_turn makes =
    subst (λ (core : Plum). Makes core.membership core.gossip (turned core.me core.membership core.gossip stimulus) kept.moved kept.row) (sym is_core)
    (subst (λ (turn : PreparedStep). Makes core.membership core.gossip (turned core.me core.membership core.gossip stimulus) turn.moved turn.row)
    (sym is_turn) makes)

-- a part is too long where its stimulus is
pub too_long_by : (me : Origin) (m : Membership) (stimulus : Stimulus Frame) → IsTooLongPart (part_of me m stimulus) ↔ IsTooLong stimulus
too_long_by me m (Broadcast payload) = ((λ h. h), (λ h. h))
too_long_by me m (Arrive sender frame dice) = (go (same_name sender.name me.name), (λ h. absurd h))
  where
    go : (b : Bool) → IsTooLongPart (if b then Nobody else part_heard sender.name frame.body dice) → ⊥
    go true h = h
    go false h = not_too_long sender.name frame.body dice h
too_long_by me m (Fire id) = ((λ h. h), (λ h. h))
too_long_by me m Flush = ((λ h. h), (λ h. h))
too_long_by me m (Down peer dice) = ((λ h. h), (λ h. h))
too_long_by me m (Shuffle dice) = ((λ h. h), (λ h. h))
too_long_by me m (Join contact) = (go (is_joined me m contact), (λ h. absurd h))
  where
    go : (b : Bool) → IsTooLongPart (if b then Nobody else Greeting contact) → ⊥
    go true h = h
    go false h = h

-- and finds no number where its stimulus finds none
pub spent_by : (core : Plum) (stimulus : Stimulus Frame) →
    IsSpentPart core.gossip (part_of core.me core.membership stimulus) ↔ IsOutOfNumbers (plum_state core) stimulus
spent_by core (Broadcast payload) = ((λ h. h), (λ h. h))
spent_by core (Arrive sender frame dice) = (go (same_name sender.name core.me.name), (λ h. absurd h))
  where
    go : (b : Bool) → IsSpentPart core.gossip (if b then Nobody else part_heard sender.name frame.body dice) → ⊥
    go true h = h
    go false h = not_spent core.gossip sender.name frame.body dice h
spent_by core (Fire id) = ((λ h. h), (λ h. h))
spent_by core Flush = ((λ h. h), (λ h. h))
spent_by core (Down peer dice) = ((λ h. h), (λ h. h))
spent_by core (Shuffle dice) = ((λ h. h), (λ h. h))
spent_by core (Join contact) = (go (is_joined core.me core.membership contact), (λ h. absurd h))
  where
    go : (b : Bool) → IsSpentPart core.gossip (if b then Nobody else Greeting contact) → ⊥
    go true h = h
    go false h = h

-- what is not too long may be taken
pub allowed_by : (stimulus : Stimulus Frame) → (IsTooLong stimulus → ⊥) → IsAllowed stimulus
allowed_by (Broadcast payload) short = omega (arith, short)
allowed_by (Arrive sender frame dice) short = tt
allowed_by (Fire id) short = tt
allowed_by Flush short = tt
allowed_by (Down peer dice) short = tt
allowed_by (Shuffle dice) short = tt
allowed_by (Join contact) short = tt

-- what did not refuse as too long may be taken
pub ok_allowed : {T : Type 0} (result : Result T CoreError) (stimulus : Stimulus Frame) →
    IsErrOf result PayloadTooLong ↔ IsTooLong stimulus →
    OnOk result (IsAllowed stimulus)
ok_allowed (Err e) stimulus long = tt
ok_allowed (Ok x) stimulus long = allowed_by stimulus (λ h. no_error x PayloadTooLong (long.1 h))

-- two answers, one after the other
pub both_ways : {P Q R : Type 0} → P ↔ Q → Q ↔ R → P ↔ R
both_ways a b = ((λ p. b.0 (a.0 p)), (λ r. a.1 (b.1 r)))
