-- The laws that every row of the table keeps.
use Rattle.std.specs.Prelude.{◌≡◌, ◌≢◌, ◌≤◌, ◌<◌, ◌-◌, ◌⊎◌, ◌==◌, ℕ, Bool, true, false, Some, List, [], ◌∷◌, ◌++◌, length, filter}
use Rattle.std.specs.List.{AllByRecursion as Each}
use Rattle.node_names.specs.NodeName.{Name}
use Rattle.node_names.specs.Same.{has_name}
use Rattle.frames.specs.Body.{Body}
use Rattle.frames.specs.Content.{body_content, membership}
use Rattle.frames.specs.Frame.{has_good_fields, has_good_counts}
use Rattle.frames.specs.declared.TheConstants.{MAX_NAMES}
use Rattle.frames.specs.declared.body.BodyOf.TheVariants as body
use Rattle.views.specs.Names.{others}
use Rattle.views.specs.Views.{AreSound}
use Rattle.membership.specs.Membership.{Membership, Turn}
use Rattle.membership.specs.Event.{Event}
use Rattle.membership.specs.declared.event.EventOf.TheVariants.{Joins, Join, ForwardJoin, Neighbor, Reply, Disconnect, Shuffle, ShuffleReply, Down, Tick}

-- The contact or the sender, if the event has one, is not the owner.
abbrev pub IsFromAnother : Name → Event → Type 0
IsFromAnother owner (Joins contact) = contact ≢ owner
IsFromAnother owner (Join sender) = sender ≢ owner
IsFromAnother owner (ForwardJoin sender new ttl) = sender ≢ owner
IsFromAnother owner (Neighbor sender high) = sender ≢ owner
IsFromAnother owner (Reply sender accepted) = sender ≢ owner
IsFromAnother owner (Disconnect sender) = sender ≢ owner
IsFromAnother owner (Shuffle sender origin ttl names) = sender ≢ owner
IsFromAnother owner (ShuffleReply sender names) = sender ≢ owner
IsFromAnother owner (Down peer) = Unit {0}
IsFromAnother owner Tick = Unit {0}

-- The views stay sound, and their owner and limits stay. Nothing is sent to the owner. The downs are exactly the names
-- that the active view lost, and the ups exactly those that it gained, which are last in it; there is at most one of
-- each.
pub record Lawful (before : Membership) (turn : Turn) : Type 0 where
  pub sound : AreSound turn.views
  pub owner_stays : turn.views.owner ≡ before.views.owner
  pub limits_stay : turn.views.limits ≡ before.views.limits
  pub to_others : Each (λ send. send.0 ≢ before.views.owner) turn.sends
  pub downs_were_active : Each (λ name. has_name before.views.active name ≡ true) turn.downs
  pub ups_were_not : Each (λ name. has_name before.views.active name ≡ false) turn.ups
  pub active_now : turn.views.active ≡ others turn.downs before.views.active ++ turn.ups
  pub one_down : length turn.downs ≤ 1
  pub one_up : length turn.ups ≤ 1

-- whether a body sends a name on its walk
abbrev pub is_walk : Body → Bool
is_walk body.Join = false
is_walk (body.ForwardJoin new ttl) = true
is_walk (body.Neighbor high) = false
is_walk (body.NeighborReply accepted) = false
is_walk body.Disconnect = false
is_walk (body.Shuffle origin ttl names) = false
is_walk (body.ShuffleReply names) = false
is_walk (body.Gossip id round payload) = false
is_walk (body.IHave entries) = false
is_walk (body.Graft id round) = false
is_walk body.Prune = false
is_walk body.GraftPeer = false

-- the walks among the sends
abbrev pub walks : List (Name × Body) → List (Name × Body)
walks sends = filter (λ send. is_walk send.1) sends

-- A walk with `ttl` steps left goes on at most once, with one step less, and not if no step is left.
abbrev pub GoesOnOnce : Name → ℕ → List (Name × Body) → Type 0
GoesOnOnce new ttl sends = (walks sends ≡ []) ⊎ ((next : Name) × (walks sends ≡ (next, body.ForwardJoin new (ttl - 1)) ∷ []) × (0 < ttl))

-- If the event is a shuffle, its names fit a frame.
abbrev pub FitsFrame : Event → Type 0
FitsFrame (Joins contact) = Unit {0}
FitsFrame (Join sender) = Unit {0}
FitsFrame (ForwardJoin sender new ttl) = Unit {0}
FitsFrame (Neighbor sender high) = Unit {0}
FitsFrame (Reply sender accepted) = Unit {0}
FitsFrame (Disconnect sender) = Unit {0}
FitsFrame (Shuffle sender origin ttl names) = length names ≤ MAX_NAMES
FitsFrame (ShuffleReply sender names) = Unit {0}
FitsFrame (Down peer) = Unit {0}
FitsFrame Tick = Unit {0}

-- Each message fits a frame.
abbrev pub FitFrames : Turn → Type 0
FitFrames turn = Each (λ send. (has_good_fields send.1 ≡ true) × (has_good_counts send.1 ≡ true)) turn.sends

-- Each message is about membership only: it carries no payload, announces nothing and asks for no message.
abbrev pub AreAboutMembership : Turn → Type 0
AreAboutMembership turn = Each (λ send. body_content send.1 ≡ membership) turn.sends

-- The event may close a request to the name: it is the name's answer, the failure of its link, or the tick, which may
-- forget the request.
abbrev pub Closes : Name → Event → Type 0
Closes name (Joins contact) = ⊥
Closes name (Join sender) = ⊥
Closes name (ForwardJoin sender new ttl) = ⊥
Closes name (Neighbor sender high) = ⊥
Closes name (Reply sender accepted) = sender ≡ name
Closes name (Disconnect sender) = ⊥
Closes name (Shuffle sender origin ttl names) = ⊥
Closes name (ShuffleReply sender names) = ⊥
Closes name (Down peer) = peer ≡ name
Closes name Tick = Unit {0}

-- The name is passive and is asked by the last message, with high priority if no name is active.
pub record IsAsking (name : Name) (turn : Turn) : Type 0 where
  pub passive : has_name turn.views.passive name ≡ true
  pub earlier : List (Name × Body)
  pub last : turn.sends ≡ earlier ++ (name, body.Neighbor (length turn.views.active == 0)) ∷ []

-- One request stands at a time: it stands until it is closed, and a name that is newly asked is sent the request.
pub record OneRequest (before : Membership) (event : Event) (turn : Turn) : Type 0 where
  pub told : (name : Name) → turn.asked ≡ Some name → (before.asked ≡ Some name) ⊎ IsAsking name turn
  pub stands : (name : Name) → before.asked ≡ Some name → (turn.asked ≡ Some name) ⊎ Closes name event
