-- What a node of bytes tells of its active view: which neighbours came and went, and why.
use Rattle.std.specs.Prelude.{◌++◌, Bool, true, false, List, [], ◌∷◌, Option, None, Some, not, if◌then◌else◌}
use Rattle.std.specs.List.{flat_map}
use Rattle.node_names.specs.NodeName.{Name}
use Rattle.node_names.specs.Same.{has_name, same_name}
use Rattle.protocol.specs.Stimulus.{Stimulus}
use Rattle.protocol.specs.declared.stimulus.StimulusOf.TheVariants.{Broadcast, Arrive, Fire, Flush, Down, Shuffle, Join}
use Rattle.frames.specs.Body.{Body}
use Rattle.frames.specs.Frame.{Frame}
use Rattle.frames.specs.declared.body.BodyOf.TheVariants as body
use Rattle.node_core.specs.declared.news.News.{News}
use Rattle.node_core.specs.declared.news.News.TheVariants.{NeighborUp, NeighborDown, Isolated, Joined}
use Rattle.node_core.specs.declared.news.Parting.{Parting}
use Rattle.node_core.specs.declared.news.Parting.TheVariants.{Left, Failed, Displaced}
use Rattle.node_core.specs.declared.news.Farewell.{Farewell}

-- whether a packet with this body says that its sender is a neighbour no longer
abbrev pub is_farewell : Body → Bool
is_farewell body.Join = false
is_farewell (body.ForwardJoin new ttl) = false
is_farewell (body.Neighbor high) = false
is_farewell (body.NeighborReply accepted) = not accepted
is_farewell body.Disconnect = true
is_farewell (body.Shuffle origin ttl names) = false
is_farewell (body.ShuffleReply names) = false
is_farewell (body.Gossip id round payload) = false
is_farewell (body.IHave entries) = false
is_farewell (body.Graft id round) = false
is_farewell body.Prune = false
is_farewell body.GraftPeer = false

-- the name of which the stimulus itself says that it goes, and why
abbrev pub farewell_of : Stimulus Frame → Option Farewell
farewell_of (Broadcast payload) = None
farewell_of (Arrive sender frame dice) = if is_farewell frame.body then Some (record { name = sender.name; why = Left }) else None
farewell_of (Fire id) = None
farewell_of Flush = None
farewell_of (Down peer dice) = Some (record { name = peer; why = Failed })
farewell_of (Shuffle dice) = None
farewell_of (Join contact) = None

-- why the name went: for what the stimulus says of it, or for another
abbrev pub parting_of : Option Farewell → Name → Parting
parting_of None name = Displaced
parting_of (Some farewell) name = if same_name farewell.name name then farewell.why else Displaced

-- that the name went, unless it is among those that are left
abbrev pub departure_of : Option Farewell → List Name → Name → List News
departure_of farewell left name = if has_name left name then [] else NeighborDown name (parting_of farewell name) ∷ []

-- that the name came, unless it was among those before
abbrev pub arrival_of : List Name → Name → List News
arrival_of before name = if has_name before name then [] else NeighborUp name ∷ []

-- that a view became empty, or is so no longer
abbrev pub turn_of : List Name → List Name → List News
turn_of [] [] = []
turn_of [] (name ∷ names) = Joined ∷ []
turn_of (name ∷ names) [] = Isolated ∷ []
turn_of (name ∷ names) (other ∷ others) = []

-- those that went, in the order of the view before; those that came, in the order of the view after; and last, whether
-- the view became empty or is so no longer
abbrev pub changes : Option Farewell → List Name → List Name → List News
changes farewell before after =
    flat_map (departure_of farewell after) before ++ (flat_map (arrival_of before) after ++ turn_of before after)

-- the news of a step: its stimulus, and the active views before and after it
abbrev pub news_of : Stimulus Frame → List Name → List Name → List News
news_of stimulus before after = changes (farewell_of stimulus) before after

-- A step that changed the active view: the view before it, and of whom its stimulus says that it goes.
pub record Change : Type 0 where
  pub before : List Name
  pub farewell : Option Farewell

-- Whether a node tells news; those that were not taken yet; and the last step, where its news are not among them yet.
pub record Telling : Type 0 where
  pub tells : Bool
  pub news : List News
  pub last : Option Change

-- the news of the last step, where the active view is now this one
abbrev pub last_news : Option Change → List Name → List News
last_news None active = []
last_news (Some change) active = changes change.farewell change.before active

-- all news that were not taken yet, where the active view is now this one
abbrev pub all_news : Telling → List Name → List News
all_news telling active = telling.news ++ last_news telling.last active
