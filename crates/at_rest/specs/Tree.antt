-- The tree of a message: which nodes delivered it, and from which node each had it.
use Rattle.std.specs.Prelude.{◌≡◌, ℕ, List, [], ◌∷◌, ◌++◌, Option, Some, None, map, filter, option_map, slice_get}
use Rattle.std.specs.Option.{option_and_then}
use Rattle.node_names.specs.Same.{same_id}
use Rattle.node_names.specs.declared.ids.MsgId.{MsgId}
use Rattle.node_names.specs.declared.ids.Origin.{Origin}
use Rattle.protocol.specs.Delivery.{Delivery}
use Rattle.protocol.specs.Lists.{IsOneOf}
use Rattle.world.specs.Entry.{Entry}
use Rattle.world.specs.Event.{Event}
use Rattle.world.specs.declared.event.EventOf.TheVariants.{Start, Broadcast, Arrive, Lose, Again, Fire, Flush, Down, Shuffle, Join, Stop}
use Rattle.world.specs.declared.packet.Packet.{Packet}
use Rattle.at_rest.specs.declared.branch.Branch.{Branch}

-- the sender of the packet with this number
abbrev pub sender_of : {N : Type 0} → List (Packet N) → Option ℕ → Option Origin
sender_of {N} sent number = option_map (λ (packet : Packet N). packet.sender) (option_and_then (slice_get sent) number)

-- the parent of an event's deliveries: the sender of the packet that arrived, or none for other events
abbrev pub parent_by : {N : Type 0} → List (Packet N) → Option ℕ → Event → Option Origin
parent_by sent number (Arrive place dice) = sender_of sent number
parent_by sent number (Broadcast name payload) = None
parent_by sent number (Start name incarnation peers contact) = None
parent_by sent number (Lose place) = None
parent_by sent number (Again again) = None
parent_by sent number (Fire name id) = None
parent_by sent number (Flush name) = None
parent_by sent number (Down name peer dice) = None
parent_by sent number (Shuffle name dice) = None
parent_by sent number (Join name contact) = None
parent_by sent number (Stop name) = None

-- the branches of the message among deliveries that came from this parent
abbrev pub branches_from : MsgId → Option Origin → List Delivery → List Branch
branches_from id parent given = map (λ d. record { node = d.node; parent = parent }) (filter (λ d. same_id id d.id) given)

-- the branches that an entry adds to the message's tree
abbrev pub branches_of : {N : Type 0} → List (Packet N) → MsgId → Entry → List Branch
branches_of sent id entry = branches_from id (parent_by sent entry.packet entry.event) entry.given

-- the tree of the message: a branch for each of its deliveries, in their order
abbrev pub tree_of : {N : Type 0} → List (Packet N) → MsgId → List Entry → List Branch
tree_of sent id [] = []
tree_of sent id (entry ∷ past) = tree_of sent id past ++ branches_of sent id entry

-- One of the branches is that of this incarnation.
abbrev pub HasBranch : Origin → List Branch → Type 0
HasBranch node branches = (b : Branch) × IsOneOf b branches × (b.node ≡ node)

-- A branch without a parent is the origin's own, and the parent of any other branch has an earlier branch.
abbrev pub LeadsOn : MsgId → List Branch → Origin → Option Origin → Type 0
LeadsOn id before node None = node ≡ id.origin
LeadsOn id before node (Some parent) = HasBranch parent before

-- This holds of each of the branches, given the branches before it: each leads to the origin.
abbrev pub LeadToOrigin : MsgId → List Branch → List Branch → Type 0
LeadToOrigin id before [] = Unit {0}
LeadToOrigin id before (b ∷ branches) = LeadsOn id before b.node b.parent × LeadToOrigin id (before ++ b ∷ []) branches
