-- Which scenario a document describes.
use Rattle.std.specs.Prelude.{◌≡◌, ◌^◌, ◌-◌, ◌≤◌, ℕ, List, codes, length, IsUtf8, Option, Some, None}
use Rattle.std.specs.List.{AllZip}
use Rattle.toml.specs.Parse.{parse_document}
use Rattle.toml.specs.Data.{Data, Members, no_members, table}
use Rattle.node_names.specs.Limits.{Limits as Sizes, IsAllowed}
use Rattle.scenario.specs.Reading.{at_key, IsOptional, IsNumber, IsNumberFromOne, IsText, IsName, IsNames, IsTables}
use Rattle.scenario.specs.declared.error.Key.TheVariants.{Seed, Limits, Event, Active, Passive, Arwl, Prwl, Ka, Kp, Threshold, Keep, Do}
use Rattle.scenario.specs.declared.error.Key.TheVariants.{Node, Incarnation, Peers, Contact, Text, Place, Number, Origin, Seq, Peer}
use Rattle.scenario.specs.declared.action.Action.{Action}
use Rattle.scenario.specs.declared.action.Action.TheVariants.{Start, Broadcast, Arrive, Lose, Again, Fire, Flush, Shuffle, Join, Down, Stop, ArriveAll, Settle}

-- the greatest number that fits into 64 bits
abbrev pub greatest : ℕ
greatest = 2 ^ 64 - 1

-- a limit of at most `most`, or the standard one if it is left out
abbrev pub IsLimit : ℕ → ℕ → Option Data → ℕ → Type 0
IsLimit most standard None limit = limit ≡ standard
IsLimit most standard (Some found) limit = IsNumber most (Some found) limit

-- the limits that a table gives, whether or not they are consistent with each other
pub record AreSizes (members : Members) (sizes : Sizes) : Type 0 where
  pub active : IsLimit 255 5 (at_key Active members) sizes.active
  pub passive : IsLimit 255 30 (at_key Passive members) sizes.passive
  pub arwl : IsLimit 255 6 (at_key Arwl members) sizes.arwl
  pub prwl : IsLimit 255 3 (at_key Prwl members) sizes.prwl
  pub ka : IsLimit 255 3 (at_key Ka members) sizes.ka
  pub kp : IsLimit 255 4 (at_key Kp members) sizes.kp
  pub threshold : IsLimit (2 ^ 32 - 1) 0 (at_key Threshold members) sizes.threshold
  pub keep : IsLimit (2 ^ 32 - 1) 0 (at_key Keep members) sizes.keep

-- the limits that a table gives, if they are consistent with each other
pub record AreLimits (members : Members) (sizes : Sizes) : Type 0 where
  pub sizes_are : AreSizes members sizes
  pub allowed : IsAllowed sizes

-- what the table of an event describes
abbrev pub IsAction : Members → Action → Type 0
IsAction members (Start node incarnation peers contact) = IsText (at_key Do members) (codes "start")
    × IsName (at_key Node members) node
    × IsNumber greatest (at_key Incarnation members) incarnation.0
    × IsNames (at_key Peers members) peers
    × IsOptional IsName (at_key Contact members) contact
IsAction members (Broadcast node text) = IsText (at_key Do members) (codes "broadcast")
    × IsName (at_key Node members) node
    × IsText (at_key Text members) text
IsAction members (Arrive place) = IsText (at_key Do members) (codes "arrive") × IsNumber greatest (at_key Place members) place
IsAction members (Lose place) = IsText (at_key Do members) (codes "lose") × IsNumber greatest (at_key Place members) place
IsAction members (Again number) = IsText (at_key Do members) (codes "again") × IsNumber greatest (at_key Number members) number
IsAction members (Fire node id) = IsText (at_key Do members) (codes "fire")
    × IsName (at_key Node members) node
    × IsName (at_key Origin members) id.origin.name
    × IsNumber greatest (at_key Incarnation members) id.origin.incarnation.0
    × IsNumberFromOne greatest (at_key Seq members) id.seq
IsAction members (Flush node) = IsText (at_key Do members) (codes "flush") × IsName (at_key Node members) node
IsAction members (Shuffle node) = IsText (at_key Do members) (codes "shuffle") × IsName (at_key Node members) node
IsAction members (Join node contact) = IsText (at_key Do members) (codes "join")
    × IsName (at_key Node members) node
    × IsName (at_key Contact members) contact
IsAction members (Down node peer) = IsText (at_key Do members) (codes "down")
    × IsName (at_key Node members) node
    × IsName (at_key Peer members) peer
IsAction members (Stop node) = IsText (at_key Do members) (codes "stop") × IsName (at_key Node members) node
IsAction members ArriveAll = IsText (at_key Do members) (codes "arrive_all")
IsAction members Settle = IsText (at_key Do members) (codes "settle")

-- what the tables of all events describe, in order
abbrev pub AreActions : List Members → List Action → Type 0
AreActions members actions = AllZip IsAction members actions

-- the limits of a document, all of them standard if it gives none
abbrev pub HasLimits : Option Data → Sizes → Type 0
HasLimits None sizes = AreLimits no_members sizes
HasLimits (Some found) sizes = (members : Members) × (found ≡ table members) × AreLimits members sizes

-- the events of a document, at most as many as a scenario may have
abbrev pub HasActions : ℕ → Option Data → List Action → Type 0
HasActions most found actions = (members : List Members) × IsTables most found members × AreActions members actions

-- The scenario that a document describes. Keys that are not named here are ignored.
pub record Describes (most : ℕ) (document : Members) (seed : Option ℕ) (sizes : Sizes) (actions : List Action) : Type 0 where
  pub seed_is : IsOptional (IsNumber greatest) (at_key Seed document) seed
  pub limits_are : HasLimits (at_key Limits document) sizes
  pub actions_are : HasActions most (at_key Event document) actions

-- The text is a scenario: a document, not too long, that describes one.
pub record IsScenario (longest most : ℕ) (text : List ℕ) (seed : Option ℕ) (sizes : Sizes) (actions : List Action) : Type 0 where
  pub short : length text ≤ longest
  pub utf8 : IsUtf8 text
  pub document : Members
  pub parsed : parse_document text ≡ Some document
  pub described : Describes most document seed sizes actions
