-- What the structs and texts mean that cross to C.
use Rattle.std.specs.Prelude.{◌≡◌, ℕ, List, [], ◌∷◌, Option, Some, None, take}
use Rattle.node_names.specs.NodeName.{Name as NodeText}
use Rattle.node_names.specs.Limits.{Limits}
use Rattle.node_names.specs.declared.dice.Dice.{Dice}
use Rattle.node_names.specs.declared.ids.MsgId.{MsgId}
use Rattle.node_names.specs.declared.ids.Origin.{Origin}
use Rattle.node_core.specs.declared.news.News.{News}
use Rattle.node_core.specs.declared.news.News.TheVariants.{NeighborUp, NeighborDown, Isolated, Joined}
use Rattle.node_core.specs.declared.news.Parting.{Parting}
use Rattle.node_core.specs.declared.news.Parting.TheVariants.{Left, Failed, Displaced}
use Rattle.plumtree_c.specs.declared.plain.Id.{Id}
use Rattle.plumtree_c.specs.declared.plain.Name.{Name}
use Rattle.plumtree_c.specs.declared.plain.PlainNews.{PlainNews}
use Rattle.plumtree_c.specs.declared.plain.Sizes.{Sizes}

-- the bytes of a name
abbrev pub name_of : Name → NodeText
name_of name = take name.length name.text

-- the run of this name and incarnation
abbrev pub origin_of : NodeText → ℕ → Origin
origin_of name incarnation = record { name = name; incarnation = record { 0 = incarnation } }

-- the id
abbrev pub id_of : Id → MsgId
id_of id = record { origin = origin_of (name_of id.name) id.incarnation; seq = id.number }

-- the limits
abbrev pub limits_of : Sizes → Limits
limits_of sizes = record {
  active = sizes.active;
  passive = sizes.passive;
  arwl = sizes.arwl;
  prwl = sizes.prwl;
  ka = sizes.ka;
  kp = sizes.kp;
  threshold = sizes.threshold;
  keep = sizes.keep;
}

-- the dice of these words
abbrev pub dice_of : List ℕ → Dice
dice_of words = record { 0 = words }

-- the contact: none, where there are no bytes
abbrev pub contact_of : List ℕ → Option NodeText
contact_of [] = None
contact_of (byte ∷ bytes) = Some (byte ∷ bytes)

-- the number of what the news say
abbrev pub kind_of : News → ℕ
kind_of (NeighborUp name) = 1
kind_of (NeighborDown name why) = 2
kind_of Isolated = 3
kind_of Joined = 4

-- the number of why a name went
abbrev pub parting_number : Parting → ℕ
parting_number Left = 1
parting_number Failed = 2
parting_number Displaced = 3

-- the same of news: 0, where no name went
abbrev pub why_of : News → ℕ
why_of (NeighborUp name) = 0
why_of (NeighborDown name why) = parting_number why
why_of Isolated = 0
why_of Joined = 0

-- the name that the news are about: no bytes, where they are about none
abbrev pub who_of : News → NodeText
who_of (NeighborUp name) = name
who_of (NeighborDown name why) = name
who_of Isolated = []
who_of Joined = []

-- The struct says these news.
pub record Says (plain : PlainNews) (news : News) : Type 0 where
  pub kind : plain.kind ≡ kind_of news
  pub why : plain.why ≡ why_of news
  pub name : name_of plain.name ≡ who_of news
