-- What waits for each name, and what the frames of a step add to it.
use Rattle.std.specs.Prelude.{◌≡◌, ℕ, List, [], ◌∷◌, ◌++◌, length, map, nat_lt, take, if◌then◌else◌}
use Rattle.std.specs.List.{IsDistinct, flat_map}
use Rattle.std.specs.Int.{w32, to_be_bytes}
use Rattle.node_names.specs.NodeName.{Name}
use Rattle.node_names.specs.Same.{same_name}
use Rattle.frames.specs.Frame.{Frame}
use Rattle.frames.specs.Grammar.{layout, spelled}

-- What waits for one name: the bytes of the steps that were made, and those of one that may still be refused.
pub record Waiting : Type 0 where
  pub name : Name
  pub settled : List ℕ
  pub drafted : List ℕ

-- the names for whom something is kept
abbrev pub names_of : List Waiting → List Name
names_of waiting = map (λ (w : Waiting). w.name) waiting

-- No name is there twice.
abbrev pub AreApart : List Waiting → Type 0
AreApart waiting = IsDistinct same_name (names_of waiting)

-- the bytes of a frame
unfoldable pub spelling : Frame → List ℕ
spelling frame = to_be_bytes w32 (length (spelled (layout frame))) ++ spelled (layout frame)

-- the bytes of the packet, if it goes to the name
abbrev pub mail_of : Name × Frame → Name → List ℕ
mail_of send name = if same_name name send.0 then spelling send.1 else []

-- the bytes of those of the packets that go to the name, one after the other
abbrev pub mail_for : List (Name × Frame) → Name → List ℕ
mail_for [] name = []
mail_for (send ∷ sends) name = mail_of send name ++ mail_for sends name

-- what waits for the name
abbrev pub settled_for : List Waiting → Name → List ℕ
settled_for [] name = []
settled_for (waiting ∷ others) name = if same_name name waiting.name then waiting.settled else settled_for others name

-- the name, if bytes wait for it
abbrev pub receiver_of : Waiting → List Name
receiver_of waiting = if nat_lt 0 (length waiting.settled) then waiting.name ∷ [] else []

-- the names for whom bytes wait
abbrev pub receivers_of : List Waiting → List Name
receivers_of waiting = flat_map receiver_of waiting

-- what is drafted for the name
abbrev pub drafted_for : List Waiting → Name → List ℕ
drafted_for [] name = []
drafted_for (waiting ∷ others) name = if same_name name waiting.name then waiting.drafted else drafted_for others name

-- the bytes, behind what is drafted
abbrev pub with_draft : Waiting → List ℕ → Waiting
with_draft waiting bytes = record { name = waiting.name; settled = waiting.settled; drafted = waiting.drafted ++ bytes }

-- the bytes, drafted for the name
abbrev pub drafted : List Waiting → Name → List ℕ → List Waiting
drafted [] name bytes = record { name = name; settled = []; drafted = bytes } ∷ []
drafted (waiting ∷ others) name bytes = if same_name name waiting.name then with_draft waiting bytes ∷ others else waiting ∷ drafted others name bytes

-- the packets, each drafted for its receiver, in order
abbrev pub all_drafted : List Waiting → List (Name × Frame) → List Waiting
all_drafted waiting [] = waiting
all_drafted waiting (send ∷ sends) = all_drafted (drafted waiting send.0 (spelling send.1)) sends

-- what is drafted waits now
abbrev pub settled : Waiting → Waiting
settled waiting = record { name = waiting.name; settled = waiting.settled ++ waiting.drafted; drafted = [] }

-- nothing is drafted
abbrev pub undrafted : Waiting → Waiting
undrafted waiting = record { name = waiting.name; settled = waiting.settled; drafted = [] }

-- Without its drafts, and without what was added to it, the new list is the old one without its drafts.
abbrev pub KeepsSettled : List Waiting → List Waiting → Type 0
KeepsSettled old new = map undrafted (take (length old) new) ≡ map undrafted old
