-- How the frames of a step come to the links that they go to.
use Rattle.std.specs.Prelude.{◌≡◌, ◌<◌, ℕ, Bool, true, false, List, [], ◌∷◌, ◌++◌, Some, not, filter, fold, length, map, slice_get, if◌then◌else◌}
use Rattle.node_names.specs.NodeName.{Name}
use Rattle.node_names.specs.Same.{has_name, same_name}
use Rattle.frames.specs.Frame.{Frame}
use Rattle.node_threads.specs.Applying.{mail_for, with_name}
use Rattle.node_threads.specs.Cell.{Link}

-- A frame for an open link: the name that the link goes to, the link's place, and the frame as its bytes.
abbrev pub Letter : Type 0
Letter = Name × ℕ × List ℕ

-- The letter's name stands at the letter's place among these names.
abbrev pub IsAddressed : List Name → Letter → Type 0
IsAddressed names letter = slice_get names letter.1 ≡ Some letter.0

-- what these letters have for the link to this name, in order
abbrev pub mail_in : List Letter → Name → List (List ℕ)
mail_in letters peer = map (λ (letter : Letter). letter.2) (filter (λ (letter : Letter). same_name letter.0 peer) letters)

-- For each of these names, the letters have the same frames as the sends.
abbrev pub HaveMail : List Name → List (Name × Frame) → List Letter → Type 0
HaveMail names sends letters = (peer : Name) → has_name names peer ≡ true → mail_in letters peer ≡ mail_for sends peer

-- the names, with the receiver of this packet last unless it has an open link or is there already
abbrev pub with_lacking : List Name → List Name → (Name × Frame) → List Name
with_lacking names lacking send = if has_name names send.0 then lacking else with_name lacking send.0

-- the receivers of these packets that have no link to one of these names, each once
abbrev pub lacking : List Name → List (Name × Frame) → List Name
lacking names sends = fold (with_lacking names) [] sends

-- The ring of a link took the first frames of its mail, and had no room for the next one.
pub record TookPart (mail : List (List ℕ)) (old new : Link) : Type 0 where
  pub taken : List (List ℕ)
  pub left : List (List ℕ)
  pub parts : mail ≡ taken ++ left
  pub some_left : 0 < length left
  pub took : new ≡ record old { pushed = old.pushed ++ taken }

-- A link took its mail; or it took the beginning of it and is blocked.
abbrev pub Took : List (List ℕ) → Bool → Link → Link → Type 0
Took mail false old new = new ≡ record old { pushed = old.pushed ++ mail }
Took mail true old new = TookPart mail old new

-- Each link took what the letters have for it, except that a blocked one took only the beginning.
abbrev pub Posted : List Name → List Letter → List Link → List Link → Type 0
Posted blocked letters [] [] = Unit {0}
Posted blocked letters [] (new ∷ news) = ⊥
Posted blocked letters (old ∷ olds) [] = ⊥
Posted blocked letters (old ∷ olds) (new ∷ news) = Took (mail_in letters old.peer) (has_name blocked old.peer) old new × Posted blocked letters olds news

-- the links that stay open if those to these names are blocked
abbrev pub left_open : List Name → List Link → List Link
left_open blocked links = filter (λ (link : Link). not (has_name blocked link.peer)) links

-- the names of the links that stay open
abbrev pub still_named : List Name → List Name → List Name
still_named blocked names = filter (λ name. not (has_name blocked name)) names
