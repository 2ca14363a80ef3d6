-- What opening a link does.
use Rattle.std.specs.Prelude.{ℕ, ◌==◌, not, List, [], ◌∷◌, ◌++◌, filter, length, map, nat_le, if◌then◌else◌}
use Rattle.node_names.specs.NodeName.{Name}
use Rattle.node_names.specs.Same.{same_name}
use Rattle.node_threads.specs.Applying.{mail_for}
use Rattle.node_threads.specs.Cell.{Cell, Link, lost, steps_made}
use Rattle.node_threads.specs.LinkText.{spelling, text_since}

-- the links to other names
abbrev pub without : Name → List Link → List Link
without name links = filter (λ link. not (same_name name link.peer)) links

-- the other names
abbrev pub others : Name → List Name → List Name
others name names = filter (λ other. not (same_name name other)) names

-- what a link that is opened now begins with: what the opening sent to the name if the node has made no step, or
-- nothing
abbrev pub first_mail : {C : Type 0} → Cell C → Name → List (List ℕ)
first_mail cell name = if steps_made cell == 0 then mail_for cell.trace.opening.sends name else []

-- the links after one to this name was opened, with a ring for `ring` frames: it is open if what it begins with fits
-- the ring
abbrev pub linked_to : {C : Type 0} → Cell C → Name → ℕ → List Link
linked_to cell name ring =
    let mail = first_mail cell name in
    without name cell.links ++ (if nat_le (length mail) ring then record { peer = name; opened = steps_made cell; pushed = mail } ∷ [] else [])

-- what a link that is opened now begins with if its text begins when the node had made `since` steps: all that it has
-- sent to the name since, each frame as its bytes
abbrev pub mail_since : {C : Type 0} → Cell C → Name → ℕ → List (List ℕ)
mail_since cell name since = map spelling (text_since (lost cell.since) cell.trace name since)

-- the links after one to this name was opened, with a ring for `ring` frames, whose text begins when the node had
-- made `since` steps: it is open if what it begins with fits the ring
abbrev pub linked_since : {C : Type 0} → Cell C → Name → ℕ → ℕ → List Link
linked_since cell name ring since =
    let mail = mail_since cell name since in
    without name cell.links ++ (if nat_le (length mail) ring then record { peer = name; opened = since; pushed = mail } ∷ [] else [])
