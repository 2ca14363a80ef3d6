-- One more name is in a room.
use Rattle.std.proofs.Common.{◌≡◌, ◌<◌, ◌+◌, ℕ, List, [], ◌∷◌, ◌++◌, length, map, set, take, ap, sym, ◌∙◌}
use Rattle.std.specs.Prelude.{get_or}
use Rattle.std.proofs.lemmas.List.{map-append, take_more, take_more_set}
use Rattle.node_names.specs.NodeName.{Name as NodeText}
use Rattle.plumtree_c.specs.Plain.{name_of}
use Rattle.plumtree_c.specs.declared.plain.Name.{Name}

pub names_more : (room : List Name) (names : List NodeText) (i : ℕ) (place : Name) (name : NodeText)
    → i < length room → i < length names → name_of place ≡ name → get_or names i name ≡ name
    → map name_of (take i room) ≡ take i names → map name_of (take (i + 1) (set room i place)) ≡ take (i + 1) names
names_more room names i place name in_room in_names put at before =
    ap (map name_of) (take_more_set room i place in_room)
    ∙ map-append name_of (take i room) (place ∷ [])
    ∙ ap (λ (some : List NodeText). some ++ name_of place ∷ []) before
    ∙ ap (λ (n : NodeText). take i names ++ n ∷ []) (put ∙ sym at)
    ∙ sym (take_more names i name in_names)
