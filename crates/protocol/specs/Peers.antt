-- Which peers and contact a node may start with.
use Rattle.std.specs.Prelude.{Bool, ◌&&◌, not, List, [], ◌∷◌, Option, Some, None, true, false, length, nat_le}
use Rattle.node_names.specs.NodeName.{Name}
use Rattle.node_names.specs.Limits.{Limits}
use Rattle.node_names.specs.Same.{has_name, same_name}

-- whether no name is in the list twice
abbrev pub are_distinct : List Name → Bool
are_distinct [] = true
are_distinct (name ∷ names) = not (has_name names name) && are_distinct names

-- whether the contact is this name
abbrev pub is_contact : Option Name → Name → Bool
is_contact None name = false
is_contact (Some contact) name = same_name contact name

-- whether a node of this name may start with these peers and this contact: the peers fit its active view, are distinct
-- and do not include its own name, and the contact is not its own name either
abbrev pub are_peers : Limits → Name → List Name → Option Name → Bool
are_peers limits owner peers contact =
    nat_le (length peers) limits.active && (are_distinct peers && (not (has_name peers owner) && not (is_contact contact owner)))
