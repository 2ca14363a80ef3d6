-- Where others take connections, as far as a node was told.
use Rattle.std.specs.Prelude.{◌-◌, Bool, true, false, List, [], ◌∷◌, ◌++◌, Option, None, drop, length, option_map, if◌then◌else◌}
use Rattle.std.specs.Option.{option_map_or, option_or}
use Rattle.std.specs.Map.{lookup, remove_entry, set_value}
use Rattle.std.specs.declared.net.socket_addr.SocketAddr.{SocketAddr}
use Rattle.node_names.specs.NodeName.{Name}
use Rattle.node_names.specs.Same.{same_name}
use Rattle.cluster_node.specs.declared.address_book.TheConstants.{MAX_ADDRESSES}

-- an address that a node said itself, and whether it is not doubted
pub record Told : Type 0 where
  pub at : SocketAddr
  pub is_sure : Bool

-- what nodes said of themselves, and what others said of nodes that did not, or that are doubted: those that were told last
-- at the end
pub record Book : Type 0 where
  pub own : List (Name × Told)
  pub hearsay : List (Name × SocketAddr)

-- no addresses
abbrev pub no_addresses : Book
no_addresses = record { own = []; hearsay = [] }

-- what stands at the name
abbrev pub at_name : {T : Type 0} → List (Name × T) → Name → Option T
at_name entries name = lookup (same_name name) entries

-- the address that the node of this name said itself, or else what others say
abbrev pub address_in : Book → Name → Option SocketAddr
address_in book name = option_or (option_map (λ told. told.at) (at_name book.own name)) (at_name book.hearsay name)

-- whether the node of this name said itself where it takes connections, and is not doubted
abbrev pub is_sure_in : Book → Name → Bool
is_sure_in book name = option_map_or (λ told. told.is_sure) (at_name book.own name) false

-- the address of the name, if that is sure
abbrev pub sure_address_in : Book → Name → Option SocketAddr
sure_address_in book name = if is_sure_in book name then option_map (λ told. told.at) (at_name book.own name) else None

-- without what stands at the name
abbrev pub without : {T : Type 0} → Name → List (Name × T) → List (Name × T)
without name = remove_entry (same_name name)

-- the last of these, as many as are kept
abbrev pub kept : {T : Type 0} → List (Name × T) → List (Name × T)
kept entries = drop (length entries - MAX_ADDRESSES) entries

-- after this was told of the name
abbrev pub after : {T : Type 0} → Name → T → List (Name × T) → List (Name × T)
after name told entries = kept (without name entries ++ (name, told) ∷ [])

-- after the node of this name said so itself
abbrev pub confirmed : Name → SocketAddr → Book → Book
confirmed name at book =
    record { own = after name (record { at = at; is_sure = true }) book.own; hearsay = without name book.hearsay }

-- after another node said so: what is sure stays, and counts as told anew
abbrev pub heard : Name → SocketAddr → Book → Book
heard name at book =
    option_map_or
    (λ sure. record book { own = after name (record { at = sure; is_sure = true }) book.own })
    (sure_address_in book name)
    (record { own = without name book.own; hearsay = after name at book.hearsay })

-- where the name's own address is sure no more
abbrev pub doubted : Name → Book → Book
doubted name book = record book {
  own = option_map_or
      (λ told. set_value (same_name name) book.own (record told { is_sure = false }))
      (at_name book.own name)
      book.own;
}

-- without the name
abbrev pub forgotten : Name → Book → Book
forgotten name book = record { own = without name book.own; hearsay = without name book.hearsay }
