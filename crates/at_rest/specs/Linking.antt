-- Tests of whether names are linked.
use Rattle.std.specs.Prelude.{Bool, true, false, not, ◌&&◌, List, [], ◌++◌, filter, fold, is_some}
use Rattle.std.specs.List.{list_all}
use Rattle.std.specs.Option.{option_map_or}
use Rattle.node_names.specs.NodeName.{Name}
use Rattle.node_names.specs.Same.{has_name}
use Rattle.protocol.specs.CoreState.{CoreState}
use Rattle.world.specs.Group.{core_of}
use Rattle.world.specs.declared.node_state.NodeState.{NodeState}

module _ {C : Type 0} (state : C → CoreState) (nodes : List (NodeState C)) where
  -- whether the name runs and has the peer as an active member
  unfoldable pub has_link : Name → Name → Bool
  has_link name peer = option_map_or (λ (core : C). has_name (state core).active peer) (core_of name nodes) false

  -- whether the name runs
  abbrev pub runs : Name → Bool
  runs name = is_some (core_of name nodes)

  -- whether the name runs and is not among these
  abbrev pub is_new : List Name → Name → Bool
  is_new reached name = runs name && not (has_name reached name)

  -- those of the active members of the core under the name, if one runs, that run and are not among these
  abbrev pub new_links : List Name → Name → List Name
  new_links reached name = option_map_or (λ (core : C). filter (is_new reached) (state core).active) (core_of name nodes) []

  -- the same of each of the names, one after the other
  abbrev pub all_new_links : List Name → List Name → List Name
  all_new_links reached names = fold (λ links name. links ++ new_links reached name) [] names

  -- whether each active member of the core under the name, if one runs, has the name as an active member
  abbrev pub links_back : Name → Bool
  links_back name = option_map_or (λ (core : C). list_all (λ peer. has_link peer name) (state core).active) (core_of name nodes) true

  -- whether that holds of all nodes
  abbrev pub all_link_back : Bool
  all_link_back = list_all (λ (node : NodeState C). links_back node.name) nodes
