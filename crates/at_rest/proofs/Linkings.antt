-- The test of links tells what the definition of symmetry says.
use Rattle.std.proofs.Common.{◌≡◌, ◌∙◌, List, true, false, sym, ap, refl, subst}
use Rattle.std.specs.List.{list_all}
use Rattle.std.specs.Option.{option_map_or}
use Rattle.std.specs.Prelude.{◌↔◌, Option, Some, None}
use Rattle.std.proofs.lemmas.Bool.{false≢true}
use Rattle.node_names.specs.NodeName.{Name}
use Rattle.node_names.specs.Same.{has_name, same_name, same_name-Decides}
use Rattle.protocol.specs.CoreState.{CoreState}
use Rattle.protocol.specs.Lists.{IsOneOf}
use Rattle.world.specs.Group.{Group, core_of}
use Rattle.world.specs.Links.{IsSymmetric, Linked, Runs}
use Rattle.world.specs.declared.node_state.NodeState.{NodeState}
use Rattle.at_rest.specs.Linking.{all_link_back, has_link, links_back}
use Rattle.at_rest.proofs.Lists.{all_pass, any_passes, each_of_one, each_one, each_passes, one_passes}
use Rattle.at_rest.proofs.Nodes.{core_runs, found_one, runs_core}

-- a name that a list has is one of it
pub has_one : (names : List Name) (name : Name) → has_name names name ≡ true → IsOneOf name names
has_one names name h =
    let found = one_passes (same_name name) names h in
    subst (λ n. IsOneOf n names) (sym ((same_name-Decides name found.0).0 found.2)) found.1

-- and one of the list is a name that it has
pub one_has : (names : List Name) (name : Name) → IsOneOf name names → has_name names name ≡ true
one_has names name one = any_passes (same_name name) names name one ((same_name-Decides name name).1 refl)

module _ {C N : Type 0} (state : C → CoreState) (group : Group C N) where
  -- The core runs under the name, and has the peer as an active member.
  abbrev pub Links : Name → Name → Type 0
  Links name peer = (core : C) × Runs group name core × (has_name (state core).active peer ≡ true)

  -- the test of a link tells whether there is one
  pub link_is : (name peer : Name) → has_link state group.nodes name peer ≡ true → Links name peer
  unfolding has_link
  link_is name peer h = go (core_of name group.nodes) refl h
    where
      go : (o : Option C) → core_of name group.nodes ≡ o → option_map_or (λ (core : C). has_name (state core).active peer) o false ≡ true → Links name peer
      go None e none = absurd (false≢true none)
      go (Some core) e member = (core, core_runs group name core e, member)

  pub is_link : (name peer : Name) → Links name peer → has_link state group.nodes name peer ≡ true
  unfolding has_link
  is_link name peer link = ap (λ o. option_map_or (λ (core : C). has_name (state core).active peer) o false) (runs_core group name link.0 link.1) ∙ link.2

  -- Each active member of the core that runs under the name runs, and has the name as an active member.
  abbrev LinksBack : Name → Type 0
  LinksBack name = (core : C) → Runs group name core → (peer : Name) → has_name (state core).active peer ≡ true → Links peer name

  -- the test of a name tells that
  back_is : (name : Name) → links_back state group.nodes name ≡ true → LinksBack name
  back_is name h core runs peer member =
      let all : list_all (λ p. has_link state group.nodes p name) (state core).active ≡ true =
      subst (λ o. option_map_or (λ (c : C). list_all (λ p. has_link state group.nodes p name) (state c).active) o true ≡ true)
      (runs_core group name core runs) h in
      link_is peer name (each_one (λ p. has_link state group.nodes p name ≡ true) (state core).active peer
      (each_passes (λ p. has_link state group.nodes p name) (state core).active all) (has_one (state core).active peer member))

  is_back : (name : Name) → LinksBack name → links_back state group.nodes name ≡ true
  is_back name h = go (core_of name group.nodes) refl
    where
      go : (o : Option C) →
          core_of name group.nodes ≡ o →
          option_map_or (λ (c : C). list_all (λ p. has_link state group.nodes p name) (state c).active) o true ≡ true
      go None e = refl
      go (Some core) e =
          all_pass (λ p. has_link state group.nodes p name) (state core).active (each_of_one (λ p. has_link state group.nodes p name ≡ true)
          (state core).active (λ peer one. is_link peer name (h core (core_runs group name core e) peer (one_has (state core).active peer one))))

  -- where all link back, each name does
  all_back : all_link_back state group.nodes ≡ true → (name : Name) → LinksBack name
  all_back h name core runs =
      let found = found_one name group.nodes runs.0 runs.1 in
      let test : links_back state group.nodes runs.0.name ≡ true =
      each_one (λ (node : NodeState C). links_back state group.nodes node.name ≡ true) group.nodes runs.0
      (each_passes (λ (node : NodeState C). links_back state group.nodes node.name) group.nodes h) found.0 in
      back_is name (subst (λ n. links_back state group.nodes n ≡ true) (sym found.1) test) core runs

  -- so links go both ways
  goes_back : all_link_back state group.nodes ≡ true → (name peer : Name) → Linked state group name peer → Linked state group peer name
  goes_back h name peer link =
      let back = all_back h name link.0 link.1 peer link.2 in
      (back.0, back.1, back.2, (link.0, link.1))

  -- the test of all tells whether the group is symmetric
  pub symmetric_is : (all_link_back state group.nodes ≡ true) ↔ IsSymmetric state group
  symmetric_is = (
    (λ h. record {
      both_ways = λ name peer. (goes_back h name peer, goes_back h peer name);
      members_run = λ name peer core runs member. let back = all_back h name core runs peer member in (back.0, back.1);
    }),
    (λ symmetric. all_pass (λ (node : NodeState C). links_back state group.nodes node.name) group.nodes (each_of_one
        (λ (node : NodeState C). links_back state group.nodes node.name ≡ true) group.nodes (λ node one. is_back node.name (λ core runs peer member.
        let link = (symmetric.both_ways node.name peer).0 (core, runs, member, symmetric.members_run node.name peer core runs member) in
        (link.0, link.1, link.2))))),
  )
