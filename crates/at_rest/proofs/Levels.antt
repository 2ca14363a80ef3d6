-- Reach, level by level: what stands before each, and that each has names that were not reached.
use Rattle.std.proofs.Common.{◌≡◌, ◌∙◌, ◌<◌, ◌≤◌, ℕ, suc, List, [], ◌∷◌, ◌++◌, true, false, sym, ap, refl, subst, inl, inr, length, arith}
use Rattle.std.specs.List.{AllByRecursion as Each}
use Rattle.std.specs.List.Sorted.{IsStrictlySortedBy}
use Rattle.std.specs.List.{list_any}
use Rattle.std.specs.Ordering.{is_eq}
use Rattle.std.specs.Option.{option_map_or}
use Rattle.std.specs.Cmp.Lexicographic.{texts_ties}
use Rattle.std.specs.Prelude.{◌↔◌, ◌&&◌, ◌||◌, ◌==◌, Bool, Option, Some, None, cond, filter, fold, if◌then◌else◌, map, not}
use Rattle.std.specs.declared.cmp.Ordering.TheVariants.{Less}
use borrow.Author.Tests.{eqb-true}
use Rattle.std.proofs.lemmas.List.{append-nil, append_assoc, nil_from_length}
use Rattle.std.proofs.lemmas.Bool.{false≢true, cases_lt}
use Rattle.std.proofs.lemmas.List.Folds.{list_any-append}
use Rattle.indexmap.specs.IndexSet.{insert_all, insert_key}
use Rattle.std.proofs.lemmas.Map.Views.{any-filter_same}
use Rattle.node_names.specs.NodeName.{Name}
use Rattle.node_names.specs.Order.{name_cmp}
use Rattle.node_names.specs.Same.{has_name, same_name, same_name-Decides}
use Rattle.protocol.specs.CoreState.{CoreState}
use Rattle.protocol.specs.Lists.{IsOneOf}
use Rattle.world.specs.Group.{Group, core_of}
use Rattle.world.specs.Links.{IsRunning}
use Rattle.world.specs.declared.node_state.NodeState.{NodeState}
use Rattle.at_rest.specs.Linking.{all_new_links, has_link, is_new, new_links, runs}
use Rattle.at_rest.specs.Reach.{AreByDistance, AreInReach, IsDistance, IsNearer}
use Rattle.at_rest.proofs.Linkings.{has_one, one_has}
use Rattle.at_rest.proofs.Lists.{any_passes, each_of_one, each_one, fails, not_false, not_holds}
use Rattle.at_rest.proofs.Nodes.{found_one}
use Rattle.at_rest.proofs.Fronts.{goes_on, has_either, has_left, has_right, is_running, running_is}
use Rattle.at_rest.proofs.Paths.{IsFront, all_reached, end_runs}

-- ---- lists of names

-- a list whose length is not 0 has one
pub has_some : {X : Type 0} (xs : List X) (n : ℕ) → n ≡ length xs → false ≡ (n == 0) → xs ≡ [] → ⊥
has_some xs n long test e = false≢true (test ∙ ap (λ m. m == 0) (long ∙ ap length e))

-- and one whose length is 0 has none
pub has_none : {X : Type 0} (xs : List X) (n : ℕ) → n ≡ length xs → true ≡ (n == 0) → xs ≡ []
has_none xs n long test = nil_from_length xs (sym long ∙ eqb-true n 0 (sym test))

-- what holds of each of two lists holds of each of both together
both_each : {X : Type 0} (P : X → Type 0) (xs ys : List X) → Each P xs → Each P ys → Each P (xs ++ ys)
both_each P [] ys one other = other
both_each P (x ∷ xs) ys one other = (one.0, both_each P xs ys one.1 other)

-- a stricter test lets fewer pass, if one that passed fails it
module _ {X : Type 0} (p q : X → Bool) (within : (x : X) → q x ≡ true → p x ≡ true) where
  no_more : (xs : List X) → length (filter q xs) ≤ length (filter p xs)
  no_more [] = omega arith
  no_more (x ∷ xs) = go (p x) (q x) (within x) (no_more xs)
    where
      go : (a b : Bool) →
          (b ≡ true → a ≡ true) →
          length (filter q xs) ≤ length (filter p xs) →
          length (cond b (x ∷ filter q xs) (filter q xs)) ≤ length (cond a (x ∷ filter p xs) (filter p xs))
      go true true h rest = omega arith
      go true false h rest = omega arith
      go false true h rest = absurd (false≢true (h refl))
      go false false h rest = rest

  fewer : (xs : List X) (y : X) → IsOneOf y xs → p y ≡ true → q y ≡ false → length (filter q xs) < length (filter p xs)
  fewer [] y one passed failed = absurd one
  fewer (x ∷ xs) y one passed failed = go (p x) (q x) refl refl (no_more xs) (λ later. fewer xs y later passed failed)
    where
      go : (a b : Bool) →
          p x ≡ a →
          q x ≡ b →
          length (filter q xs) ≤ length (filter p xs) →
          (IsOneOf y xs → length (filter q xs) < length (filter p xs)) →
          length (cond b (x ∷ filter q xs) (filter q xs)) < length (cond a (x ∷ filter p xs) (filter p xs))
      go true false e f rest later = omega arith
      go true true e f rest later = elim one [
        | inl here ↦ absurd (false≢true (sym failed ∙ ap q here ∙ f))
        | inr there ↦ (let less = later there in omega arith)
      ]
      go false true e f rest later = absurd (false≢true (sym e ∙ within x f))
      go false false e f rest later = elim one [
        | inl here ↦ absurd (false≢true (sym e ∙ sym (ap p here) ∙ passed))
        | inr there ↦ later there
      ]

-- how many of the names are not reached
abbrev pub unreached : List Name → List Name → ℕ
unreached names reached = length (filter (λ name. not (has_name reached name)) names)

-- with one more of them reached it is fewer
pub fewer_unreached : (names reached level : List Name) (name : Name) →
    has_name names name ≡ true →
    (has_name reached name ≡ true → ⊥) →
    has_name level name ≡ true →
    unreached names (reached ++ level) < unreached names reached
fewer_unreached names reached level name one new is =
    fewer (λ n. not (has_name reached n)) (λ n. not (has_name (reached ++ level) n))
    (λ n h. not_false (has_name reached n) (fails (has_name reached n) (λ was. not_holds (has_name (reached ++ level) n) h (has_left reached level n was))))
    names name (has_one names name one)
    (not_false (has_name reached name) (fails (has_name reached name) new))
    (ap not (has_right reached level name is))

-- a name of a running node is among all names
pub all_names : {C N : Type 0} (state : C → CoreState) (group : Group C N) (name : Name) →
    runs state group.nodes name ≡ true →
    has_name (map (λ (node : NodeState C). node.name) group.nodes) name ≡ true
all_names {C} state group name h =
    let running = running_is state group name h in
    let found = found_one name group.nodes running.1.0 running.1.1 in
    go group.nodes running.1.0 found.1 found.0
  where
    go : (nodes : List (NodeState C)) (node : NodeState C) →
        name ≡ node.name →
        IsOneOf node nodes →
        has_name (map (λ (n : NodeState C). n.name) nodes) name ≡ true
    go nodes node same one =
        any_passes (same_name name) (map (λ (n : NodeState C). n.name) nodes) node.name (mapped nodes node one) ((same_name-Decides name node.name).1 same)
      where
        mapped : (others : List (NodeState C)) (n : NodeState C) → IsOneOf n others → IsOneOf n.name (map (λ (x : NodeState C). x.name) others)
        mapped [] n here = absurd here
        mapped (other ∷ others) n here = elim here [ inl this ↦ inl (ap (λ (x : NodeState C). x.name) this) | inr later ↦ inr (mapped others n later) ]

-- ---- links

-- names that are sorted and not among the keys go last, in their order
pub inserts_all : (keys names : List Name) →
    IsStrictlySortedBy name_cmp names →
    ((name : Name) → has_name names name ≡ true → has_name keys name ≡ true → ⊥) →
    insert_all same_name keys names ≡ keys ++ names
unfolding IsStrictlySortedBy
inserts_all keys [] sorted new = sym (append-nil keys)
inserts_all keys (name ∷ names) sorted new =
    ap (λ ks. insert_all same_name ks names) first ∙ inserts_all (keys ++ name ∷ []) names sorted.1 new_then ∙ append_assoc keys (name ∷ []) names
  where
    absent : has_name keys name ≡ false
    absent = fails (has_name keys name) (new name (one_has (name ∷ names) name (inl refl)))

    first : insert_key same_name keys name ≡ keys ++ name ∷ []
    first = ap (λ b. if b then keys else keys ++ name ∷ []) absent

    after : (other : Name) → has_name names other ≡ true → other ≡ name → ⊥
    after other one same =
        let less : name_cmp name name ≡ Less =
        subst (λ n. name_cmp name n ≡ Less) same (each_one (λ n. name_cmp name n ≡ Less) names other sorted.0 (has_one names other one)) in
        false≢true (sym (ap is_eq less) ∙ sym (texts_ties name name) ∙ (same_name-Decides name name).1 refl)

    new_then : (other : Name) → has_name names other ≡ true → has_name (keys ++ name ∷ []) other ≡ true → ⊥
    new_then other one among = elim (has_either keys (name ∷ []) other among) [
      | inl before ↦ new other (one_has (name ∷ names) other (inr (has_one names other one))) before
      | inr last ↦ elim (has_one (name ∷ []) other last) [ inl same ↦ after other one same | inr none ↦ absurd none ]
    ]

module _ {C : Type 0} (state : C → CoreState) (nodes : List (NodeState C)) (both : List Name) (end : Name) where
  -- the new links of a name have those to which it is linked, if they are new
  new_links_have : (name : Name) → has_name (new_links state nodes both name) end ≡ (is_new state nodes both end && has_link state nodes name end)
  unfolding has_link
  new_links_have name = go (core_of name nodes)
    where
      none : (b : Bool) → false ≡ (b && false)
      none true = refl
      none false = refl

      go : (o : Option C) →
          has_name (option_map_or (λ (core : C). filter (is_new state nodes both) (state core).active) o []) end
          ≡ (is_new state nodes both end && option_map_or (λ (core : C). has_name (state core).active end) o false)
      go None = none (is_new state nodes both end)
      go (Some core) =
          any-filter_same (same_name end) (is_new state nodes both) (is_new state nodes both end)
          (λ k same. ap (is_new state nodes both) (sym ((same_name-Decides end k).0 same))) (state core).active

  -- one level more
  joined : (a n l r : Bool) → ((a || (n && l)) || (n && r)) ≡ (a || (n && (l || r)))
  joined true n l r = refl
  joined false true l r = refl
  joined false false l r = refl

  alone : (a n : Bool) → a ≡ (a || (n && false))
  alone true n = refl
  alone false true = refl
  alone false false = refl

  links_from : (links names : List Name) →
      has_name (fold (λ ls name. ls ++ new_links state nodes both name) links names) end
      ≡ (has_name links end || (is_new state nodes both end && list_any (λ member. has_link state nodes member end) names))
  links_from links [] = alone (has_name links end) (is_new state nodes both end)
  links_from links (name ∷ names) =
      links_from (links ++ new_links state nodes both name) names
      ∙ ap (λ b. b || (is_new state nodes both end && list_any (λ member. has_link state nodes member end) names))
      (list_any-append (same_name end) links (new_links state nodes both name) ∙ ap (λ b. has_name links end || b) (new_links_have name))
      ∙ joined (has_name links end) (is_new state nodes both end) (has_link state nodes name end) (list_any (λ member. has_link state nodes member end) names)

  -- and those of a level have the new names to which one of it is linked
  pub all_new_has : (level : List Name) →
      has_name (all_new_links state nodes both level) end ≡ (is_new state nodes both end && list_any (λ member. has_link state nodes member end) level)
  all_new_has level = links_from [] level

module _ {C N : Type 0} (state : C → CoreState) (group : Group C N) (from : Name) where
  -- ---- order

  -- a distance is one number
  same_distance : (m n : ℕ) (end : Name) → IsDistance state group from m end → IsDistance state group from n end → m ≡ n
  same_distance m n end one other =
      elim (cases_lt m n) [
        | inl less ↦ absurd (other.shortest m less one.path)
        | inr more ↦ elim (cases_lt n m) [ inl less ↦ absurd (one.shortest n less other.path) | inr within ↦ omega arith ]
      ]

  -- lists in order are in order together where all of the one are nearer than all of the other
  together : (xs ys : List Name) →
      AreByDistance state group from xs →
      AreByDistance state group from ys →
      Each (λ x. Each (λ y. IsNearer state group from x y) ys) xs →
      AreByDistance state group from (xs ++ ys)
  together [] ys one other across = other
  together (x ∷ xs) ys one other across = (both_each (λ y. IsNearer state group from x y) xs ys one.0 across.0, together xs ys one.1 other across.1)

  -- names at one distance are in order if they are by name
  by_name : (k : ℕ) (names : List Name) →
      IsStrictlySortedBy name_cmp names →
      Each (λ name. IsDistance state group from k name) names →
      AreByDistance state group from names
  unfolding IsStrictlySortedBy
  by_name k [] sorted at = tt
  by_name k (name ∷ names) sorted at = (
    each_of_one (λ other. IsNearer state group from name other) names (λ other one m n here there. inr (
      same_distance m k name here at.0 ∙ sym (same_distance n k other there (each_one (λ x. IsDistance state group from k x) names other at.1 one)),
      each_one (λ x. name_cmp name x ≡ Less) names other sorted.0 one,
    )),
    by_name k names sorted.1 at.1,
  )

  -- ---- what stands before each level

  -- So far this is reached, in order, and the level comes next, by name.
  pub record Stands (reached level : List Name) : Type 0 where
    pub links : ℕ
    pub front : IsFront state group from links reached level
    pub ordered : AreByDistance state group from reached
    pub sorted : IsStrictlySortedBy name_cmp level

  one_sorted : (b : Bool) (names : List Name) → names ≡ (if b then from ∷ [] else []) → IsStrictlySortedBy name_cmp names
  unfolding IsStrictlySortedBy
  one_sorted true names e = subst (IsStrictlySortedBy name_cmp) (sym e) (tt, tt)
  one_sorted false names e = subst (IsStrictlySortedBy name_cmp) (sym e) tt

  -- at first nothing is reached, and the name itself comes next
  pub at_first : (first : List Name) → first ≡ (if runs state group.nodes from then from ∷ [] else []) → Stands [] first
  at_first first is = record {
    links = 0;
    front = record {
      near = λ end. ((λ h. absurd (false≢true h)), (λ nearer. absurd (let less : nearer.0 < 0 = nearer.1 in omega arith)));
      at = λ end. go (runs state group.nodes from) refl first is end;
    };
    ordered = tt;
    sorted = one_sorted (runs state group.nodes from) first is;
  }
    where
      go : (b : Bool) →
          runs state group.nodes from ≡ b →
          (names : List Name) →
          names ≡ (if b then from ∷ [] else []) →
          (end : Name) →
          (has_name names end ≡ true) ↔ IsDistance state group from 0 end
      go true run names e end = (
        (λ h. elim (has_one (from ∷ []) end (subst (λ ns. has_name ns end ≡ true) e h)) [
          | inl here ↦ record { path = (sym here, running_is state group from run); shortest = λ m less path. omega arith }
          | inr none ↦ absurd none
        ]),
        (λ distance. subst (λ ns. has_name ns end ≡ true) (sym e) (one_has (from ∷ []) end (inl (sym distance.path.0)))),
      )
      go false run names e end = (
        (λ h. absurd (false≢true (subst (λ ns. has_name ns end ≡ true) e h))),
        (λ distance. absurd (false≢true (sym run ∙ is_running state group from distance.path.1))),
      )

  module _ (reached level : List Name) (stands : Stands reached level) where
    -- each of the level is as far as the level
    level_is : (name : Name) → has_name level name ≡ true → IsDistance state group from stands.links name
    level_is name = (stands.front.at name).0

    -- and was not reached
    level_new : (name : Name) → has_name level name ≡ true → has_name reached name ≡ true → ⊥
    level_new name in_level in_reached =
        let before = (stands.front.near name).0 in_reached in
        (level_is name in_level).shortest before.0 before.1 before.2

    -- with the level the reached names stay in order
    pub ordered_then : AreByDistance state group from (reached ++ level)
    ordered_then = together reached level stands.ordered
        (by_name stands.links level stands.sorted
        (each_of_one (λ name. IsDistance state group from stands.links name) level (λ name one. level_is name (one_has level name one))))
        (each_of_one (λ x. Each (λ y. IsNearer state group from x y) level) reached (λ x in_reached.
        each_of_one (λ y. IsNearer state group from x y) level (λ y in_level m n here there.
        let before = (stands.front.near x).0 (one_has reached x in_reached) in
        let less : before.0 < stands.links = before.1 in
        let same : n ≡ stands.links = same_distance n stands.links y there (level_is y (one_has level y in_level)) in
        elim (cases_lt before.0 m) [
          | inl nearer ↦ absurd (here.shortest before.0 nearer before.2)
          | inr within ↦ inl (omega arith)
        ])))

    -- none of the level was reached, so that each goes last
    both_keys : insert_all same_name reached level ≡ reached ++ level
    both_keys = inserts_all reached level stands.sorted level_new

    module _ (keys : List Name) (added : keys ≡ insert_all same_name reached level) where
      together_keys : keys ≡ reached ++ level
      together_keys = added ∙ both_keys

      -- so the next level stands
      pub stands_then : (next : List Name) →
          IsStrictlySortedBy name_cmp next →
          ((end : Name) → has_name next end ≡ has_name (all_new_links state group.nodes keys level) end) →
          Stands keys next
      stands_then next sorted is = subst (λ ks. Stands ks next) (sym together_keys) (record {
        links = suc stands.links;
        front =
            goes_on state group from stands.links reached level next stands.front (λ end. is end
            ∙ ap (λ ks. has_name (all_new_links state group.nodes ks level) end) together_keys
            ∙ all_new_has state group.nodes (reached ++ level) end level);
        ordered = ordered_then;
        sorted = sorted;
      })

      -- and a level with names leaves fewer that are not reached
      pub fewer_then : (level ≡ [] → ⊥) →
          unreached (map (λ (node : NodeState C). node.name) group.nodes) keys < unreached (map (λ (node : NodeState C). node.name) group.nodes) reached
      fewer_then some = subst (λ ks. unreached names ks < unreached names reached) (sym together_keys) (go level refl)
        where
          names : List Name
          names = map (λ (node : NodeState C). node.name) group.nodes

          go : (l : List Name) → level ≡ l → unreached names (reached ++ level) < unreached names reached
          go [] e = absurd (some e)
          go (x ∷ xs) e =
              let here : has_name level x ≡ true = subst (λ ns. has_name ns x ≡ true) (sym e) (one_has (x ∷ xs) x (inl refl)) in
              let run : IsRunning group x = end_runs state group stands.links from x (level_is x here).path in
              fewer_unreached names reached level x (all_names state group x (is_running state group x run)) (level_new x here) here

    -- where the level has none, all in reach are reached
    pub in_reach : level ≡ [] → AreInReach state group from reached
    in_reach none = record {
      exact = λ end. (
        (λ h. let before = (stands.front.near end).0 h in (before.0, before.2)),
        (λ reaches. all_reached state group from stands.links reached level stands.front
            (λ name h. false≢true (subst (λ ns. has_name ns name ≡ true) none h)) reaches.0 end reaches.1),
      );
      ordered = stands.ordered;
    }
