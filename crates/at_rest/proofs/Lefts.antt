-- The places of the nodes at which something is left: all of them, the first of them, and what one event makes of them.
use Rattle.std.proofs.Common.{◌≡◌, ◌∙◌, ◌+◌, ◌<◌, ◌≤◌, ℕ, zero, suc, List, [], ◌∷◌, ◌++◌, length, true, false, sym, ap, refl, subst, arith}
use Rattle.std.specs.BTreeSet.{BTreeSet, IsLowerBound, Updates, contains}
use Rattle.std.specs.List.{AllByRecursion as Each, IsDistinct, list_any, position, position_or_len}
use Rattle.std.specs.Ordering.{nat_cmp, is_eq, is_gt}
use Rattle.std.specs.Prelude.{◌&&◌, ◌==◌, Bool, Option, Some, None, cond, nat_lt, not, slice_get}
use Rattle.std.specs.declared.cmp.Ordering.TheVariants.{Less, Equal, Greater}
use Rattle.std.proofs.lemmas.Bool.{false≢true}
use Rattle.std.proofs.lemmas.Bool.Decides.{Decides-ltb, nat_tests}
use Rattle.std.proofs.lemmas.Option.{slice_get_past}
use Rattle.node_names.specs.NodeName.{Name}
use Rattle.node_names.specs.Same.{same_name, same_name-Decides}
use Rattle.protocol.specs.CoreState.{CoreState}
use Rattle.world.specs.Group.{core_in, core_of, node_of, put_node}
use Rattle.world.specs.Plan.{names_of}
use Rattle.world.specs.declared.node_state.NodeState.{NodeState}
use Rattle.world.proofs.FindLemmas.{found_name, put_other}
use Rattle.world.proofs.NodeLemmas.{position_is}
use Rattle.at_rest.specs.Left.{AreLeft, is_left_at, is_left_in}
use Rattle.at_rest.specs.Settling.{IsFirstWith, NothingIsLeft, queue_of, timers_of}
use Rattle.at_rest.specs.declared.left.Kind.{Kind}
use Rattle.at_rest.specs.declared.left.Kind.TheVariants.{Announcements, Timers}

-- the tests of two numbers
not_less : (x y : ℕ) → (x < y → ⊥) → nat_lt x y ≡ false
not_less x y h = go (nat_lt x y) refl
  where
    go : (b : Bool) → nat_lt x y ≡ b → nat_lt x y ≡ false
    go true is = absurd (h ((Decides-ltb x y).0 is))
    go false is = is

same_number : (x y : ℕ) → is_eq (nat_cmp x y) ≡ true → x ≡ y
same_number x y h = go (nat_lt x y) refl (x == y) refl h
  where
    go : (a : Bool) → nat_lt x y ≡ a → (b : Bool) → (x == y) ≡ b → is_eq (cond a Less (cond b Equal Greater)) ≡ true → x ≡ y
    go true l b e h = absurd (false≢true h)
    go false l true e h = grind (arith, nat_tests, e)
    go false l false e h = absurd (false≢true h)

equal_number : (x y : ℕ) → x ≡ y → is_eq (nat_cmp x y) ≡ true
equal_number x y same = go (nat_lt x y) refl (x == y) refl
  where
    go : (a : Bool) → nat_lt x y ≡ a → (b : Bool) → (x == y) ≡ b → is_eq (cond a Less (cond b Equal Greater)) ≡ true
    go true l b e = absurd (let less : x < y = (Decides-ltb x y).0 l in omega arith)
    go false l true e = refl
    go false l false e = absurd (grind (arith, nat_tests, e, same))

greater : (x y : ℕ) → y < x → is_gt (nat_cmp x y) ≡ true
greater x y h = go (nat_lt x y) refl (x == y) refl
  where
    go : (a : Bool) → nat_lt x y ≡ a → (b : Bool) → (x == y) ≡ b → is_gt (cond a Less (cond b Equal Greater)) ≡ true
    go true l b e = absurd (let less : x < y = (Decides-ltb x y).0 l in omega arith)
    go false l true e = absurd (let same : x ≡ y = grind (arith, nat_tests, e) in omega arith)
    go false l false e = refl

-- a set without keys has no number
pub none_in : (set : BTreeSet ℕ) (at : ℕ) → set.keys ≡ [] → contains nat_cmp set at ≡ false
none_in set at none = ap (λ ks. list_any (λ k. is_eq (nat_cmp at k)) ks) none

-- what the set has below a number, and from there on
pub none_yet : (set : BTreeSet ℕ) (tells : ℕ → Bool) → set.keys ≡ [] → (at : ℕ) → contains nat_cmp set at ≡ (nat_lt at 0 && tells at)
none_yet set tells none at = none_in set at none ∙ sym (ap (λ b. b && tells at) (not_less at 0 (λ less. omega arith)))

pub one_more : (old new : BTreeSet ℕ) (tells : ℕ → Bool) (i : ℕ) →
    ((at : ℕ) → contains nat_cmp old at ≡ (nat_lt at i && tells at)) →
    Updates nat_cmp old new i (tells i) →
    (at : ℕ) →
    contains nat_cmp new at ≡ (nat_lt at (i + 1) && tells at)
one_more old new tells i before updates at = go (is_eq (nat_cmp i at)) refl
  where
    below : (i ≡ at → ⊥) → nat_lt at (i + 1) ≡ nat_lt at i
    below apart = both (nat_lt at i) refl
      where
        both : (b : Bool) → nat_lt at i ≡ b → nat_lt at (i + 1) ≡ nat_lt at i
        both true is = (let less : at < i = (Decides-ltb at i).0 is in (Decides-ltb at (i + 1)).1 (omega arith)) ∙ sym is
        both false is = not_less at (i + 1) (λ less. absurd (let least : at < i = other less in false≢true (sym is ∙ (Decides-ltb at i).1 least))) ∙ sym is
          where
            other : at < i + 1 → at < i
            other less = grind (arith, nat_tests, less, apart)

    go : (b : Bool) → is_eq (nat_cmp i at) ≡ b → contains nat_cmp new at ≡ (nat_lt at (i + 1) && tells at)
    go true is =
        let same : i ≡ at = same_number i at is in
        updates.0 at ∙ ap (λ b. cond b (tells i) (contains nat_cmp old at)) is ∙ ap tells same
        ∙ sym (ap (λ b. b && tells at) ((Decides-ltb at (i + 1)).1 (let e : i ≡ at = same in omega arith)))
    go false is =
        updates.0 at ∙ ap (λ b. cond b (tells i) (contains nat_cmp old at)) is ∙ before at
        ∙ sym (ap (λ b. b && tells at) (below (λ e. false≢true (sym is ∙ equal_number i at e))))

-- with all places so far it has all
pub all_places : {C : Type 0} (state : C → CoreState) (kind : Kind) (nodes : List (NodeState C)) (set : BTreeSet ℕ) (i : ℕ) → length (names_of nodes) ≤ i
    → ((at : ℕ) → contains nat_cmp set at ≡ (nat_lt at i && is_left_at state kind nodes (slice_get (names_of nodes) at))) → AreLeft state kind nodes set
all_places state kind nodes set i all so_far at = go (nat_lt at i) refl
  where
    go : (b : Bool) → nat_lt at i ≡ b → contains nat_cmp set at ≡ is_left_at state kind nodes (slice_get (names_of nodes) at)
    go true is = so_far at ∙ ap (λ b. b && is_left_at state kind nodes (slice_get (names_of nodes) at)) is
    go false is =
        so_far at ∙ ap (λ b. b && is_left_at state kind nodes (slice_get (names_of nodes) at)) is
        ∙ sym (ap (is_left_at state kind nodes) (slice_get_past (names_of nodes) at (past is)))
      where
        past : nat_lt at i ≡ false → length (names_of nodes) ≤ at
        past out = grind (arith, nat_tests, out, all)

module _
    {C X : Type 0}
    (state : C → CoreState)
    (kind : Kind)
    (list : Option C → List X)
    (tells : (o : Option C) → is_left_in state kind o ≡ nat_lt 0 (length (list o)))
    (nodes : List (NodeState C))
    (set : BTreeSet ℕ)
    (left : AreLeft state kind nodes set)
  where
    no_item : (xs : List X) → nat_lt 0 (length xs) ≡ false → xs ≡ []
    no_item [] h = refl
    no_item (x ∷ xs) h = absurd (false≢true (sym h ∙ (Decides-ltb 0 (length (x ∷ xs))).1 (omega arith)))

    an_item : (xs : List X) → nat_lt 0 (length xs) ≡ true → (x : X) × (ys : List X) × (xs ≡ x ∷ ys)
    an_item [] h = absurd (let less : 0 < 0 = (Decides-ltb 0 0).0 h in omega arith)
    an_item (x ∷ xs) h = (x, xs, refl)

    -- the set tells whether something is left at the node of a place
    told : (at : ℕ) (name : Name) → slice_get (names_of nodes) at ≡ Some name → contains nat_cmp set at ≡ nat_lt 0 (length (list (core_of name nodes)))
    told at name named = left at ∙ ap (is_left_at state kind nodes) named ∙ tells (core_of name nodes)

    -- each place in the set is that of a node
    pub no_name : (at : ℕ) → contains nat_cmp set at ≡ true → slice_get (names_of nodes) at ≡ None → ⊥
    no_name at member none = false≢true (sym (left at ∙ ap (is_left_at state kind nodes) none) ∙ member)

    -- at which something is left
    pub some_item : (at : ℕ) (name : Name) →
        slice_get (names_of nodes) at ≡ Some name →
        contains nat_cmp set at ≡ true →
        (x : X) × (ys : List X) × (list (core_of name nodes) ≡ x ∷ ys)
    some_item at name named member = an_item (list (core_of name nodes)) (sym (told at name named) ∙ member)

    -- if nothing is left at the nodes before one, that one is the first
    split : (rest : List (NodeState C)) (at : ℕ) (name : Name) →
        slice_get (names_of rest) at ≡ Some name →
        ((q : ℕ) → q < at → (other : Name) → slice_get (names_of rest) q ≡ Some other → list (core_of other nodes) ≡ [])
        → (front : List (NodeState C))
        × (node : NodeState C)
        × (back : List (NodeState C))
        × (rest ≡ front ++ node ∷ back)
        × (name ≡ node.name)
        × Each (λ (other : NodeState C). list (core_of other.name nodes) ≡ []) front
    split [] at name is before = let no : None ≡ Some name = is in cc
    split (node ∷ rest) zero name is before = ([], node, rest, refl, (let same : Some node.name ≡ Some name = is in cc), tt)
    split (node ∷ rest) (suc at) name is before =
        let p = split rest at name is (λ q less other there. before (suc q) (omega arith) other there) in
        (node ∷ p.0, p.1, p.2, ap (λ ns. node ∷ ns) p.3, p.4, (before zero (omega arith) node.name refl, p.5))

    pub first_with : (at : ℕ) (name : Name) →
        slice_get (names_of nodes) at ≡ Some name →
        contains nat_cmp set at ≡ true →
        IsLowerBound nat_cmp set at →
        (x : X) × IsFirstWith list nodes name x
    first_with at name named member least =
        let here = some_item at name named member in
        let parts =
        split nodes at name named
        (λ q less other there. no_item (list (core_of other nodes)) (sym (told q other there) ∙ not_in q less (contains nat_cmp set q) refl)) in (
          here.0,
          record {
            front = parts.0;
            node = parts.1;
            back = parts.2;
            others = here.1;
            stands = parts.3;
            named = parts.4;
            nothing_before = parts.5;
            something = here.2;
          },
        )
      where
        not_in : (q : ℕ) → q < at → (b : Bool) → contains nat_cmp set q ≡ b → contains nat_cmp set q ≡ false
        not_in q less true is = absurd (false≢true (sym (least q is) ∙ greater at q less))
        not_in q less false is = is

    -- without keys nothing is left
    each_empty : (rest : List (NodeState C)) →
        ((q : ℕ) (other : Name) → slice_get (names_of rest) q ≡ Some other → list (core_of other nodes) ≡ []) →
        Each (λ (other : NodeState C). list (core_of other.name nodes) ≡ []) rest
    each_empty [] all = tt
    each_empty (node ∷ rest) all = (all zero node.name refl, each_empty rest (λ q other there. all (suc q) other there))

    pub none_left : set.keys ≡ [] → NothingIsLeft list nodes
    none_left none = each_empty nodes (λ q other there. no_item (list (core_of other nodes)) (sym (told q other there) ∙ none_in set q none))

-- a name behind another of distinct ones differs from it
behind : (names : List Name) (name other : Name) (q : ℕ) → Each (λ n. same_name name n ≡ false) names → slice_get names q ≡ Some other → name ≡ other → ⊥
behind [] name other q each is same = let no : None ≡ Some other = is in cc
behind (first ∷ names) name other zero each is same =
    let here : Some first ≡ Some other = is in false≢true (sym each.0 ∙ (same_name-Decides name first).1 (let f : first ≡ other = cc in same ∙ sym f))
behind (first ∷ names) name other (suc q) each is same = behind names name other q each.1 is same

-- of distinct names two at different places differ
apart : (names : List Name) →
    IsDistinct same_name names →
    (p q : ℕ) (a b : Name) →
    slice_get names p ≡ Some a →
    slice_get names q ≡ Some b →
    (p ≡ q → ⊥) →
    a ≡ b →
    ⊥
unfolding IsDistinct
apart [] distinct p q a b is_a is_b differ same = let no : None ≡ Some a = is_a in cc
apart (name ∷ names) distinct zero zero a b is_a is_b differ same = differ refl
apart (name ∷ names) distinct zero (suc q) a b is_a is_b differ same =
    let here : Some name ≡ Some a = is_a in behind names name b q distinct.0 is_b (let n : name ≡ a = cc in n ∙ same)
apart (name ∷ names) distinct (suc p) zero a b is_a is_b differ same =
    let here : Some name ≡ Some b = is_b in behind names name a p distinct.0 is_a (let n : name ≡ b = cc in n ∙ sym same)
apart (name ∷ names) distinct (suc p) (suc q) a b is_a is_b differ same = apart names distinct.1 p q a b is_a is_b (λ e. differ (ap suc e)) same

-- a position that is found is that of an item that passes
pub found_at : {X : Type 0} (test : X → Bool) (xs : List X) (at : ℕ) → position test xs ≡ Some at → (x : X) × (slice_get xs at ≡ Some x) × (test x ≡ true)
found_at {X} test xs at e =
    let here = position_is test xs at e in
    subst (λ k. (x : X) × (slice_get xs k ≡ Some x) × (test x ≡ true)) here.0 (find xs here.1)
  where
    find : (ys : List X) → position_or_len test ys < length ys → (x : X) × (slice_get ys (position_or_len test ys) ≡ Some x) × (test x ≡ true)
    find [] less = absurd (omega arith)
    find (y ∷ ys) less = go (test y) refl (position_or_len test ys) (find ys) less
      where
        go : (b : Bool) →
            test y ≡ b →
            (k : ℕ) →
            (k < length ys → (x : X) × (slice_get ys k ≡ Some x) × (test x ≡ true)) →
            cond (not b) (1 + k) 0 < length (y ∷ ys) →
            (x : X) × (slice_get (y ∷ ys) (cond (not b) (1 + k) 0) ≡ Some x) × (test x ≡ true)
        go true is k later less = (y, refl, is)
        go false is k later less =
            let one : 1 + k ≡ suc k = omega arith in
            subst (λ n. (x : X) × (slice_get (y ∷ ys) n ≡ Some x) × (test x ≡ true)) (sym one) (later (omega arith))

-- putting a node of a known name leaves the names
pub names_stay : {C : Type 0} (node found : NodeState C) (nodes : List (NodeState C)) →
    node_of node.name nodes ≡ Some found →
    names_of (put_node node nodes) ≡ names_of nodes
names_stay node found [] known = let no : None ≡ Some found = known in cc
names_stay {C} node found (other ∷ others) known = go (same_name node.name other.name) refl known (names_stay node found others)
  where
    go : (b : Bool) →
        same_name node.name other.name ≡ b →
        cond b (Some other) (node_of node.name others) ≡ Some found →
        (node_of node.name others ≡ Some found → names_of (put_node node others) ≡ names_of others)
        → names_of (cond b (node ∷ others) (other ∷ put_node node others)) ≡ names_of (other ∷ others)
    go true is at later = ap (λ n. n ∷ names_of others) ((same_name-Decides node.name other.name).0 is)
    go false is at later = ap (λ ns. other.name ∷ ns) (later at)

-- what an event makes of the places: that of the node that it steps is noted anew
module _
    {C : Type 0}
    (state : C → CoreState)
    (kind : Kind)
    (before after : List (NodeState C))
    (name : Name)
    (node : NodeState C)
    (new : C)
    (known : node_of name before ≡ Some node)
    (put : after ≡ put_node (record node { core = Some new }) before)
    (distinct : IsDistinct same_name (names_of before))
  where
    named : name ≡ node.name
    named = found_name name before node known

    pub same_names : names_of after ≡ names_of before
    same_names =
        ap (λ (ns : List (NodeState C)). names_of ns) put
        ∙ names_stay (record node { core = Some new }) node before (subst (λ n. node_of n before ≡ Some node) named known)

    pub places_after : (old_set new_set : BTreeSet ℕ) → AreLeft state kind before old_set → (at : ℕ) → position (same_name name) (names_of after) ≡ Some at
        → Updates nat_cmp old_set new_set at (is_left_at state kind after (slice_get (names_of after) at)) → AreLeft state kind after new_set
    places_after old_set new_set left at there updates q = go (is_eq (nat_cmp at q)) refl
      where
        here : (x : Name) × (slice_get (names_of after) at ≡ Some x) × (same_name name x ≡ true)
        here = found_at (same_name name) (names_of after) at there

        same_core : (other : Name) → slice_get (names_of before) q ≡ Some other → (at ≡ q → ⊥) → core_of other before ≡ core_of other after
        same_core other is differ =
            let place : slice_get (names_of before) at ≡ Some here.0 = ap (λ ns. slice_get ns at) (sym same_names) ∙ here.1 in
            let differs : other ≡ node.name → ⊥ =
            λ e. apart (names_of before) distinct at q here.0 other place is differ (sym ((same_name-Decides name here.0).0 here.2) ∙ named ∙ sym e) in
            ap (λ (o : Option (NodeState C)). core_in o) (sym (put_other other (record node { core = Some new }) before (unlike other differs))
            ∙ ap (λ (ns : List (NodeState C)). node_of other ns) (sym put))
          where
            unlike : (other : Name) → (other ≡ node.name → ⊥) → same_name other node.name ≡ false
            unlike other differs = case (same_name other node.name) refl
              where
                case : (b : Bool) → same_name other node.name ≡ b → same_name other node.name ≡ false
                case true is = absurd (differs ((same_name-Decides other node.name).0 is))
                case false is = is

        same_left : (at ≡ q → ⊥) → (o : Option Name) → slice_get (names_of before) q ≡ o → is_left_at state kind before o ≡ is_left_at state kind after o
        same_left differ None is = refl
        same_left differ (Some other) is = ap (is_left_in state kind) (same_core other is differ)

        go : (b : Bool) → is_eq (nat_cmp at q) ≡ b → contains nat_cmp new_set q ≡ is_left_at state kind after (slice_get (names_of after) q)
        go true is =
            updates.0 q ∙ ap (λ b. cond b (is_left_at state kind after (slice_get (names_of after) at)) (contains nat_cmp old_set q)) is
            ∙ ap (λ k. is_left_at state kind after (slice_get (names_of after) k)) (same_number at q is)
        go false is =
            updates.0 q ∙ ap (λ b. cond b (is_left_at state kind after (slice_get (names_of after) at)) (contains nat_cmp old_set q)) is ∙ left q
            ∙ same_left differ (slice_get (names_of before) q) refl ∙ ap (λ ns. is_left_at state kind after (slice_get ns q)) (sym same_names)
          where
            differ : at ≡ q → ⊥
            differ e = false≢true (sym is ∙ equal_number at q e)

-- a list is empty if it has no first item
pub no_keys : (keys : List ℕ) → (0 < length keys → false ≡ true) → keys ≡ []
no_keys [] h = refl
no_keys (k ∷ keys) h = absurd (false≢true (h (omega arith)))

-- what is first among some
pub is_first : {X : Type 0} (list : List X) (first other : X) (others : List X) → Some first ≡ slice_get list 0 → list ≡ other ∷ others → other ≡ first
is_first list first other others there is = let same : Some first ≡ Some other = there ∙ ap (λ xs. slice_get xs 0) is in cc

-- the core, if one runs, has announcements or timers left if it has any
pub queues_tell : {C : Type 0} (state : C → CoreState) (o : Option C) → is_left_in state Announcements o ≡ nat_lt 0 (length (queue_of state o))
queues_tell state None = sym (not_less 0 0 (λ less. omega arith))
queues_tell state (Some core) = refl

pub timers_tell : {C : Type 0} (state : C → CoreState) (o : Option C) → is_left_in state Timers o ≡ nat_lt 0 (length (timers_of state o))
timers_tell state None = sym (not_less 0 0 (λ less. omega arith))
timers_tell state (Some core) = refl
