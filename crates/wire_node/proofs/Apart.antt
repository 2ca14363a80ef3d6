-- Lists of what waits in which no name is twice.
use Rattle.std.specs.Prelude.{◌≡◌, ◌<◌, ◌||◌, ◌++◌, ℕ, Bool, true, false, List, [], ◌∷◌, get_or, length, map, nat_lt, not, refl, if◌then◌else◌}
use Rattle.std.specs.List.{AllByRecursion, IsDistinct}
use Rattle.std.proofs.Common.{◌∙◌, ap, arith, set, subst, sym, zero, suc}
use Rattle.std.proofs.lemmas.Map.Keys.{IsDistinct-cons, IsDistinct-head, IsDistinct-tail}
use Rattle.node_names.specs.NodeName.{Name}
use Rattle.node_names.specs.Same.{has_name, same_name, same_name-Decides}
use Rattle.frames.specs.Frame.{Frame}
use Rattle.wire_node.specs.Acting.{without}
use Rattle.wire_node.specs.Waiting.{AreApart, Waiting, all_drafted, drafted, names_of, receivers_of, settled, settled_for, spelling, with_draft}

-- Each of these names is another.
abbrev pub AreOthers : Name → List Name → Type 0
AreOthers name names = AllByRecursion (λ (other : Name). same_name name other ≡ false) names

none_apart : IsDistinct same_name []
unfolding IsDistinct
none_apart = tt

-- which of two names is named first does not matter
pub apart_back : (a b : Name) → same_name a b ≡ false → same_name b a ≡ false
apart_back a b apart = go (same_name b a) refl
  where
    go : (t : Bool) → same_name b a ≡ t → same_name b a ≡ false
    go false e = e
    go true e =
        let same : same_name a b ≡ true = (same_name-Decides a b).1 (sym ((same_name-Decides b a).0 e)) in
        let no : true ≡ false = sym same ∙ apart in absurd cc

-- ---- drafts

others_drafted : (n : Name) (ws : List Waiting) (name : Name) (bytes : List ℕ) →
    same_name n name ≡ false →
    AreOthers n (names_of ws) →
    AreOthers n (names_of (drafted ws name bytes))
others_drafted n [] name bytes apart all = (apart, tt)
others_drafted n (w ∷ ws) name bytes apart all = go (same_name name w.name) (others_drafted n ws name bytes apart all.1)
  where
    go : (b : Bool) →
        AreOthers n (names_of (drafted ws name bytes)) →
        AreOthers n (names_of (if b then with_draft w bytes ∷ ws else w ∷ drafted ws name bytes))
    go true more = all
    go false more = (all.0, more)

pub apart_drafted : (ws : List Waiting) (name : Name) (bytes : List ℕ) → AreApart ws → AreApart (drafted ws name bytes)
apart_drafted [] name bytes apart = IsDistinct-cons same_name name [] tt none_apart
apart_drafted (w ∷ ws) name bytes apart =
    go (same_name name w.name) refl (apart_drafted ws name bytes (IsDistinct-tail same_name w.name (names_of ws) apart))
  where
    go : (b : Bool) →
        same_name name w.name ≡ b →
        AreApart (drafted ws name bytes) →
        AreApart (if b then with_draft w bytes ∷ ws else w ∷ drafted ws name bytes)
    go true e more = apart
    go false e more =
        IsDistinct-cons same_name w.name (names_of (drafted ws name bytes))
        (others_drafted w.name ws name bytes (apart_back name w.name e) (IsDistinct-head same_name w.name (names_of ws) apart)) more

pub apart_all : (ws : List Waiting) (sends : List (Name × Frame)) → AreApart ws → AreApart (all_drafted ws sends)
apart_all ws [] apart = apart
apart_all ws (s ∷ sends) apart = apart_all (drafted ws s.0 (spelling s.1)) sends (apart_drafted ws s.0 (spelling s.1) apart)

pub apart_none : AreApart []
apart_none = none_apart

names_settled : (ws : List Waiting) → names_of (map settled ws) ≡ names_of ws
names_settled [] = refl
names_settled (w ∷ ws) = ap (λ (t : List Name). w.name ∷ t) (names_settled ws)

pub apart_settled : (ws : List Waiting) → AreApart ws → AreApart (map settled ws)
apart_settled ws apart = subst (IsDistinct same_name) (sym (names_settled ws)) apart

-- ---- what goes

others_without : (n : Name) (name : Name) (ws : List Waiting) → AreOthers n (names_of ws) → AreOthers n (names_of (without name ws))
others_without n name [] all = tt
others_without n name (w ∷ ws) all = go (not (same_name name w.name)) (others_without n name ws all.1)
  where
    go : (b : Bool) → AreOthers n (names_of (without name ws)) → AreOthers n (names_of (if b then w ∷ without name ws else without name ws))
    go true more = (all.0, more)
    go false more = more

pub apart_without : (name : Name) (ws : List Waiting) → AreApart ws → AreApart (without name ws)
apart_without name [] apart = apart
apart_without name (w ∷ ws) apart =
    go (not (same_name name w.name)) (apart_without name ws (IsDistinct-tail same_name w.name (names_of ws) apart))
  where
    go : (b : Bool) → AreApart (without name ws) → AreApart (if b then w ∷ without name ws else without name ws)
    go true more =
        IsDistinct-cons same_name w.name (names_of (without name ws))
        (others_without w.name name ws (IsDistinct-head same_name w.name (names_of ws) apart)) more
    go false more = more

names_set : (ws : List Waiting) (i : ℕ) (new d : Waiting) → i < length ws → new.name ≡ (get_or ws i d).name → names_of (set ws i new) ≡ names_of ws
names_set [] i new d within same = absurd (omega arith)
names_set (w ∷ ws) zero new d within same = ap (λ (n : Name). n ∷ names_of ws) same
names_set (w ∷ ws) (suc i) new d within same = ap (λ (t : List Name). w.name ∷ t) (names_set ws i new d (omega arith) same)

pub apart_set : (ws : List Waiting) (i : ℕ) (new d : Waiting) → i < length ws → new.name ≡ (get_or ws i d).name → AreApart ws → AreApart (set ws i new)
apart_set ws i new d within same apart = subst (IsDistinct same_name) (sym (names_set ws i new d within same)) apart

-- ---- what waits for each name

other_at : (n : Name) (ws : List Waiting) (i : ℕ) (d : Waiting) → i < length ws → AreOthers n (names_of ws) → same_name (get_or ws i d).name n ≡ false
other_at n [] i d within all = absurd (omega arith)
other_at n (w ∷ ws) zero d within all = apart_back n w.name all.0
other_at n (w ∷ ws) (suc i) d within all = other_at n ws i d (omega arith) all.1

-- what is kept for a name waits for it
pub waits_in : (ws : List Waiting) (i : ℕ) (d : Waiting) → i < length ws → AreApart ws → settled_for ws (get_or ws i d).name ≡ (get_or ws i d).settled
waits_in [] i d within apart = absurd (omega arith)
waits_in (w ∷ ws) zero d within apart =
    ap (λ (b : Bool). if b then w.settled else settled_for ws w.name) ((same_name-Decides w.name w.name).1 refl)
waits_in (w ∷ ws) (suc i) d within apart =
    ap (λ (b : Bool). if b then w.settled else settled_for ws (get_or ws i d).name)
    (other_at w.name ws i d (omega arith) (IsDistinct-head same_name w.name (names_of ws) apart))
    ∙ waits_in ws i d (omega arith) (IsDistinct-tail same_name w.name (names_of ws) apart)

-- ---- the names for whom something waits

others_receive : (n : Name) (ws : List Waiting) → AreOthers n (names_of ws) → AreOthers n (receivers_of ws)
others_receive n [] all = tt
others_receive n (w ∷ ws) all = go (nat_lt 0 (length w.settled)) (others_receive n ws all.1)
  where
    go : (b : Bool) → AreOthers n (receivers_of ws) → AreOthers n ((if b then w.name ∷ [] else []) ++ receivers_of ws)
    go true more = (all.0, more)
    go false more = more

pub receive_once : (ws : List Waiting) → AreApart ws → IsDistinct same_name (receivers_of ws)
receive_once [] apart = apart
receive_once (w ∷ ws) apart = go (nat_lt 0 (length w.settled)) (receive_once ws (IsDistinct-tail same_name w.name (names_of ws) apart))
  where
    go : (b : Bool) →
        IsDistinct same_name (receivers_of ws) →
        IsDistinct same_name ((if b then w.name ∷ [] else []) ++ receivers_of ws)
    go true more =
        IsDistinct-cons same_name w.name (receivers_of ws)
        (others_receive w.name ws (IsDistinct-head same_name w.name (names_of ws) apart)) more
    go false more = more

-- a name is not among others
not_among : (n name : Name) (names : List Name) → same_name n name ≡ true → AreOthers name names → has_name names n ≡ false
not_among n name [] same all = refl
not_among n name (x ∷ names) same all =
    ap (λ (m : Name). same_name m x || has_name names m) ((same_name-Decides n name).0 same)
    ∙ ap (λ (b : Bool). b || has_name names name) all.0
    ∙ not_among name name names ((same_name-Decides name name).1 refl) all.1

pub receive_all : (ws : List Waiting) (n : Name) → AreApart ws → has_name (receivers_of ws) n ≡ nat_lt 0 (length (settled_for ws n))
receive_all [] n apart = refl
receive_all (w ∷ ws) n apart =
    go (nat_lt 0 (length w.settled)) refl (same_name n w.name) refl (receive_all ws n (IsDistinct-tail same_name w.name (names_of ws) apart))
  where
    others : AreOthers w.name (receivers_of ws)
    others = others_receive w.name ws (IsDistinct-head same_name w.name (names_of ws) apart)

    go : (b : Bool) →
        nat_lt 0 (length w.settled) ≡ b →
        (same : Bool) →
        same_name n w.name ≡ same →
        has_name (receivers_of ws) n ≡ nat_lt 0 (length (settled_for ws n))
        → has_name ((if b then w.name ∷ [] else []) ++ receivers_of ws) n ≡ nat_lt 0 (length (if same then w.settled else settled_for ws n))
    go true e true f more = ap (λ (t : Bool). t || has_name (receivers_of ws) n) f ∙ sym e
    go true e false f more = ap (λ (t : Bool). t || has_name (receivers_of ws) n) f ∙ more
    go false e true f more = not_among n w.name (receivers_of ws) f others ∙ sym e
    go false e false f more = more
