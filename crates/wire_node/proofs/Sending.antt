-- What waits for a name, and what goes out of it.
use Rattle.std.specs.Prelude.{◌≡◌, ◌<◌, ℕ, Bool, true, false, List, [], ◌∷◌, All, drop, get_or, length, map, min, not, refl, if◌then◌else◌}
use Rattle.std.proofs.Common.{◌∙◌, ap, arith, set, sym, zero, suc}
use Rattle.std.proofs.lemmas.List.{drop_all, drop_min}
use Rattle.std.proofs.lemmas.List.Elements.{All-head, All-tail}
use Rattle.node_names.specs.NodeName.{Name}
use Rattle.node_names.specs.Same.{same_name, same_name-Decides}
use Rattle.wire_node.specs.Acting.{without}
use Rattle.wire_node.specs.Waiting.{Waiting, settled_for, undrafted}
use Rattle.wire_node.proofs.Drafting.{IsOther, made, other_name}

-- with so many bytes less
abbrev pub with_less : ℕ → Waiting → Waiting
with_less n w = made w.name (drop n w.settled) w.drafted

pub less_settled : (n : ℕ) (w : Waiting) → undrafted w ≡ w → undrafted (with_less n w) ≡ with_less n w
less_settled n w rest = ap (with_less n) rest

-- what waits for a name that has an entry
pub waits_at : (ws : List Waiting) (name : Name) (i : ℕ) (d : Waiting) →
    i < length ws →
    same_name name (get_or ws i d).name ≡ true →
    ((k : ℕ) → k < i → same_name name (get_or ws k d).name ≡ false)
    → settled_for ws name ≡ (get_or ws i d).settled
waits_at [] name i d within same first = absurd (omega arith)
waits_at (w ∷ ws) name zero d within same first = ap (λ (b : Bool). if b then w.settled else settled_for ws name) same
waits_at (w ∷ ws) name (suc i) d within same first =
    ap (λ (b : Bool). if b then w.settled else settled_for ws name) (first 0 (omega arith))
    ∙ waits_at ws name i d (omega arith) same (λ k h. first (suc k) (omega arith))

-- and for one that has none
pub waits_none : (ws : List Waiting) (name : Name) → All (IsOther name) ws → settled_for ws name ≡ []
waits_none [] name all = refl
waits_none (w ∷ ws) name all =
    ap (λ (b : Bool). if b then w.settled else settled_for ws name) (All-head (IsOther name) w ws all)
    ∙ waits_none ws name (All-tail (IsOther name) w ws all)

-- each entry is settled
pub settled_at : (ws : List Waiting) (i : ℕ) (d : Waiting) → map undrafted ws ≡ ws → i < length ws → undrafted (get_or ws i d) ≡ get_or ws i d
settled_at [] i d rest within = absurd (omega arith)
settled_at (w ∷ ws) zero d rest within = ap (λ (l : List Waiting). get_or l 0 w) rest
settled_at (w ∷ ws) (suc i) d rest within = settled_at ws i d (ap (drop 1) rest) (omega arith)

-- one entry was exchanged for a settled one
pub settled_set : (ws : List Waiting) (i : ℕ) (new : Waiting) → map undrafted ws ≡ ws → undrafted new ≡ new → map undrafted (set ws i new) ≡ set ws i new
settled_set [] i new rest its = refl
settled_set (w ∷ ws) zero new rest its = ap (λ (u : Waiting). u ∷ map undrafted ws) its ∙ ap (λ (l : List Waiting). new ∷ l) (ap (drop 1) rest)
settled_set (w ∷ ws) (suc i) new rest its =
    ap (λ (u : Waiting). u ∷ map undrafted (set ws i new)) (ap (λ (l : List Waiting). get_or l 0 w) rest)
    ∙ ap (λ (l : List Waiting). w ∷ l) (settled_set ws i new (ap (drop 1) rest) its)

-- bytes went out of an entry: for its name they are gone, and for each other all stays
pub gone_at : (ws : List Waiting) (name : Name) (i : ℕ) (d : Waiting) (n : ℕ) (other : Name) →
    i < length ws →
    same_name name (get_or ws i d).name ≡ true →
    ((k : ℕ) → k < i → same_name name (get_or ws k d).name ≡ false)
    → settled_for (set ws i (with_less n (get_or ws i d))) other ≡ (if same_name other name then drop n (settled_for ws other) else settled_for ws other)
gone_at [] name i d n other within same first = absurd (omega arith)
gone_at (w ∷ ws) name zero d n other within same first =
    let its : name ≡ w.name = (same_name-Decides name w.name).0 same in
    go (same_name other w.name) ∙ ap (λ (m : Name). if same_name other m then drop n (settled_for (w ∷ ws) other) else settled_for (w ∷ ws) other) (sym its)
  where
    go : (b : Bool) → (if b then drop n w.settled else settled_for ws other)
        ≡ (if b then drop n (if b then w.settled else settled_for ws other) else (if b then w.settled else settled_for ws other))
    go true = refl
    go false = refl
gone_at (w ∷ ws) name (suc i) d n other within same first =
    go (same_name other w.name) refl (gone_at ws name i d n other (omega arith) same (λ k h. first (suc k) (omega arith)))
  where
    go : (b : Bool) → same_name other w.name ≡ b
        → settled_for (set ws i (with_less n (get_or ws i d))) other ≡ (if same_name other name then drop n (settled_for ws other) else settled_for ws other)
        → (if b then w.settled else settled_for (set ws i (with_less n (get_or ws i d))) other)
        ≡ (if same_name other name then drop n (if b then w.settled else settled_for ws other) else (if b then w.settled else settled_for ws other))
    go true e more =
        ap (λ (t : Bool). if t then drop n w.settled else w.settled) (sym (other_name name w.name other (first 0 (omega arith)) e))
    go false e more = more

-- none went out where none waited
pub gone_none : (ws : List Waiting) (name : Name) (n : ℕ) (other : Name) →
    All (IsOther name) ws →
    settled_for ws other ≡ (if same_name other name then drop n (settled_for ws other) else settled_for ws other)
gone_none ws name n other all = go (same_name other name) refl
  where
    go : (b : Bool) → same_name other name ≡ b → settled_for ws other ≡ (if b then drop n (settled_for ws other) else settled_for ws other)
    go true e =
        let none : settled_for ws other ≡ [] = ap (settled_for ws) ((same_name-Decides other name).0 e) ∙ waits_none ws name all in
        none ∙ sym (drop_all n [] (omega arith)) ∙ ap (drop n) (sym none)
    go false e = refl

-- the entry, with what went out gone
pub less_of : (count : ℕ) (now e new : Waiting) (taken : ℕ) →
    now ≡ e →
    taken ≡ min count (length e.settled) →
    new ≡ made now.name (drop taken now.settled) now.drafted →
    new ≡ with_less count e
less_of count now e new taken is few made_so =
    made_so ∙ ap (with_less taken) is ∙ ap (λ (s : List ℕ). made e.name s e.drafted) (ap (λ (t : ℕ). drop t e.settled) few ∙ drop_min count e.settled)

-- no entry of the name is left
gone_all : (ws : List Waiting) (name : Name) → settled_for (without name ws) name ≡ []
gone_all [] name = refl
gone_all (w ∷ ws) name = go (same_name name w.name) refl (gone_all ws name)
  where
    go : (b : Bool) →
        same_name name w.name ≡ b →
        settled_for (without name ws) name ≡ [] →
        settled_for (if not b then w ∷ without name ws else without name ws) name ≡ []
    go true e more = more
    go false e more = ap (λ (t : Bool). if t then w.settled else settled_for (without name ws) name) e ∙ more

-- what waits for another name stays
others_stay : (ws : List Waiting) (name other : Name) → same_name other name ≡ false → settled_for (without name ws) other ≡ settled_for ws other
others_stay [] name other apart = refl
others_stay (w ∷ ws) name other apart = go (same_name name w.name) refl (others_stay ws name other apart)
  where
    go : (b : Bool) →
        same_name name w.name ≡ b →
        settled_for (without name ws) other ≡ settled_for ws other →
        settled_for (if not b then w ∷ without name ws else without name ws) other ≡ (if same_name other w.name then w.settled else settled_for ws other)
    go true e more =
        more
        ∙ sym (ap (λ (m : Name). if same_name other m then w.settled else settled_for ws other) (sym ((same_name-Decides name w.name).0 e))
        ∙ ap (λ (t : Bool). if t then w.settled else settled_for ws other) apart)
    go false e more = ap (λ (l : List ℕ). if same_name other w.name then w.settled else l) more

-- where nothing waits for a name, all stays without its entries
pub swept : (ws : List Waiting) (name other : Name) → length (settled_for ws name) ≡ 0 → settled_for (without name ws) other ≡ settled_for ws other
swept ws name other none = go (same_name other name) refl
  where
    empty : (l : List ℕ) → length l ≡ 0 → l ≡ []
    empty [] h = refl
    empty (x ∷ l) h = absurd (omega (arith, h))

    go : (b : Bool) → same_name other name ≡ b → settled_for (without name ws) other ≡ settled_for ws other
    go true e =
        let same : other ≡ name = (same_name-Decides other name).0 e in
        ap (settled_for (without name ws)) same ∙ gone_all ws name ∙ sym (empty (settled_for ws name) none) ∙ sym (ap (settled_for ws) same)
    go false e = others_stay ws name other e
