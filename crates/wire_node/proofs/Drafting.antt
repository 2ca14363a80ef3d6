-- Drafts, and what waits once they are settled.
use Rattle.std.specs.Prelude.{◌≡◌, ◌<◌, ◌≤◌, ◌+◌, ◌-◌, ℕ, Bool, true, false, List, [], ◌∷◌, ◌++◌, All, drop, get_or, length, map, take, refl, if◌then◌else◌}
use Rattle.std.proofs.Common.{◌∙◌, ap, arith, append_assoc, set, sym, zero, suc}
use Rattle.std.proofs.lemmas.List.{append-nil, drop-drop, drop-take, drop_all, drop_more, get_or_at, length-map, length-take}
use Rattle.std.proofs.lemmas.List.{length-take-le, map-append, set_at, take-map, take-take, take_all, take_more}
use Rattle.std.proofs.lemmas.List.Elements.{All-head, All-tail}
use Rattle.node_names.specs.NodeName.{Name}
use Rattle.node_names.specs.Same.{same_name, same_name-Decides}
use Rattle.frames.specs.Frame.{Frame}
use Rattle.wire_node.specs.Acting.{AreSettled}
use Rattle.wire_node.specs.Waiting.{KeepsSettled, Waiting, all_drafted, drafted, drafted_for, mail_for}
use Rattle.wire_node.specs.Waiting.{mail_of, settled, settled_for, spelling, undrafted, with_draft}

abbrev pub made : Name → List ℕ → List ℕ → Waiting
made name settled drafted = record { name = name; settled = settled; drafted = drafted }

abbrev pub IsOther : Name → Waiting → Type 0
IsOther name waiting = same_name name waiting.name ≡ false

-- a draft for a name that has an entry
pub draft_at : (ws : List Waiting) (name : Name) (bytes : List ℕ) (i : ℕ) (d : Waiting) →
    i < length ws →
    same_name name (get_or ws i d).name ≡ true →
    ((k : ℕ) → k < i → same_name name (get_or ws k d).name ≡ false)
    → drafted ws name bytes ≡ set ws i (with_draft (get_or ws i d) bytes)
draft_at [] name bytes i d within same first = absurd (omega arith)
draft_at (w ∷ ws) name bytes zero d within same first = ap (λ (b : Bool). if b then with_draft w bytes ∷ ws else w ∷ drafted ws name bytes) same
draft_at (w ∷ ws) name bytes (suc i) d within same first =
    ap (λ (b : Bool). if b then with_draft w bytes ∷ ws else w ∷ drafted ws name bytes) (first 0 (omega arith))
    ∙ ap (λ (t : List Waiting). w ∷ t) (draft_at ws name bytes i d (omega arith) same (λ k h. first (suc k) (omega arith)))

-- a draft for a name without one
pub draft_new : (ws : List Waiting) (name : Name) (bytes : List ℕ) →
    All (IsOther name) ws →
    drafted ws name bytes ≡ ws ++ record { name = name; settled = []; drafted = bytes } ∷ []
draft_new [] name bytes all = refl
draft_new (w ∷ ws) name bytes all =
    ap (λ (b : Bool). if b then with_draft w bytes ∷ ws else w ∷ drafted ws name bytes) (All-head (IsOther name) w ws all)
    ∙ ap (λ (t : List Waiting). w ∷ t) (draft_new ws name bytes (All-tail (IsOther name) w ws all))

-- ---- what a draft leaves

either_is : (b : Bool) (bytes : List ℕ) → (if b then bytes else bytes) ≡ bytes
either_is true bytes = refl
either_is false bytes = refl

-- what waits stays
pub draft_settled : (ws : List Waiting) (name : Name) (bytes : List ℕ) (n : Name) → settled_for (drafted ws name bytes) n ≡ settled_for ws n
draft_settled [] name bytes n = either_is (same_name n name) []
draft_settled (w ∷ ws) name bytes n = go (same_name name w.name) (draft_settled ws name bytes n)
  where
    go : (b : Bool) →
        settled_for (drafted ws name bytes) n ≡ settled_for ws n →
        settled_for (if b then with_draft w bytes ∷ ws else w ∷ drafted ws name bytes) n ≡ settled_for (w ∷ ws) n
    go true more = refl
    go false more = ap (λ (t : List ℕ). if same_name n w.name then w.settled else t) more

-- a name that is not this one
pub other_name : (a b n : Name) → same_name a b ≡ false → same_name n b ≡ true → same_name n a ≡ false
other_name a b n apart same = go (same_name n a) refl
  where
    go : (t : Bool) → same_name n a ≡ t → same_name n a ≡ false
    go false e = e
    go true e =
        let one : n ≡ a = (same_name-Decides n a).0 e in
        let two : n ≡ b = (same_name-Decides n b).0 same in
        let both : same_name a b ≡ true = (same_name-Decides a b).1 (sym one ∙ two) in
        let no : true ≡ false = sym both ∙ apart in absurd cc

-- what is drafted for the name grows, and for no other
pub draft_drafted : (ws : List Waiting) (name : Name) (bytes : List ℕ) (n : Name) →
    drafted_for (drafted ws name bytes) n ≡ drafted_for ws n ++ (if same_name n name then bytes else [])
draft_drafted [] name bytes n = refl
draft_drafted (w ∷ ws) name bytes n = go (same_name name w.name) refl (draft_drafted ws name bytes n)
  where
    own : (b : Bool) → (if b then w.drafted ++ bytes else drafted_for ws n) ≡ (if b then w.drafted else drafted_for ws n) ++ (if b then bytes else [])
    own true = refl
    own false = sym (append-nil (drafted_for ws n))

    apart : (b : Bool) →
        same_name n w.name ≡ b →
        same_name name w.name ≡ false →
        drafted_for (drafted ws name bytes) n ≡ drafted_for ws n ++ (if same_name n name then bytes else [])
        → (if b then w.drafted else drafted_for (drafted ws name bytes) n)
        ≡ (if b then w.drafted else drafted_for ws n) ++ (if same_name n name then bytes else [])
    apart true e f more = sym (ap (λ (t : Bool). w.drafted ++ (if t then bytes else [])) (other_name name w.name n f e) ∙ append-nil w.drafted)
    apart false e f more = more

    go : (b : Bool) → same_name name w.name ≡ b → drafted_for (drafted ws name bytes) n ≡ drafted_for ws n ++ (if same_name n name then bytes else [])
        → drafted_for (if b then with_draft w bytes ∷ ws else w ∷ drafted ws name bytes) n ≡ drafted_for (w ∷ ws) n ++ (if same_name n name then bytes else [])
    go true e more =
        let its : name ≡ w.name = (same_name-Decides name w.name).0 e in
        own (same_name n w.name)
        ∙ ap (λ (m : Name). (if same_name n w.name then w.drafted else drafted_for ws n) ++ (if same_name n m then bytes else [])) (sym its)
    go false e more = apart (same_name n w.name) refl e more

-- no entry goes
pub draft_keeps : (ws : List Waiting) (name : Name) (bytes : List ℕ) → KeepsSettled ws (drafted ws name bytes)
draft_keeps [] name bytes = refl
draft_keeps (w ∷ ws) name bytes = go (same_name name w.name) (draft_keeps ws name bytes)
  where
    go : (b : Bool) →
        KeepsSettled ws (drafted ws name bytes) →
        map undrafted (take (length (w ∷ ws)) (if b then with_draft w bytes ∷ ws else w ∷ drafted ws name bytes)) ≡ map undrafted (w ∷ ws)
    go true more = ap (λ (t : List Waiting). undrafted w ∷ map undrafted t) (take_all (length ws) ws (omega arith))
    go false more = ap (λ (t : List Waiting). undrafted w ∷ t) more

-- one after the other
pub keeps_then : (xs ys zs : List Waiting) → KeepsSettled xs ys → KeepsSettled ys zs → KeepsSettled xs zs
keeps_then xs ys zs h k =
    let long : length xs ≤ length ys =
    omega (arith, ap length h, length-map (take (length xs) ys) undrafted, length-take (length xs) ys, length-map xs undrafted) in
    ap (map undrafted) (sym (take-take (length xs) (length ys) zs long))
    ∙ sym (take-map undrafted (length xs) (take (length ys) zs))
    ∙ ap (take (length xs)) k
    ∙ take-map undrafted (length xs) ys
    ∙ h

-- the same entries
pub keeps_same : (ws : List Waiting) → KeepsSettled ws ws
keeps_same ws = ap (map undrafted) (take_all (length ws) ws (omega arith))

-- what was drafted is dropped
pub undrafted_back : (old new : List Waiting) (len : ℕ) → KeepsSettled old new → AreSettled old → len ≡ length old → map undrafted (take len new) ≡ old
undrafted_back old new len keeps rest e = ap (λ n. map undrafted (take n new)) e ∙ keeps ∙ rest.0

-- one entry changed its drafts alone
pub keeps_set : (ws : List Waiting) (i : ℕ) (old new : Waiting) →
    i < length ws →
    old ≡ get_or ws i old →
    undrafted new ≡ undrafted old →
    KeepsSettled ws (set ws i new)
keeps_set [] i old new within is same = absurd (omega arith)
keeps_set (w ∷ ws) zero old new within is same =
    ap (λ (u : Waiting). u ∷ map undrafted (take (length ws) ws)) (same ∙ ap undrafted is)
    ∙ ap (λ (t : List Waiting). undrafted w ∷ map undrafted t) (take_all (length ws) ws (omega arith))
keeps_set (w ∷ ws) (suc i) old new within is same = ap (λ (t : List Waiting). undrafted w ∷ t) (keeps_set ws i old new (omega arith) is same)

-- ---- all packets of a step

pub all_more : (ws : List Waiting) (sends : List (Name × Frame)) (send : Name × Frame) →
    all_drafted ws (sends ++ send ∷ []) ≡ drafted (all_drafted ws sends) send.0 (spelling send.1)
all_more ws [] send = refl
all_more ws (s ∷ sends) send = all_more (drafted ws s.0 (spelling s.1)) sends send

pub all_settled : (ws : List Waiting) (sends : List (Name × Frame)) (n : Name) → settled_for (all_drafted ws sends) n ≡ settled_for ws n
all_settled ws [] n = refl
all_settled ws (s ∷ sends) n = all_settled (drafted ws s.0 (spelling s.1)) sends n ∙ draft_settled ws s.0 (spelling s.1) n

pub all_for : (ws : List Waiting) (sends : List (Name × Frame)) (n : Name) → drafted_for (all_drafted ws sends) n ≡ drafted_for ws n ++ mail_for sends n
all_for ws [] n = sym (append-nil (drafted_for ws n))
all_for ws (s ∷ sends) n =
    all_for (drafted ws s.0 (spelling s.1)) sends n
    ∙ ap (λ (t : List ℕ). t ++ mail_for sends n) (draft_drafted ws s.0 (spelling s.1) n)
    ∙ append_assoc (drafted_for ws n) (mail_of s n) (mail_for sends n)

-- ---- settled

pub settled_all : (ws : List Waiting) (n : Name) → settled_for (map settled ws) n ≡ settled_for ws n ++ drafted_for ws n
settled_all [] n = refl
settled_all (w ∷ ws) n = go (same_name n w.name) (settled_all ws n)
  where
    go : (b : Bool) → settled_for (map settled ws) n ≡ settled_for ws n ++ drafted_for ws n
        → (if b then w.settled ++ w.drafted else settled_for (map settled ws) n)
        ≡ (if b then w.settled else settled_for ws n) ++ (if b then w.drafted else drafted_for ws n)
    go true more = refl
    go false more = more

pub settled_rest : (ws : List Waiting) → map undrafted (map settled ws) ≡ map settled ws
settled_rest [] = refl
settled_rest (w ∷ ws) = ap (λ (t : List Waiting). settled w ∷ t) (settled_rest ws)

none_for : (ws : List Waiting) (n : Name) → drafted_for (map undrafted ws) n ≡ []
none_for [] n = refl
none_for (w ∷ ws) n = go (same_name n w.name) (none_for ws n)
  where
    go : (b : Bool) → drafted_for (map undrafted ws) n ≡ [] → (if b then [] else drafted_for (map undrafted ws) n) ≡ []
    go true more = refl
    go false more = more

pub none_drafted : (ws : List Waiting) (n : Name) → map undrafted ws ≡ ws → drafted_for ws n ≡ []
none_drafted ws n rest = ap (λ (us : List Waiting). drafted_for us n) (sym rest) ∙ none_for ws n

-- what waits for a name once the packets of a step do
pub waits_more : (ws : List Waiting) (sends : List (Name × Frame)) (n : Name) →
    map undrafted ws ≡ ws →
    settled_for (map settled (all_drafted ws sends)) n ≡ settled_for ws n ++ mail_for sends n
waits_more ws sends n rest =
    settled_all (all_drafted ws sends) n
    ∙ ap (λ (t : List ℕ). t ++ drafted_for (all_drafted ws sends) n) (all_settled ws sends n)
    ∙ ap (λ (t : List ℕ). settled_for ws n ++ t) (all_for ws sends n ∙ ap (λ (t : List ℕ). t ++ mail_for sends n) (none_drafted ws n rest))

-- the first bytes went out
pub advanced : (name : Name) (bytes new : List ℕ) (kept n : ℕ) → n ≤ kept → new ≡ drop n bytes
    → record { name = name; settled = take (kept - n) new; drafted = drop (kept - n) new } ≡ made name (drop n (take kept bytes)) (drop kept bytes)
advanced name bytes new kept n few e =
    let parts : n + (kept - n) ≡ kept = omega (arith, few) in
    let front : take (kept - n) new ≡ drop n (take kept bytes) =
    ap (take (kept - n)) e ∙ sym (drop-take n (kept - n) bytes) ∙ ap (λ (m : ℕ). drop n (take m bytes)) parts in
    let back : drop (kept - n) new ≡ drop kept bytes = ap (drop (kept - n)) e ∙ drop-drop (kept - n) n bytes ∙ ap (λ (m : ℕ). drop m bytes) parts in
    ap (λ (s : List ℕ). made name s (drop (kept - n) new)) front ∙ ap (made name (drop n (take kept bytes))) back

-- ---- a list that is changed item by item

pub mapped_more : {X : Type 0} (f : X → X) (olds news : List X) (i : ℕ) (d y : X) →
    i < length olds →
    news ≡ map f (take i olds) ++ drop i olds →
    y ≡ f (get_or news i d)
    → set news i y ≡ map f (take (i + 1) olds) ++ drop (i + 1) olds
mapped_more f olds news i d y within is its =
    let front = map f (take i olds) in
    let here = get_or olds i d in
    let rest = drop (i + 1) olds in
    let size : length front ≡ i = length-map (take i olds) f ∙ length-take-le i olds (omega arith) in
    let parts : news ≡ front ++ here ∷ rest = is ∙ ap (λ t. front ++ t) (drop_more olds i d within) in
    let made : y ≡ f here = its ∙ ap f (ap (λ t. get_or t i d) parts ∙ get_or_at front here rest d i size) in
    ap (λ t. set t i y) parts ∙ set_at front here rest y i size ∙ ap (λ z. front ++ z ∷ rest) made
    ∙ sym (append_assoc front (f here ∷ []) rest)
    ∙ ap (λ t. t ++ rest) (sym (map-append f (take i olds) (here ∷ [])))
    ∙ ap (λ t. map f t ++ rest) (sym (take_more olds i d within))

pub mapped_all : {X : Type 0} (f : X → X) (olds news : List X) (i : ℕ) → length olds ≤ i → news ≡ map f (take i olds) ++ drop i olds → news ≡ map f olds
mapped_all f olds news i all is =
    is ∙ ap (λ t. map f t ++ drop i olds) (take_all i olds all) ∙ ap (λ t. map f olds ++ t) (drop_all i olds all) ∙ append-nil (map f olds)
