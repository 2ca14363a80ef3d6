-- Lists of branches, one branch longer.
use Rattle.std.proofs.Common.{◌≡◌, ◌∙◌, ◌+◌, ◌<◌, ℕ, List, [], ◌∷◌, ◌++◌, get_or, length, take, true, false, sym, ap, refl, subst, append-nil}
use Rattle.std.specs.Map.{lookup}
use Rattle.std.specs.Prelude.{Bool, Option, Some, Result, Ok, Err, OnOk, cond, map, reverse, unwrap_or}
use Rattle.std.proofs.lemmas.List.{reverse-append, take_more}
use Rattle.std.proofs.lemmas.Bool.{false≢true}
use Rattle.node_names.specs.Same.{same_id, same_id-Decides}
use Rattle.node_names.specs.declared.ids.MsgId.{MsgId}
use Rattle.node_names.specs.declared.ids.Origin.{Origin}
use Rattle.protocol.specs.Delivery.{Delivery}
use Rattle.world.specs.Entry.{Entry}
use Rattle.world.specs.declared.packet.Packet.{Packet}
use Rattle.at_rest.specs.Forest.{branches_at}
use Rattle.at_rest.specs.Tree.{branches_from, branches_of, tree_of}
use Rattle.at_rest.specs.declared.branch.Branch.{Branch}
use Rattle.at_rest.proofs.Lists.{fails}

-- the map has this list for the id, and for each other id what it had
abbrev pub Lists : List (MsgId × List Branch) → List (MsgId × List Branch) → MsgId → List Branch → Type 0
Lists old new key branches = (q : MsgId) → lookup (same_id q) new ≡ cond (same_id key q) (Some branches) (lookup (same_id q) old)

-- where the list of a delivery's message has its branch behind the others, so has each list the delivery's branches
pub listed-more : (old new : List (MsgId × List Branch)) (d : Delivery) (parent : Option Origin) (branches : List Branch) →
    Lists old new d.id branches →
    branches ≡ branches_at d.id old ++ record { node = d.node; parent = parent } ∷ [] →
    (id : MsgId) →
    branches_at id new ≡ branches_at id old ++ branches_from id parent (d ∷ [])
listed-more old new d parent branches lists is id = go (same_id id d.id) refl
  where
    at : MsgId → Bool → List Branch
    at q b = unwrap_or (cond b (Some branches) (lookup (same_id q) old)) []

    go : (b : Bool) →
        same_id id d.id ≡ b →
        branches_at id new ≡ branches_at id old ++ map (λ (one : Delivery). record { node = one.node; parent = parent }) (cond b (d ∷ []) [])
    go true e =
        let same : id ≡ d.id = (same_id-Decides id d.id).0 e in
        let here : branches_at d.id new ≡ branches_at d.id old ++ record { node = d.node; parent = parent } ∷ [] =
        ap (λ o. unwrap_or o []) (lists d.id) ∙ ap (at d.id) ((same_id-Decides d.id d.id).1 refl) ∙ is in
        subst (λ q. branches_at q new ≡ branches_at q old ++ record { node = d.node; parent = parent } ∷ []) (sym same) here
    go false e =
        let other : same_id d.id id ≡ false =
        fails (same_id d.id id) (λ same. false≢true (sym e ∙ (same_id-Decides id d.id).1 (sym ((same_id-Decides d.id id).0 same)))) in
        ap (λ o. unwrap_or o []) (lists id) ∙ ap (at id) other ∙ sym (append-nil (branches_at id old))

-- what follows of a fact of an Ok's follows of the Ok
pub on-ok-weaken : {T E : Type 0} (r : Result T E) (P Q : Type 0) → (P → Q) → OnOk r P → OnOk r Q
on-ok-weaken (Ok x) P Q f h = f h
on-ok-weaken (Err e) P Q f h = tt

-- the tree of a log, one entry longer
pub tree-more : {N : Type 0} (sent : List (Packet N)) (id : MsgId) (log : List Entry) (i : ℕ) (entry : Entry) →
    i < length log →
    entry ≡ get_or log i entry →
    tree_of sent id (reverse (take (i + 1) log)) ≡ tree_of sent id (reverse (take i log)) ++ branches_of sent id entry
tree-more sent id log i entry within at =
    ap (λ (es : List Entry). tree_of sent id (reverse es)) (take_more log i entry within ∙ ap (λ (e : Entry). take i log ++ e ∷ []) (sym at))
    ∙ ap (tree_of sent id) (reverse-append (take i log) (entry ∷ []))
