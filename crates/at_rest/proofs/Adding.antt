-- Lists of ids, to which more are added.
use Rattle.std.proofs.Common.{◌≡◌, ◌∙◌, ◌+◌, ◌<◌, ℕ, List, [], ◌∷◌, ◌++◌, get_or, length, take, true, false, sym, ap, refl, subst, append_assoc, append-nil}
use Rattle.std.specs.Prelude.{◌||◌, Bool, cond}
use Rattle.std.proofs.lemmas.Bool.{false≢true}
use Rattle.std.proofs.lemmas.List.{take_more}
use Rattle.std.proofs.lemmas.List.Folds.{list_any-append}
use Rattle.node_names.specs.Same.{has_id, same_id, same_id-Decides}
use Rattle.node_names.specs.declared.ids.MsgId.{MsgId}
use Rattle.at_rest.specs.Unrest.{Adds}
use Rattle.at_rest.proofs.Lists.{fails}

-- the same ids tell the same
same_ids : (xs ys more : List MsgId) → ((q : MsgId) → has_id xs q ≡ has_id ys q) → (q : MsgId) → has_id (xs ++ more) q ≡ has_id (ys ++ more) q
same_ids xs ys more same q = list_any-append (same_id q) xs more ∙ ap (λ b. b || has_id more q) (same q) ∙ sym (list_any-append (same_id q) ys more)

-- nothing is added where nothing changes
pub adds-none : (old : List MsgId) → Adds old [] old
adds-none old q = ap (λ ids. has_id ids q) (sym (append-nil old))

-- what is added in two steps is added
pub adds-both : (old mid new more most : List MsgId) → Adds old more mid → Adds mid most new → Adds old (more ++ most) new
adds-both old mid new more most first second q = second q ∙ same_ids mid (old ++ more) most first q ∙ ap (λ ids. has_id ids q) (append_assoc old more most)

-- a set that has one id more has it added
pub adds-one : (old new : List MsgId) (id : MsgId) → ((q : MsgId) → has_id new q ≡ cond (same_id id q) true (has_id old q)) → Adds old (id ∷ []) new
adds-one old new id updates q = updates q ∙ go (same_id id q) refl ∙ sym (list_any-append (same_id q) old (id ∷ []))
  where
    or-true : (a : Bool) → true ≡ (a || true)
    or-true true = refl
    or-true false = refl

    or-false : (a : Bool) → a ≡ (a || false)
    or-false true = refl
    or-false false = refl

    go : (b : Bool) → same_id id q ≡ b → cond b true (has_id old q) ≡ (has_id old q || (same_id q id || false))
    go true e =
        let same : same_id q id ≡ true = (same_id-Decides q id).1 (sym ((same_id-Decides id q).0 e)) in
        or-true (has_id old q) ∙ ap (λ b. has_id old q || (b || false)) (sym same)
    go false e =
        let other : same_id q id ≡ false = fails (same_id q id) (λ same. false≢true (sym e ∙ (same_id-Decides id q).1 (sym ((same_id-Decides q id).0 same)))) in
        or-false (has_id old q) ∙ ap (λ b. has_id old q || (b || false)) (sym other)

-- what the items of a list add, one item further
module _ {X : Type 0} (ids_of : X → List MsgId) (all : List X → List MsgId) (none : all [] ≡ [])
    (one : (x : X) (xs : List X) → all (x ∷ xs) ≡ ids_of x ++ all xs) where
  all-push : (xs : List X) (x : X) → all (xs ++ x ∷ []) ≡ all xs ++ ids_of x
  all-push [] x = one x [] ∙ ap (λ ids. ids_of x ++ ids) none ∙ append-nil (ids_of x) ∙ ap (λ ids. ids ++ ids_of x) (sym none)
  all-push (y ∷ xs) x =
      one y (xs ++ x ∷ [])
      ∙ ap (λ ids. ids_of y ++ ids) (all-push xs x)
      ∙ sym (append_assoc (ids_of y) (all xs) (ids_of x))
      ∙ ap (λ ids. ids ++ ids_of x) (sym (one y xs))

  pub adds-more : (xs : List X) (i : ℕ) (d x : X) (old mid new : List MsgId) →
      i < length xs →
      x ≡ get_or xs i d →
      Adds old (all (take i xs)) mid →
      Adds mid (ids_of x) new →
      Adds old (all (take (i + 1) xs)) new
  adds-more xs i d x old mid new within at before now =
      let same : all (take (i + 1) xs) ≡ all (take i xs) ++ ids_of x =
      ap all (take_more xs i d within ∙ ap (λ (y : X). take i xs ++ y ∷ []) (sym at)) ∙ all-push (take i xs) x in
      subst (λ more. Adds old more new) (sym same) (adds-both old mid new (all (take i xs)) (ids_of x) before now)
