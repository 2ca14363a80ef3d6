-- Told lists, one item longer.
use Rattle.std.proofs.Common.{◌≡◌, ℕ, ◌+◌, ◌<◌, ◌≤◌, ◌∙◌, List, [], ◌∷◌, ◌++◌, length, get_or, take, drop, ap, sym, append_assoc, append-nil}
use Rattle.std.specs.Prelude.{Option, Some}
use Rattle.std.proofs.lemmas.List.{drop_all, drop_more, take_all, take_more}
use Rattle.node_names.specs.Slots.{somes}
use Rattle.node_core.proofs.Slots.{somes_some}

-- what is appended in two steps
pub joined : (new text old part step whole : List ℕ) → new ≡ text ++ step → text ≡ old ++ part → whole ≡ part ++ step → new ≡ old ++ whole
joined new text old part step whole a b w = rw (a, b, w) (append_assoc old part step)

-- the lines of a list, one item longer
module _ {T : Type 0} (line : T → List ℕ) (lines : List T → List ℕ) (none : lines [] ≡ [])
    (one : (x : T) (xs : List T) → lines (x ∷ xs) ≡ line x ++ lines xs) where
  lines-push : (xs : List T) (x : T) → lines (xs ++ x ∷ []) ≡ lines xs ++ line x
  lines-push [] x = one x [] ∙ ap (λ (rest : List ℕ). line x ++ rest) none ∙ append-nil (line x) ∙ sym (ap (λ (rest : List ℕ). rest ++ line x) none)
  lines-push (e ∷ xs) x =
      one e (xs ++ x ∷ [])
      ∙ ap (λ (rest : List ℕ). line e ++ rest) (lines-push xs x)
      ∙ sym (append_assoc (line e) (lines xs) (line x))
      ∙ ap (λ (rest : List ℕ). rest ++ line x) (sym (one e xs))

  pub lines-more : (xs : List T) (i : ℕ) (x d : T) → i < length xs → x ≡ get_or xs i d → lines (take (i + 1) xs) ≡ lines (take i xs) ++ line x
  lines-more xs i x d h e = ap lines (take_more xs i d h) ∙ ap (λ (y : T). lines (take i xs ++ y ∷ [])) (sym e) ∙ lines-push (take i xs) x

  -- the lines of slots, one slot with a value longer
  pub slots-more : (slots : List (Option T)) (i : ℕ) (slot : Option T) (x : T) →
      i < length slots →
      slot ≡ get_or slots i slot →
      slot ≡ Some x →
      lines (somes (take (i + 1) slots)) ≡ lines (somes (take i slots)) ++ line x
  slots-more slots i slot x h e is = ap lines (somes_some slots i slot x h e is) ∙ lines-push (somes (take i slots)) x

-- the lines of a list whose items are numbered, from the item at each place on
module _ {T : Type 0} (line : ℕ → T → List ℕ) (lines : ℕ → List T → List ℕ) (none : (i : ℕ) → lines i [] ≡ [])
    (one : (i : ℕ) (x : T) (xs : List T) → lines i (x ∷ xs) ≡ line i x ++ lines (i + 1) xs) where
  pub numbered-step : (xs : List T) (i : ℕ) (x d : T) (new text whole : List ℕ) →
      i < length xs →
      x ≡ get_or xs i d →
      new ≡ text ++ line i x →
      text ++ lines i (drop i xs) ≡ whole →
      new ++ lines (i + 1) (drop (i + 1) xs) ≡ whole
  numbered-step xs i x d new text whole h e w told =
      ap (λ (t : List ℕ). t ++ lines (i + 1) (drop (i + 1) xs)) w
      ∙ append_assoc text (line i x) (lines (i + 1) (drop (i + 1) xs))
      ∙ ap (λ (t : List ℕ). text ++ t)
      (sym (one i x (drop (i + 1) xs)) ∙ ap (λ (y : T). lines i (y ∷ drop (i + 1) xs)) e ∙ sym (ap (lines i) (drop_more xs i d h)))
      ∙ told

  pub numbered-end : (xs : List T) (i : ℕ) (text whole : List ℕ) → length xs ≤ i → text ++ lines i (drop i xs) ≡ whole → text ≡ whole
  numbered-end xs i text whole h told =
      sym (append-nil text) ∙ ap (λ (t : List ℕ). text ++ t) (sym (ap (lines i) (drop_all i xs h) ∙ none i)) ∙ told

-- what is appended in seven steps
pub seven : (t0 t1 t2 t3 t4 t5 t6 t7 a b c d e f g : List ℕ) →
    t1 ≡ t0 ++ a →
    t2 ≡ t1 ++ b →
    t3 ≡ t2 ++ c →
    t4 ≡ t3 ++ d →
    t5 ≡ t4 ++ e →
    t6 ≡ t5 ++ f →
    t7 ≡ t6 ++ g →
    t7 ≡ t0 ++ (a ++ (b ++ (c ++ (d ++ (e ++ (f ++ g))))))
seven t0 t1 t2 t3 t4 t5 t6 t7 a b c d e f g h1 h2 h3 h4 h5 h6 h7 = rw (h7, h6, h5, h4, h3, h2, h1) (simp append_assoc)

-- what is appended in five steps
pub five : (t0 t1 t2 t3 t4 t5 a b c d e : List ℕ) →
    t1 ≡ t0 ++ a →
    t2 ≡ t1 ++ b →
    t3 ≡ t2 ++ c →
    t4 ≡ t3 ++ d →
    t5 ≡ t4 ++ e →
    t5 ≡ t0 ++ (a ++ (b ++ (c ++ (d ++ e))))
five t0 t1 t2 t3 t4 t5 a b c d e h1 h2 h3 h4 h5 = rw (h5, h4, h3, h2, h1) (simp append_assoc)

-- the lines of a list up to a place at or behind its end
pub lines-all :
    {T : Type 0} (lines : List T → List ℕ) (xs : List T) (i : ℕ) (new old : List ℕ) → length xs ≤ i → new ≡ old ++ lines (take i xs) → new ≡ old ++ lines xs
lines-all {T} lines xs i new old h told = told ∙ ap (λ (ys : List T). old ++ lines ys) (take_all i xs h)

-- what is appended in three steps
pub three : (t0 t1 t2 t3 a b c : List ℕ) → t1 ≡ t0 ++ a → t2 ≡ t1 ++ b → t3 ≡ t2 ++ c → t3 ≡ t0 ++ (a ++ (b ++ c))
three t0 t1 t2 t3 a b c h1 h2 h3 = rw (h3, h2, h1) (simp append_assoc)

-- what is appended in four steps
pub four : (t0 t1 t2 t3 t4 a b c d : List ℕ) → t1 ≡ t0 ++ a → t2 ≡ t1 ++ b → t3 ≡ t2 ++ c → t4 ≡ t3 ++ d → t4 ≡ t0 ++ (a ++ (b ++ (c ++ d)))
four t0 t1 t2 t3 t4 a b c d h1 h2 h3 h4 = rw (h4, h3, h2, h1) (simp append_assoc)
