-- Ranks have the order of what they are ranks of.
use Rattle.std.proofs.Common.{◌≡◌, ◌∙◌, ◌+◌, ◌<◌, ◌≤◌, ℕ, Bool, true, false, List, [], ◌∷◌, ◌++◌, Some, None, get_or}
use Rattle.std.proofs.Common.{length, take, nat_lt, ap, sym, refl, subst, arith, if◌then◌else◌, All, Contains}
use Rattle.std.specs.Cmp.{IsTotalOrder}
use Rattle.std.specs.List.{list_any, position_or_len}
use Rattle.std.specs.List.Sorted.{IsSortedBy}
use Rattle.std.specs.Option.{unwrap_or}
use Rattle.std.specs.Ordering.{is_lt, nat_cmp}
use Rattle.std.specs.declared.cmp.Ordering.{Ordering}
use Rattle.std.proofs.lemmas.List.Elements.{All-more, All-weaker, Contains-append_left}
use Rattle.std.proofs.lemmas.List.Sorted.{ranks_by, sorted_far}
use Rattle.std.proofs.lemmas.List.Sums.{fails_before_first, passes_at_first}
use Rattle.indexmap.specs.IndexSet.{insert_key}
use Rattle.indexmap.proofs.CallerLemmas.{Contains-insert_key}
use Rattle.simulation.specs.Ranks.{rank_in}

module _ {K : Type 0} (eq : K → K → Bool) (same : (x y : K) → eq x y ≡ true → x ≡ y) where
  -- an insertion keeps what was there
  pub Contains-insert_other : (ks : List K) (k x : K) → Contains ks x → Contains (insert_key eq ks k) x
  Contains-insert_other ks k x has = by (list_any (eq k) ks) refl
    where
      by : (b : Bool) → list_any (eq k) ks ≡ b → Contains (insert_key eq ks k) x
      by true e = subst (λ l. Contains l x) (sym (ap (λ c. if c then ks else ks ++ k ∷ []) e)) has
      by false e = subst (λ l. Contains l x) (sym (ap (λ c. if c then ks else ks ++ k ∷ []) e)) (Contains-append_left ks (k ∷ []) x has)

  -- the value of one item more
  pub all_inserted-more : {D : Type 0} (value : D → K) (ds : List D) (i : ℕ) (d : D) (ks : List K) →
      i < length ds →
      d ≡ get_or ds i d →
      All (λ e. Contains ks (value e)) (take i ds) →
      All (λ e. Contains (insert_key eq ks (value d)) (value e)) (take (i + 1) ds)
  all_inserted-more {D} value ds i d ks within is all =
      let Has : D → Type 0 = λ e. Contains (insert_key eq ks (value d)) (value e) in
      All-more Has ds i d within
      (All-weaker (λ (e : D). Contains ks (value e)) Has (λ e has. Contains-insert_other ks (value d) (value e) has) (take i ds) all)
      (subst Has is (Contains-insert_key eq same ks (value d)))

module _ {K : Type 0} (eq : K → K → Bool) (same : (x y : K) → eq x y ≡ true → x ≡ y) (itself : (x : K) → eq x x ≡ true) where
  first_is_within : (ks : List K) (x : K) → Contains ks x → nat_lt (position_or_len (eq x) ks) (length ks) ≡ true
  first_is_within ks x (k, within, is) = by (nat_lt (position_or_len (eq x) ks) (length ks)) refl
    where
      by : (b : Bool) → nat_lt (position_or_len (eq x) ks) (length ks) ≡ b → nat_lt (position_or_len (eq x) ks) (length ks) ≡ true
      by true e = e
      by false e =
          let before : k < position_or_len (eq x) ks = grind arith in
          let fails : eq x (get_or ks k x) ≡ false = fails_before_first (eq x) ks k x before in
          absurd (cc (fails, is, itself x))

  -- a value that is there has its first place as its rank
  rank-first : (ks : List K) (x : K) → Contains ks x → rank_in eq ks x ≡ position_or_len (eq x) ks
  rank-first ks x has = ap (λ (b : Bool). unwrap_or (if b then Some (position_or_len (eq x) ks) else None) 0) (first_is_within ks x has)

  below_length : (ks : List K) (x : K) → Contains ks x → position_or_len (eq x) ks < length ks
  below_length ks x has = let below = first_is_within ks x has in grind arith

  rank-within : (ks : List K) (x : K) → Contains ks x → rank_in eq ks x < length ks
  rank-within ks x has = rw (rank-first ks x has) (below_length ks x has)

  -- and stands there
  rank-at : (ks : List K) (x d : K) → Contains ks x → get_or ks (rank_in eq ks x) d ≡ x
  rank-at ks x d has = ap (λ (i : ℕ). get_or ks i d) (rank-first ks x has) ∙ sym (same x _ (passes_at_first (eq x) ks d (below_length ks x has)))

  not_lower : (m n : ℕ) → is_lt (nat_cmp m n) ≡ false → n ≤ m
  not_lower m n e = grind arith

  -- what has no lower rank is no less
  pub rank-lower : (cmp : K → K → Ordering) →
      IsTotalOrder cmp →
      (ks : List K) (x y : K) →
      IsSortedBy (λ a b. is_lt (cmp a b)) ks →
      Contains ks x →
      Contains ks y →
      is_lt (nat_cmp (rank_in eq ks x) (rank_in eq ks y)) ≡ false →
      is_lt (cmp x y) ≡ false
  rank-lower cmp total ks x y sorted has_x has_y higher =
      let order = not_lower _ _ higher in
      let far =
      sorted_far (λ a b. is_lt (cmp a b)) (ranks_by total (λ (a : K). a)) ks sorted (rank_in eq ks y) (rank_in eq ks x) x order (rank-within ks x has_x) in
      sym (ap (λ (a : K). is_lt (cmp a (get_or ks (rank_in eq ks y) x))) (rank-at ks x x has_x) ∙ ap (λ (b : K). is_lt (cmp x b)) (rank-at ks y x has_y)) ∙ far
