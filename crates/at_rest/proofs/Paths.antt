-- Paths, one link longer at their end.
use Rattle.std.proofs.Common.{◌≡◌, ◌∙◌, ◌<◌, ◌≤◌, ℕ, zero, suc, List, true, false, sym, ap, refl, subst, inl, inr, arith}
use Rattle.std.specs.Prelude.{◌⊎◌, ◌↔◌, Bool}
use Rattle.std.proofs.lemmas.Bool.{false≢true}
use Rattle.node_names.specs.NodeName.{Name}
use Rattle.node_names.specs.Same.{has_name}
use Rattle.protocol.specs.CoreState.{CoreState}
use Rattle.world.specs.Group.{Group}
use Rattle.world.specs.Links.{IsRunning, Linked, Path}
use Rattle.at_rest.specs.Reach.{IsDistance}

-- a number that is not greater is less or the same
less_or_same : (m k : ℕ) → m ≤ k → (m < k) ⊎ (m ≡ k)
less_or_same zero zero within = inr refl
less_or_same zero (suc k) within = inl (omega arith)
less_or_same (suc m) zero within = absurd (omega arith)
less_or_same (suc m) (suc k) within =
    elim (less_or_same m k (omega arith)) [ inl less ↦ inl (omega arith) | inr same ↦ inr (ap suc same) ]

module _ {C N : Type 0} (state : C → CoreState) (group : Group C N) where
  -- a path with one more link at its end
  pub longer : (n : ℕ) (from mid end : Name) → Path state group n from mid → Linked state group mid end → Path state group (suc n) from end
  longer zero from mid end path link = (end, subst (λ name. Linked state group name end) (sym path.0) link, (refl, link.3))
  longer (suc n) from mid end path link = (path.0, path.1, longer n path.0 mid end path.2 link)

  -- the last link of a path
  pub last_link : (n : ℕ) (from end : Name) → Path state group (suc n) from end → (mid : Name) × Path state group n from mid × Linked state group mid end
  last_link zero from end path = (from, (refl, (path.1.0, path.1.1)), subst (λ name. Linked state group from name) path.2.0 path.1)
  last_link (suc n) from end path = let rest = last_link n path.0 end path.2 in (rest.0, (path.0, path.1, rest.1), rest.2)

  -- the end of a path runs
  pub end_runs : (n : ℕ) (from end : Name) → Path state group n from end → IsRunning group end
  end_runs zero from end path = subst (λ name. IsRunning group name) path.0 path.1
  end_runs (suc n) from end path = end_runs n path.0 end path.2

  -- The names reached so far are those nearer than `k` links, and the level has those at that distance.
  pub record IsFront (from : Name) (k : ℕ) (reached level : List Name) : Type 0 where
    pub near : (end : Name) → (has_name reached end ≡ true) ↔ ((m : ℕ) × (m < k) × Path state group m from end)
    pub at : (end : Name) → (has_name level end ≡ true) ↔ IsDistance state group from k end

  module _ (from : Name) (k : ℕ) (reached level : List Name) (front : IsFront from k reached level) where
    -- a name that is no farther than the level is reached or in it
    pub covered : (m : ℕ) (end : Name) → m ≤ k → Path state group m from end → (has_name reached end ≡ true) ⊎ (has_name level end ≡ true)
    covered m end within path = go (has_name reached end) refl
      where
        go : (b : Bool) → has_name reached end ≡ b → (has_name reached end ≡ true) ⊎ (has_name level end ≡ true)
        go true is = inl is
        go false is =
            let none : (j : ℕ) → j < k → Path state group j from end → ⊥ = λ j less nearer. false≢true (sym is ∙ (front.near end).1 (j, less, nearer)) in
            elim (less_or_same m k within) [
              | inl less ↦ absurd (none m less path)
              | inr same ↦ inr ((front.at end).1 (record { path = subst (λ j. Path state group j from end) same path; shortest = none }))
            ]

    -- so if the level is empty, all are reached
    pub all_reached : ((end : Name) → has_name level end ≡ true → ⊥) → (n : ℕ) (end : Name) → Path state group n from end → has_name reached end ≡ true
    all_reached empty zero end path = elim (covered zero end (omega arith) path) [ inl is ↦ is | inr in_level ↦ absurd (empty end in_level) ]
    all_reached empty (suc n) end path =
        let last = last_link n from end path in
        let before = (front.near last.0).0 (all_reached empty n last.0 last.1) in
        let within : suc before.0 ≤ k = (let less : before.0 < k = before.1 in omega arith) in
        elim (covered (suc before.0) end within (longer before.0 from last.0 end before.2 last.2)) [ inl is ↦ is | inr in_level ↦ absurd (empty end in_level) ]
