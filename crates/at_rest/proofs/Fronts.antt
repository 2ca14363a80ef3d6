-- The front of the names in reach, one level farther.
use Rattle.std.proofs.Common.{◌≡◌, ◌∙◌, ◌<◌, ◌≤◌, ℕ, suc, List, ◌++◌, true, false, sym, ap, refl, inl, inr, arith}
use Rattle.std.specs.List.{list_any}
use Rattle.std.specs.Prelude.{◌⊎◌, ◌↔◌, ◌&&◌, ◌||◌, Bool, Option, Some, None, is_some, not}
use Rattle.std.proofs.lemmas.Bool.{false≢true}
use Rattle.std.proofs.lemmas.List.Folds.{list_any-append}
use Rattle.node_names.specs.NodeName.{Name}
use Rattle.node_names.specs.Same.{has_name, same_name}
use Rattle.protocol.specs.CoreState.{CoreState}
use Rattle.world.specs.Group.{Group, core_of}
use Rattle.world.specs.Links.{IsRunning, Path}
use Rattle.at_rest.specs.Linking.{has_link, is_new, runs}
use Rattle.at_rest.specs.Reach.{IsDistance}
use Rattle.at_rest.proofs.Linkings.{has_one, is_link, link_is, one_has}
use Rattle.at_rest.proofs.Lists.{any_passes, both_hold, fails, first_holds, not_false, not_holds, one_passes, second_holds}
use Rattle.at_rest.proofs.Nodes.{core_runs, runs_core}
use Rattle.at_rest.proofs.Paths.{IsFront, covered, end_runs, last_link, longer}

-- two lists together have what either has
pub has_either : (xs ys : List Name) (name : Name) → has_name (xs ++ ys) name ≡ true → (has_name xs name ≡ true) ⊎ (has_name ys name ≡ true)
has_either xs ys name h = go (has_name xs name) refl (sym (list_any-append (same_name name) xs ys) ∙ h)
  where
    go : (b : Bool) → has_name xs name ≡ b → (b || has_name ys name) ≡ true → (has_name xs name ≡ true) ⊎ (has_name ys name ≡ true)
    go true is some = inl is
    go false is some = inr some

pub has_left : (xs ys : List Name) (name : Name) → has_name xs name ≡ true → has_name (xs ++ ys) name ≡ true
has_left xs ys name h = list_any-append (same_name name) xs ys ∙ ap (λ b. b || has_name ys name) h

pub has_right : (xs ys : List Name) (name : Name) → has_name ys name ≡ true → has_name (xs ++ ys) name ≡ true
has_right xs ys name h = list_any-append (same_name name) xs ys ∙ go (has_name xs name)
  where
    go : (b : Bool) → (b || has_name ys name) ≡ true
    go true = refl
    go false = h

module _ {C N : Type 0} (state : C → CoreState) (group : Group C N) where
  -- the test of running tells whether the name runs
  pub running_is : (name : Name) → runs state group.nodes name ≡ true → IsRunning group name
  running_is name h = go (core_of name group.nodes) refl h
    where
      go : (o : Option C) → core_of name group.nodes ≡ o → is_some o ≡ true → IsRunning group name
      go None e none = absurd (false≢true none)
      go (Some core) e some = (core, core_runs group name core e)

  pub is_running : (name : Name) → IsRunning group name → runs state group.nodes name ≡ true
  is_running name running = ap is_some (runs_core group name running.0 running.1)

  module _ (from : Name) (k : ℕ) (reached level next : List Name) (front : IsFront state group from k reached level) (is : (end : Name) →
      has_name next end ≡ (is_new state group.nodes (reached ++ level) end && list_any (λ member. has_link state group.nodes member end) level)) where
    -- the names reached then are those nearer than one link more
    near_then : (end : Name) → (has_name (reached ++ level) end ≡ true) ↔ ((m : ℕ) × (m < suc k) × Path state group m from end)
    near_then end = (
      (λ h. elim (has_either reached level end h) [
        | inl in_reached ↦ (let before = (front.near end).0 in_reached in (before.0, (let less : before.0 < k = before.1 in omega arith), before.2))
        | inr in_level ↦ (k, omega arith, ((front.at end).0 in_level).path)
      ]),
      (λ path.
          let within : path.0 ≤ k = (let less : path.0 < suc k = path.1 in omega arith) in
          elim (covered state group from k reached level front path.0 end within path.2) [
            | inl in_reached ↦ has_left reached level end in_reached
            | inr in_level ↦ has_right reached level end in_level
          ]),
    )

    -- and the next level has those at that distance
    at_then : (end : Name) → (has_name next end ≡ true) ↔ IsDistance state group from (suc k) end
    at_then end = (
      (λ h.
          let test : (is_new state group.nodes (reached ++ level) end && list_any (λ member. has_link state group.nodes member end) level) ≡ true =
          sym (is end) ∙ h in
          let new : is_new state group.nodes (reached ++ level) end ≡ true = first_holds (is_new state group.nodes (reached ++ level) end) _ test in
          let running : IsRunning group end = running_is end (first_holds (runs state group.nodes end) _ new) in
          let unreached : not (has_name (reached ++ level) end) ≡ true = second_holds (runs state group.nodes end) _ new in
          let found =
          one_passes (λ member. has_link state group.nodes member end) level (second_holds (is_new state group.nodes (reached ++ level) end) _ test) in
          let link = link_is state group found.0 end found.2 in
          let mid : IsDistance state group from k found.0 = (front.at found.0).0 (one_has level found.0 found.1) in
          record {
            path = longer state group k from found.0 end mid.path (link.0, link.1, link.2, running);
            shortest = λ m less path.
                let within : m ≤ k = omega arith in
                elim (covered state group from k reached level front m end within path) [
                  | inl in_reached ↦ not_holds (has_name (reached ++ level) end) unreached (has_left reached level end in_reached)
                  | inr in_level ↦ not_holds (has_name (reached ++ level) end) unreached (has_right reached level end in_level)
                ];
          }),
      (λ distance.
          let last = last_link state group k from end distance.path in
          let at_mid : has_name level last.0 ≡ true =
          elim (covered state group from k reached level front k last.0 (omega arith) last.1) [
            | inl in_reached ↦
                (let before = (front.near last.0).0 in_reached in
                absurd (distance.shortest (suc before.0) (let less : before.0 < k = before.1 in omega arith)
                (longer state group before.0 from last.0 end before.2 last.2)))
            | inr in_level ↦ in_level
          ] in
          let unreached : not (has_name (reached ++ level) end) ≡ true =
          not_false (has_name (reached ++ level) end) (fails (has_name (reached ++ level) end) (λ h. elim (has_either reached level end h) [
            | inl in_reached ↦
                (let before = (front.near end).0 in_reached in distance.shortest before.0 (let less : before.0 < k = before.1 in omega arith) before.2)
            | inr in_level ↦ distance.shortest k (omega arith) ((front.at end).0 in_level).path
          ])) in
          let linked : list_any (λ member. has_link state group.nodes member end) level ≡ true =
          any_passes (λ member. has_link state group.nodes member end) level last.0
          (has_one level last.0 at_mid) (is_link state group last.0 end (last.2.0, last.2.1, last.2.2)) in
          is end
          ∙ both_hold (is_new state group.nodes (reached ++ level) end) _
          (both_hold (runs state group.nodes end) _ (is_running end (end_runs state group (suc k) from end distance.path)) unreached) linked),
    )

    -- so the front goes one level on
    pub goes_on : IsFront state group from (suc k) (reached ++ level) next
    goes_on = record { near = near_then; at = at_then }
