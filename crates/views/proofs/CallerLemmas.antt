-- Lemmas for callers: what each operation makes of the active view, and what it leaves as it is.
use Rattle.std.proofs.Common.{◌≡◌, ◌≢◌, ◌≤◌, ◌<◌, ◌+◌, ◌%◌, ℕ, suc, Bool, true, false, cond, not, if◌then◌else◌, ◌||◌, List}
use Rattle.std.proofs.Common.{[], ◌∷◌, ◌++◌, length, refl, sym, ap, subst, ◌∙◌, true≢false, arith, Option, None, Some, nat_lt}
use Rattle.std.specs.Option.{option_map_or, option_to_list}
use Rattle.std.specs.Prelude.{fold}
use Rattle.std.specs.List.{IsDistinct, AllByRecursion}
use Rattle.std.proofs.lemmas.Map.Keys.{IsDistinct-head, IsDistinct-tail, any_passes_from_place}
use Rattle.node_names.specs.NodeName.{Name}
use Rattle.node_names.specs.Same.{same_name, has_name, same_name-laws}
use Rattle.node_names.specs.declared.dice.Dice.{Dice}
use Rattle.views.specs.Names.{word, chosen, without, without_chosen, others, evicted, sample}
use Rattle.views.specs.Views.{Views, AreSound, Integration, knows, has_room, is_settled, add_passive, demote, make_room}
use Rattle.views.specs.Views.{forget_passive, put_active, put_passive, add_active, forget, clear_place, integrate_one, integrate}
use Rattle.views.proofs.Lists.{true_of_whole}
pub use Rattle.views.proofs.Sound.{sound-add_passive, sound-demote, sound-add_active, sound-forget, active-add_passive, owner-add_passive}
pub use Rattle.views.proofs.Sound.{limits-add_passive, owner-demote, limits-demote, owner-add_active, limits-add_active}
pub use Rattle.views.proofs.Integration.{sound-integrate}
pub use Rattle.views.proofs.Lists.{or_left, or_right, or_both}
use Rattle.views.proofs.Sound.{sound-forget_passive}
use Rattle.views.proofs.Integration.{same-clear_place}

-- ---- candidates

-- if no name is excepted, all are candidates
pub others-none : (names : List Name) → others [] names ≡ names
others-none [] = refl
others-none (name ∷ names) = ap (λ rest. name ∷ rest) (others-none names)

-- a candidate is one of the names
pub lacks-others : (excepted names : List Name) (q : Name) → has_name names q ≡ false → has_name (others excepted names) q ≡ false
lacks-others excepted [] q lacks = refl
lacks-others excepted (name ∷ names) q lacks = by (not (has_name excepted name)) (lacks-others excepted names q (or_right (same_name q name) _ lacks))
  where
    by : (b : Bool) → has_name (others excepted names) q ≡ false → has_name (cond b (name ∷ others excepted names) (others excepted names)) q ≡ false
    by true rest = or_both (same_name q name) _ (or_left (same_name q name) _ lacks) rest
    by false rest = rest

-- the one that a word chooses is there
pub chosen_is_there : (w : ℕ) (names : List Name) (q : Name) → chosen w names ≡ Some q → has_name names q ≡ true
chosen_is_there w names q is = any_passes_from_place (same_name q) names (w % length names) q is (same_name-laws.refl q)

pub chosen_other_is_there : (w : ℕ) (excepted names : List Name) (q : Name) → chosen w (others excepted names) ≡ Some q → has_name names q ≡ true
chosen_other_is_there w excepted names q is =
    true_of_whole (has_name (others excepted names) q) (has_name names q) (lacks-others excepted names q) (chosen_is_there w (others excepted names) q is)

-- a name that is in a list differs from one that is not
pub is_another : (names : List Name) (q owner : Name) → has_name names q ≡ true → has_name names owner ≡ false → q ≢ owner
is_another names q owner there lacks same = true≢false (sym there ∙ ap (has_name names) same ∙ lacks)

-- ---- one name leaves

-- no name that differs from a name like q is left out with q
all_others : (q name : Name) (names : List Name) →
    same_name q name ≡ true →
    AllByRecursion (λ other. same_name name other ≡ false) names →
    others (q ∷ []) names ≡ names
all_others q name [] same differ = refl
all_others q name (other ∷ names) same differ =
    let apart : has_name (q ∷ []) other ≡ false = ap (λ c. c || false) (same_name-laws.symm other q ∙ same_name-laws.congr q name other same ∙ differ.0) in
    ap (λ c. cond (not c) (other ∷ others (q ∷ []) names) (others (q ∷ []) names)) apart ∙ ap (λ left. other ∷ left) (all_others q name names same differ.1)

-- to leave out one of distinct names is to remove it
pub others-one : (q : Name) (names : List Name) → IsDistinct same_name names → others (q ∷ []) names ≡ without q names
others-one q [] distinct = refl
others-one q (name ∷ names) distinct = by (same_name q name) refl (others-one q names (IsDistinct-tail same_name name names distinct))
  where
    flipped : (b : Bool) → same_name q name ≡ b → has_name (q ∷ []) name ≡ b
    flipped true is = ap (λ c. c || false) (same_name-laws.symm name q ∙ is)
    flipped false is = ap (λ c. c || false) (same_name-laws.symm name q ∙ is)

    by : (b : Bool) →
        same_name q name ≡ b →
        others (q ∷ []) names ≡ without q names →
        cond (not (has_name (q ∷ []) name)) (name ∷ others (q ∷ []) names) (others (q ∷ []) names) ≡ cond b names (name ∷ without q names)
    by true is rest =
        ap (λ c. cond (not c) (name ∷ others (q ∷ []) names) (others (q ∷ []) names)) (flipped true is)
        ∙ all_others q name names is (IsDistinct-head same_name name names distinct)
    by false is rest = ap (λ c. cond (not c) (name ∷ others (q ∷ []) names) (others (q ∷ []) names)) (flipped false is) ∙ ap (λ left. name ∷ left) rest

-- removing a name that is not there changes nothing
pub without-absent : (q : Name) (names : List Name) → has_name names q ≡ false → without q names ≡ names
without-absent q [] lacks = refl
without-absent q (name ∷ names) lacks =
    ap (λ c. cond c names (name ∷ without q names)) (or_left (same_name q name) _ lacks)
    ∙ ap (λ left. name ∷ left) (without-absent q names (or_right (same_name q name) _ lacks))

-- no more are left
shorter-others : (excepted names : List Name) → length (others excepted names) ≤ length names
shorter-others excepted [] = omega arith
shorter-others excepted (name ∷ names) = by (not (has_name excepted name)) (shorter-others excepted names)
  where
    by : (b : Bool) →
        length (others excepted names) ≤ length names →
        length (cond b (name ∷ others excepted names) (others excepted names)) ≤ suc (length names)
    by true rest = omega arith
    by false rest = omega arith

-- removing a name that is there leaves fewer names
pub fewer-others : (q : Name) (names : List Name) → has_name names q ≡ true → length (others (q ∷ []) names) < length names
fewer-others q [] there = absurd (true≢false (sym there))
fewer-others q (name ∷ names) there = by (same_name q name) refl there (fewer-others q names)
  where
    few : (b : Bool) → length (cond b (name ∷ others (q ∷ []) names) (others (q ∷ []) names)) ≤ suc (length (others (q ∷ []) names))
    few true = omega arith
    few false = omega arith

    by : (b : Bool) →
        same_name q name ≡ b →
        (b || has_name names q) ≡ true →
        (has_name names q ≡ true → length (others (q ∷ []) names) < length names) →
        length (cond (not (has_name (q ∷ []) name)) (name ∷ others (q ∷ []) names) (others (q ∷ []) names)) < suc (length names)
    by true is there rest =
        let e : has_name (q ∷ []) name ≡ true = ap (λ c. c || false) (same_name-laws.symm name q ∙ is) in
        subst (λ c. length (cond (not c) (name ∷ others (q ∷ []) names) (others (q ∷ []) names)) < suc (length names))
        (sym e) (omega (arith, shorter-others (q ∷ []) names))
    by false is there rest = omega (arith, few (not (has_name (q ∷ []) name)), rest there)

-- ---- the active view after each change

module _ (dice : Dice) (name : Name) (v : Views) (sound : AreSound v) where
  pub active-demote : has_name v.active name ≡ true → (demote dice name v).active ≡ others (name ∷ []) v.active
  active-demote there = by (has_name v.active name) there
    where
      by : (b : Bool) → b ≡ true → (if b then add_passive dice name (record v { active = without name v.active }) else v).active ≡ others (name ∷ []) v.active
      by true e = active-add_passive dice name (record v { active = without name v.active }) ∙ sym (others-one name v.active sound.active_distinct)
      by false e = absurd (true≢false (sym e))

  pub active-forget : (forget name v).active ≡ others (name ∷ []) v.active
  active-forget = sym (others-one name v.active sound.active_distinct)

  pub active-forget_absent : has_name v.active name ≡ false → (forget name v).active ≡ v.active
  active-forget_absent lacks = without-absent name v.active lacks

-- the name that leaves a full active view leaves it alone
active-make_room : (dice : Dice) (v : Views) →
    AreSound v →
    (make_room dice v).active ≡ others (option_to_list (evicted v.limits.active (word dice 0) v.active)) v.active
active-make_room dice v sound = by (has_room v) (chosen (word dice 0) v.active) refl
  where
    by : (b : Bool) (o : Option Name) →
        chosen (word dice 0) v.active ≡ o →
        (if b then v else option_map_or (λ name. demote dice name v) o v).active ≡ others (option_to_list (if b then None else o)) v.active
    by true o is = sym (others-none v.active)
    by false None is = sym (others-none v.active)
    by false (Some gone) is = active-demote dice gone v sound (chosen_is_there (word dice 0) v.active gone is)

-- a name that comes into the active view comes last, and whoever is dropped for it has left
pub active-add_active : (dice : Dice) (name : Name) (v : Views) →
    AreSound v →
    is_settled v name ≡ false →
    (add_active dice name v).active ≡ others (option_to_list (evicted v.limits.active (word dice 0) v.active)) v.active ++ name ∷ []
active-add_active dice name v sound new =
    ap (λ b. (if b then v else put_active name (make_room dice (forget_passive name v))).active) new
    ∙ ap (λ names. names ++ name ∷ []) (active-make_room dice (forget_passive name v) (sound-forget_passive v sound name))

-- whoever is dropped was active
pub dropped_was_active : (places w : ℕ) (names : List Name) (q : Name) → evicted places w names ≡ Some q → has_name names q ≡ true
dropped_was_active places w names q is = by (nat_lt (length names) places) is
  where
    by : (b : Bool) → (if b then None else chosen w names) ≡ Some q → has_name names q ≡ true
    by true e = cc
    by false e = chosen_is_there w names q e

-- ---- an integration changes the passive view alone

-- The owner, the limits and the active view stay.
pub record SameButPassive (v w : Views) : Type 0 where
  pub owner : w.owner ≡ v.owner
  pub limits : w.limits ≡ v.limits
  pub active : w.active ≡ v.active

one-same : (sent : List Name) (dice : Dice) (i : Integration) (name : Name) → SameButPassive i.views (integrate_one sent dice i name).views
one-same sent dice i name = by (knows i.views name)
  where
    same : (b : Bool) → SameButPassive i.views (put_passive name (if b then i else clear_place sent dice i).views)
    same true = record { owner = refl; limits = refl; active = refl }
    same false = record {
      owner = ap (λ (v : Views). v.owner) (same-clear_place sent dice i);
      limits = ap (λ (v : Views). v.limits) (same-clear_place sent dice i);
      active = ap (λ (v : Views). v.active) (same-clear_place sent dice i);
    }

    by : (b : Bool) →
        SameButPassive i.views (if b then i else (let room = if nat_lt (length i.views.passive) i.views.limits.passive then i else clear_place sent dice i in
        record room { views = put_passive name room.views })).views
    by true = record { owner = refl; limits = refl; active = refl }
    by false = same (nat_lt (length i.views.passive) i.views.limits.passive)

all-same : (sent : List Name) (dice : Dice) (i : Integration) (names : List Name) → SameButPassive i.views (fold (integrate_one sent dice) i names).views
all-same sent dice i [] = record { owner = refl; limits = refl; active = refl }
all-same sent dice i (name ∷ names) =
    let one = one-same sent dice i name in
    let rest = all-same sent dice (integrate_one sent dice i name) names in
    record { owner = rest.owner ∙ one.owner; limits = rest.limits ∙ one.limits; active = rest.active ∙ one.active }

pub same-integrate : (names sent : List Name) (dice : Dice) (v : Views) → SameButPassive v (integrate names sent dice v)
same-integrate names sent dice v = all-same sent dice (record { views = v; evictions = 0 }) names

-- ---- samples

-- a sample has no more names than words
pub length-sample : (ws : List ℕ) (candidates : List Name) → length (sample ws candidates) ≤ length ws
length-sample [] candidates = omega arith
length-sample (w ∷ ws) candidates = by (chosen w candidates) (length-sample ws (without_chosen w candidates))
  where
    by : (o : Option Name) →
        length (sample ws (without_chosen w candidates)) ≤ length ws →
        length (option_to_list o ++ sample ws (without_chosen w candidates)) ≤ suc (length ws)
    by None rest = omega arith
    by (Some name) rest = omega arith
