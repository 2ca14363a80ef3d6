-- Each change of the views keeps them sound.
use Rattle.std.proofs.Common.{◌≡◌, ◌≤◌, ◌<◌, ◌+◌, ◌%◌, ℕ, Bool, true, false, if◌then◌else◌, inl, inr, List, [], ◌∷◌, ◌++◌}
use Rattle.std.proofs.Common.{length, length-append, refl, sym, ap, subst, ◌∙◌, true≢false, arith, Option, None, Some, nat_lt}
use Rattle.std.specs.Option.{option_map_or}
use Rattle.std.specs.List.{IsDistinct}
use Rattle.std.proofs.lemmas.Bool.Decides.{nat_tests}
use Rattle.std.proofs.lemmas.List.Edits.{length-remove}
use Rattle.std.proofs.lemmas.Option.{slice_get_cases}
use Rattle.std.proofs.lemmas.Map.Keys.{IsDistinct-push, any_passes_from_place}
use Rattle.std.proofs.lemmas.Map.Made.{length-remove_key}
use Rattle.std.proofs.lemmas.Map.Steps.{list_any_congr}
use Rattle.node_names.specs.NodeName.{Name}
use Rattle.node_names.specs.Limits.{Limits}
use Rattle.node_names.specs.Same.{same_name, has_name, same_name-laws}
use Rattle.node_names.specs.declared.dice.Dice.{Dice}
use Rattle.views.specs.Names.{word, chosen, without, without_chosen, with_room}
use Rattle.views.specs.Views.{Views, AreSound, knows, has_room, add_passive, demote, drop_active, make_room}
use Rattle.views.specs.Views.{is_settled, forget_passive, put_active, put_passive, add_active, forget}
use Rattle.views.proofs.Lists.{or_left, or_right, or_both, true_of_whole, lacks-remove_key, lacks-remove, lacks-push, has-push}
use Rattle.views.proofs.Lists.{IsDistinct-remove_key, IsDistinct-remove, length-remove_key-le, lacks-removed, shorter-remove}

-- ---- a name leaves a view

module _ (v : Views) (sound : AreSound v) where
  -- fewer names in the active view
  pub sound-fewer_active : (names : List Name) →
      length names ≤ length v.active →
      IsDistinct same_name names →
      ((q : Name) → has_name v.active q ≡ false → has_name names q ≡ false) →
      AreSound (record v { active = names })
  sound-fewer_active names short distinct fewer =
      record {
        allowed = sound.allowed;
        active_within = omega (arith, sound.active_within);
        passive_within = sound.passive_within;
        active_distinct = distinct;
        passive_distinct = sound.passive_distinct;
        active_of_others = fewer v.owner sound.active_of_others;
        passive_of_others = sound.passive_of_others;
        disjoint = λ name there. sound.disjoint name (true_of_whole (has_name names name) (has_name v.active name) (fewer name) there);
      }

  -- fewer names in the passive view
  pub sound-fewer_passive : (names : List Name) →
      length names ≤ length v.passive →
      IsDistinct same_name names →
      ((q : Name) → has_name v.passive q ≡ false → has_name names q ≡ false) →
      AreSound (record v { passive = names })
  sound-fewer_passive names short distinct fewer =
      record {
        allowed = sound.allowed;
        active_within = sound.active_within;
        passive_within = omega (arith, sound.passive_within);
        active_distinct = sound.active_distinct;
        passive_distinct = distinct;
        active_of_others = sound.active_of_others;
        passive_of_others = fewer v.owner sound.passive_of_others;
        disjoint = λ name there. fewer name (sound.disjoint name there);
      }

  pub sound-leave_active : (name : Name) → AreSound (record v { active = without name v.active })
  sound-leave_active name =
      sound-fewer_active (without name v.active) (length-remove_key-le (same_name name) v.active)
      (IsDistinct-remove_key same_name (same_name name) v.active sound.active_distinct) (λ q. lacks-remove_key (same_name q) (same_name name) v.active)

  pub sound-forget_passive : (name : Name) → AreSound (forget_passive name v)
  sound-forget_passive name =
      sound-fewer_passive (without name v.passive) (length-remove_key-le (same_name name) v.passive)
      (IsDistinct-remove_key same_name (same_name name) v.passive sound.passive_distinct) (λ q. lacks-remove_key (same_name q) (same_name name) v.passive)

-- ---- a name comes into a view

-- a name that the views do not know is another than the owner, and neither active nor passive
pub unknown_is_other : (v : Views) (name : Name) → knows v name ≡ false → same_name name v.owner ≡ false
unknown_is_other v name h = or_left (same_name name v.owner) _ h

pub unknown_not_active : (v : Views) (name : Name) → knows v name ≡ false → has_name v.active name ≡ false
unknown_not_active v name h = or_left (has_name v.active name) _ (or_right (same_name name v.owner) _ h)

pub unknown_not_passive : (v : Views) (name : Name) → knows v name ≡ false → has_name v.passive name ≡ false
unknown_not_passive v name h = or_right (has_name v.active name) _ (or_right (same_name name v.owner) _ h)

-- names that are alike are in the same lists
like : (names : List Name) (a b : Name) → same_name a b ≡ true → has_name names a ≡ has_name names b
like names a b same = list_any_congr same_name-laws a b names same

-- so a list that has one and lacks the other tells them apart
pub apart : (names : List Name) (a b : Name) → has_name names a ≡ false → has_name names b ≡ true → same_name a b ≡ false
apart names a b lacks has = by (same_name a b) refl
  where
    by : (x : Bool) → same_name a b ≡ x → x ≡ false
    by true same = absurd (true≢false (sym has ∙ sym (like names a b same) ∙ lacks))
    by false same = refl

module _ (v : Views) (sound : AreSound v) (name : Name) (new : knows v name ≡ false) where
  pub sound-put_passive : length v.passive < v.limits.passive → AreSound (put_passive name v)
  sound-put_passive room =
      record {
        allowed = sound.allowed;
        active_within = sound.active_within;
        passive_within = omega (arith, length-append v.passive (name ∷ []));
        active_distinct = sound.active_distinct;
        passive_distinct = IsDistinct-push same_name-laws v.passive name sound.passive_distinct (unknown_not_passive v name new);
        active_of_others = sound.active_of_others;
        passive_of_others =
            lacks-push (same_name v.owner) v.passive name sound.passive_of_others (same_name-laws.symm v.owner name ∙ unknown_is_other v name new);
        disjoint =
            λ q there. lacks-push (same_name q) v.passive name (sound.disjoint q there)
            (same_name-laws.symm q name ∙ apart v.active name q (unknown_not_active v name new) there);
      }

  pub sound-put_active : length v.active < v.limits.active → AreSound (put_active name v)
  sound-put_active room =
      record {
        allowed = sound.allowed;
        active_within = omega (arith, length-append v.active (name ∷ []));
        passive_within = sound.passive_within;
        active_distinct = IsDistinct-push same_name-laws v.active name sound.active_distinct (unknown_not_active v name new);
        passive_distinct = sound.passive_distinct;
        active_of_others = lacks-push (same_name v.owner) v.active name sound.active_of_others (same_name-laws.symm v.owner name ∙ unknown_is_other v name new);
        passive_of_others = sound.passive_of_others;
        disjoint =
            λ q there. elim (has-push (same_name q) v.active name there) [
              | inl was ↦ sound.disjoint q was
              | inr same ↦ like v.passive q name same ∙ unknown_not_passive v name new
            ];
      }

-- ---- a place is made free

module _ (places w : ℕ) (names : List Name) where
  -- fewer names are left
  pub room-shorter : length (with_room places w names) ≤ length names
  room-shorter = by (nat_lt (length names) places)
    where
      by : (b : Bool) → length (if b then names else without_chosen w names) ≤ length names
      by true = omega arith
      by false = shorter-remove names (w % length names)

  -- and one more has room
  pub room-fits : 1 ≤ places → length names ≤ places → length (with_room places w names) < places
  room-fits some within = by (nat_lt (length names) places) refl
    where
      by : (b : Bool) → nat_lt (length names) places ≡ b → length (if b then names else without_chosen w names) < places
      by true is = grind (arith, nat_tests, is)
      by false is =
          let full : places ≤ length names = grind (arith, nat_tests, is) in
          omega (arith, length-remove names (w % length names) (omega arith))

  pub room-distinct : IsDistinct same_name names → IsDistinct same_name (with_room places w names)
  room-distinct distinct = by (nat_lt (length names) places)
    where
      by : (b : Bool) → IsDistinct same_name (if b then names else without_chosen w names)
      by true = distinct
      by false = IsDistinct-remove same_name names (w % length names) distinct

  pub room-lacks : (q : Name) → has_name names q ≡ false → has_name (with_room places w names) q ≡ false
  room-lacks q lacks = by (nat_lt (length names) places)
    where
      by : (b : Bool) → has_name (if b then names else without_chosen w names) q ≡ false
      by true = lacks
      by false = lacks-remove (same_name q) names (w % length names) lacks

-- ---- add passive

-- a name that the views do not know comes into the passive view
abbrev admitted : Dice → Name → Views → Views
admitted dice name v = record v { passive = with_room v.limits.passive (word dice 3) v.passive ++ name ∷ [] }

module _ (dice : Dice) (name : Name) (v : Views) where
  abbrev roomy : Views
  roomy = record v { passive = with_room v.limits.passive (word dice 3) v.passive }

  -- making room keeps the views sound, and makes no name known
  roomy-sound : AreSound v → AreSound roomy
  roomy-sound sound =
      sound-fewer_passive v sound (with_room v.limits.passive (word dice 3) v.passive)
      (room-shorter v.limits.passive (word dice 3) v.passive)
      (room-distinct v.limits.passive (word dice 3) v.passive sound.passive_distinct)
      (room-lacks v.limits.passive (word dice 3) v.passive)

  roomy-unknown : (q : Name) → knows v q ≡ false → knows roomy q ≡ false
  roomy-unknown q new =
      or_both (same_name q v.owner) _ (unknown_is_other v q new)
      (or_both (has_name v.active q) _ (unknown_not_active v q new) (room-lacks v.limits.passive (word dice 3) v.passive q (unknown_not_passive v q new)))

  pub sound-add_passive : AreSound v → AreSound (add_passive dice name v)
  sound-add_passive sound = by (knows v name) refl
    where
      by : (b : Bool) → knows v name ≡ b → AreSound (if b then v else put_passive name roomy)
      by true known = sound
      by false new =
          sound-put_passive roomy (roomy-sound sound) name (roomy-unknown name new)
          (room-fits v.limits.passive (word dice 3) v.passive sound.allowed.passive_from sound.passive_within)

  -- no other name becomes known
  pub unknown-add_passive : (q : Name) → knows v q ≡ false → same_name q name ≡ false → knows (add_passive dice name v) q ≡ false
  unknown-add_passive q new other = by (knows v name)
    where
      by : (b : Bool) → knows (if b then v else put_passive name roomy) q ≡ false
      by true = new
      by false =
          or_both (same_name q v.owner) _ (unknown_is_other v q new)
          (or_both (has_name v.active q) _ (unknown_not_active v q new)
          (lacks-push (same_name q) roomy.passive name (room-lacks v.limits.passive (word dice 3) v.passive q (unknown_not_passive v q new)) other))

  -- the active view, the owner and the limits stay
  pub active-add_passive : (add_passive dice name v).active ≡ v.active
  active-add_passive = by (knows v name)
    where
      by : (b : Bool) → (if b then v else put_passive name roomy).active ≡ v.active
      by true = refl
      by false = refl

  pub owner-add_passive : (add_passive dice name v).owner ≡ v.owner
  owner-add_passive = by (knows v name)
    where
      by : (b : Bool) → (if b then v else put_passive name roomy).owner ≡ v.owner
      by true = refl
      by false = refl

  pub limits-add_passive : (add_passive dice name v).limits ≡ v.limits
  limits-add_passive = by (knows v name)
    where
      by : (b : Bool) → (if b then v else put_passive name roomy).limits ≡ v.limits
      by true = refl
      by false = refl

-- ---- demote

module _ (dice : Dice) (name : Name) (v : Views) where
  abbrev left : Views
  left = record v { active = without name v.active }

  left-unknown : (q : Name) → knows v q ≡ false → knows left q ≡ false
  left-unknown q new =
      or_both (same_name q v.owner) _ (unknown_is_other v q new)
      (or_both (has_name left.active q) _ (lacks-remove_key (same_name q) (same_name name) v.active (unknown_not_active v q new)) (unknown_not_passive v q new))

  pub sound-demote : AreSound v → AreSound (demote dice name v)
  sound-demote sound = by (has_name v.active name)
    where
      by : (b : Bool) → AreSound (if b then add_passive dice name left else v)
      by true = sound-add_passive dice name left (sound-leave_active v sound name)
      by false = sound

  pub unknown-demote : (q : Name) → knows v q ≡ false → knows (demote dice name v) q ≡ false
  unknown-demote q new = by (has_name v.active name) refl
    where
      by : (b : Bool) → has_name v.active name ≡ b → knows (if b then add_passive dice name left else v) q ≡ false
      by true there = unknown-add_passive dice name left q (left-unknown q new) (apart v.active q name (unknown_not_active v q new) there)
      by false absent = new

  -- nobody comes into the active view
  pub lacks-demote : (q : Name) → has_name v.active q ≡ false → has_name (demote dice name v).active q ≡ false
  lacks-demote q lacks = by (has_name v.active name)
    where
      by : (b : Bool) → has_name (if b then add_passive dice name left else v).active q ≡ false
      by true =
          subst (λ names. has_name names q ≡ false) (sym (active-add_passive dice name left)) (lacks-remove_key (same_name q) (same_name name) v.active lacks)
      by false = lacks

  -- an active name leaves it
  pub shorter-demote : has_name v.active name ≡ true → length (demote dice name v).active + 1 ≡ length v.active
  shorter-demote there = by (has_name v.active name) there
    where
      by : (b : Bool) → b ≡ true → length (if b then add_passive dice name left else v).active + 1 ≡ length v.active
      by true e = ap (λ names. length names + 1) (active-add_passive dice name left) ∙ length-remove_key (same_name name) v.active there
      by false e = absurd (true≢false (sym e))

  pub owner-demote : (demote dice name v).owner ≡ v.owner
  owner-demote = by (has_name v.active name)
    where
      by : (b : Bool) → (if b then add_passive dice name left else v).owner ≡ v.owner
      by true = owner-add_passive dice name left
      by false = refl

  pub limits-demote : (demote dice name v).limits ≡ v.limits
  limits-demote = by (has_name v.active name)
    where
      by : (b : Bool) → (if b then add_passive dice name left else v).limits ≡ v.limits
      by true = limits-add_passive dice name left
      by false = refl

-- ---- drop active, and room in the active view

module _ (dice : Dice) (v : Views) where
  abbrev dropped : Option Name → Views
  dropped o = option_map_or (λ name. demote dice name v) o v

  pub sound-drop_active : AreSound v → AreSound (drop_active dice v)
  sound-drop_active sound = by (chosen (word dice 0) v.active)
    where
      by : (o : Option Name) → AreSound (dropped o)
      by None = sound
      by (Some name) = sound-demote dice name v sound

  pub unknown-drop_active : (q : Name) → knows v q ≡ false → knows (drop_active dice v) q ≡ false
  unknown-drop_active q new = by (chosen (word dice 0) v.active)
    where
      by : (o : Option Name) → knows (dropped o) q ≡ false
      by None = new
      by (Some name) = unknown-demote dice name v q new

  pub lacks-drop_active : (q : Name) → has_name v.active q ≡ false → has_name (drop_active dice v).active q ≡ false
  lacks-drop_active q lacks = by (chosen (word dice 0) v.active)
    where
      by : (o : Option Name) → has_name (dropped o).active q ≡ false
      by None = lacks
      by (Some name) = lacks-demote dice name v q lacks

  pub owner-drop_active : (drop_active dice v).owner ≡ v.owner
  owner-drop_active = by (chosen (word dice 0) v.active)
    where
      by : (o : Option Name) → (dropped o).owner ≡ v.owner
      by None = refl
      by (Some name) = owner-demote dice name v

  pub limits-drop_active : (drop_active dice v).limits ≡ v.limits
  limits-drop_active = by (chosen (word dice 0) v.active)
    where
      by : (o : Option Name) → (dropped o).limits ≡ v.limits
      by None = refl
      by (Some name) = limits-demote dice name v

  -- one leaves, where there is one
  pub shorter-drop_active : 0 < length v.active → length (drop_active dice v).active + 1 ≡ length v.active
  shorter-drop_active some = elim (slice_get_cases v.active (word dice 0 % length v.active)).1 [
    | inl at ↦
        subst (λ o. length (dropped o).active + 1 ≡ length v.active) (sym at.2)
        (shorter-demote dice at.0 v (any_passes_from_place (same_name at.0) v.active (word dice 0 % length v.active) at.0 at.2 (same_name-laws.refl at.0)))
    | inr past ↦ absurd (omega (arith, past.0, some))
  ]

  abbrev with_place : Bool → Views
  with_place b = if b then v else drop_active dice v

  pub sound-make_room : AreSound v → AreSound (make_room dice v)
  sound-make_room sound = by (has_room v)
    where
      by : (b : Bool) → AreSound (with_place b)
      by true = sound
      by false = sound-drop_active sound

  pub unknown-make_room : (q : Name) → knows v q ≡ false → knows (make_room dice v) q ≡ false
  unknown-make_room q new = by (has_room v)
    where
      by : (b : Bool) → knows (with_place b) q ≡ false
      by true = new
      by false = unknown-drop_active q new

  pub lacks-make_room : (q : Name) → has_name v.active q ≡ false → has_name (make_room dice v).active q ≡ false
  lacks-make_room q lacks = by (has_room v)
    where
      by : (b : Bool) → has_name (with_place b).active q ≡ false
      by true = lacks
      by false = lacks-drop_active q lacks

  pub limits-make_room : (make_room dice v).limits ≡ v.limits
  limits-make_room = by (has_room v)
    where
      by : (b : Bool) → (with_place b).limits ≡ v.limits
      by true = refl
      by false = limits-drop_active

  pub owner-make_room : (make_room dice v).owner ≡ v.owner
  owner-make_room = by (has_room v)
    where
      by : (b : Bool) → (with_place b).owner ≡ v.owner
      by true = refl
      by false = owner-drop_active

  -- one more has room then
  pub fits-make_room : AreSound v → length (make_room dice v).active < v.limits.active
  fits-make_room sound = by (has_room v) refl
    where
      by : (b : Bool) → has_room v ≡ b → length (with_place b).active < v.limits.active
      by true is = grind (arith, nat_tests, is)
      by false is =
          let full : v.limits.active ≤ length v.active = grind (arith, nat_tests, is) in
          omega (arith, shorter-drop_active (omega (arith, sound.allowed.active_from)), sound.active_within)

-- ---- add active

module _ (dice : Dice) (name : Name) (v : Views) where
  abbrev forgotten : Views
  forgotten = forget_passive name v

  abbrev added : Bool → Views
  added b = if b then v else put_active name (make_room dice forgotten)

  forgotten-unknown : AreSound v → is_settled v name ≡ false → knows forgotten name ≡ false
  forgotten-unknown sound new =
      or_both (same_name name v.owner) _ (or_left (same_name name v.owner) _ new)
      (or_both (has_name v.active name) _ (or_right (same_name name v.owner) _ new) (lacks-removed same_name-laws name v.passive sound.passive_distinct))

  pub sound-add_active : AreSound v → AreSound (add_active dice name v)
  sound-add_active sound = by (is_settled v name) refl
    where
      by : (b : Bool) → is_settled v name ≡ b → AreSound (added b)
      by true settled = sound
      by false new =
          let kept = sound-forget_passive v sound name in
          sound-put_active (make_room dice forgotten) (sound-make_room dice forgotten kept) name
          (unknown-make_room dice forgotten name (forgotten-unknown sound new))
          (subst (λ (limits : Limits). length (make_room dice forgotten).active < limits.active)
          (sym (limits-make_room dice forgotten)) (fits-make_room dice forgotten kept))

  pub owner-add_active : (add_active dice name v).owner ≡ v.owner
  owner-add_active = by (is_settled v name)
    where
      by : (b : Bool) → (added b).owner ≡ v.owner
      by true = refl
      by false = owner-make_room dice forgotten

  pub limits-add_active : (add_active dice name v).limits ≡ v.limits
  limits-add_active = by (is_settled v name)
    where
      by : (b : Bool) → (added b).limits ≡ v.limits
      by true = refl
      by false = limits-make_room dice forgotten

-- ---- forget

pub sound-forget : (name : Name) (v : Views) → AreSound v → AreSound (forget name v)
sound-forget name v sound = sound-forget_passive (record v { active = without name v.active }) (sound-leave_active v sound name) name
