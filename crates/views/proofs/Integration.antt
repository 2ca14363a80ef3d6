-- An integration keeps the views sound.
use Rattle.std.proofs.Common.{◌≡◌, ◌≤◌, ◌<◌, ◌+◌, ◌%◌, Bool, true, false, cond, if◌then◌else◌, List, []}
use Rattle.std.proofs.Common.{◌∷◌, length, refl, sym, ap, subst, ◌∙◌, arith, Option, None, Some, nat_lt}
use Rattle.std.specs.Option.{option_map_or}
use Rattle.std.specs.Prelude.{find, fold}
use Rattle.std.proofs.lemmas.Bool.Decides.{nat_tests}
use Rattle.std.proofs.lemmas.List.Edits.{length-remove}
use Rattle.std.proofs.lemmas.Map.Made.{length-remove_key}
use Rattle.node_names.specs.NodeName.{Name}
use Rattle.node_names.specs.Same.{same_name, has_name}
use Rattle.node_names.specs.declared.dice.Dice.{Dice}
use Rattle.views.specs.Names.{word, without_chosen}
use Rattle.views.specs.Views.{Views, AreSound, Integration, knows, forget_passive, put_passive, clear_place, integrate_one, integrate}
use Rattle.views.proofs.Lists.{or_both, lacks-remove_key, lacks-remove, IsDistinct-remove, shorter-remove}
use Rattle.views.proofs.Sound.{sound-fewer_passive, sound-forget_passive, sound-put_passive, unknown_is_other, unknown_not_active, unknown_not_passive}

-- what `find` gives passes the test
find_passes : {K : Type 0} (test : K → Bool) (ks : List K) (k : K) → find test ks ≡ Some k → test k ≡ true
find_passes test [] k e = cc
find_passes test (x ∷ xs) k e = by (test x) refl e (find_passes test xs k)
  where
    by : (b : Bool) → test x ≡ b → cond b (Some x) (find test xs) ≡ Some k → (find test xs ≡ Some k → test k ≡ true) → test k ≡ true
    by true is same rest = let inside : x ≡ k = cc in ap test (sym inside) ∙ is
    by false is later rest = rest later

module _ (sent : List Name) (dice : Dice) (i : Integration) where
  abbrev at_random : Integration
  at_random = record { views = record i.views { passive = without_chosen (word dice (12 + i.evictions % 4)) i.views.passive }; evictions = i.evictions + 1 }

  abbrev cleared : Option Name → Integration
  cleared o = option_map_or (λ gone. record i { views = forget_passive gone i.views }) o at_random

  sound-clear_place : AreSound i.views → AreSound (clear_place sent dice i).views
  sound-clear_place sound = by (find (has_name i.views.passive) sent)
    where
      by : (o : Option Name) → AreSound (cleared o).views
      by (Some gone) = sound-forget_passive i.views sound gone
      by None =
          sound-fewer_passive i.views sound at_random.views.passive
          (shorter-remove i.views.passive (word dice (12 + i.evictions % 4) % length i.views.passive))
          (IsDistinct-remove same_name i.views.passive (word dice (12 + i.evictions % 4) % length i.views.passive) sound.passive_distinct)
          (λ q. lacks-remove (same_name q) i.views.passive (word dice (12 + i.evictions % 4) % length i.views.passive))

  -- no name becomes passive
  pub lacks-clear_place : (q : Name) → has_name i.views.passive q ≡ false → has_name (clear_place sent dice i).views.passive q ≡ false
  lacks-clear_place q lacks = by (find (has_name i.views.passive) sent)
    where
      by : (o : Option Name) → has_name (cleared o).views.passive q ≡ false
      by (Some gone) = lacks-remove_key (same_name q) (same_name gone) i.views.passive lacks
      by None = lacks-remove (same_name q) i.views.passive (word dice (12 + i.evictions % 4) % length i.views.passive) lacks

  -- nothing else changes
  pub same-clear_place : (clear_place sent dice i).views ≡ record i.views { passive = (clear_place sent dice i).views.passive }
  same-clear_place = by (find (has_name i.views.passive) sent)
    where
      by : (o : Option Name) → (cleared o).views ≡ record i.views { passive = (cleared o).views.passive }
      by (Some gone) = refl
      by None = refl

  -- and one leaves, where there is one
  shorter-clear_place : 0 < length i.views.passive → length (clear_place sent dice i).views.passive + 1 ≡ length i.views.passive
  shorter-clear_place some = by (find (has_name i.views.passive) sent) refl
    where
      by : (o : Option Name) → find (has_name i.views.passive) sent ≡ o → length (cleared o).views.passive + 1 ≡ length i.views.passive
      by (Some gone) is = length-remove_key (same_name gone) i.views.passive (find_passes (has_name i.views.passive) sent gone is)
      by None is = length-remove i.views.passive (word dice (12 + i.evictions % 4) % length i.views.passive) (omega arith)

  abbrev roomy : Bool → Integration
  roomy b = if b then i else clear_place sent dice i

  -- the name that comes has room, and is still unknown
  placed : AreSound i.views →
      (name : Name) →
      knows i.views name ≡ false →
      (b : Bool) →
      nat_lt (length i.views.passive) i.views.limits.passive ≡ b →
      AreSound (put_passive name (roomy b).views)
  placed sound name new true is = sound-put_passive i.views sound name new (grind (arith, nat_tests, is))
  placed sound name new false is =
      let full : i.views.limits.passive ≤ length i.views.passive = grind (arith, nat_tests, is) in
      let few = shorter-clear_place (omega (arith, sound.allowed.passive_from)) in
      let left = (clear_place sent dice i).views.passive in
      subst (λ (v : Views). AreSound (put_passive name v)) (sym same-clear_place)
      (sound-put_passive (record i.views { passive = left }) (subst AreSound same-clear_place (sound-clear_place sound)) name
      (or_both (same_name name i.views.owner) _ (unknown_is_other i.views name new)
      (or_both (has_name i.views.active name) _ (unknown_not_active i.views name new) (lacks-clear_place name (unknown_not_passive i.views name new))))
      (omega (arith, few, sound.passive_within, full)))

  sound-integrate_one : (name : Name) → AreSound i.views → AreSound (integrate_one sent dice i name).views
  sound-integrate_one name sound = by (knows i.views name) refl
    where
      by : (b : Bool) →
          knows i.views name ≡ b →
          AreSound (if b
          then i
          else (let room = roomy (nat_lt (length i.views.passive) i.views.limits.passive) in record room { views = put_passive name room.views })).views
      by true known = sound
      by false new = placed sound name new (nat_lt (length i.views.passive) i.views.limits.passive) refl

sound-all : (sent : List Name) (dice : Dice) (i : Integration) (names : List Name) → AreSound i.views → AreSound (fold (integrate_one sent dice) i names).views
sound-all sent dice i [] sound = sound
sound-all sent dice i (name ∷ names) sound = sound-all sent dice (integrate_one sent dice i name) names (sound-integrate_one sent dice i name sound)

pub sound-integrate : (names sent : List Name) (dice : Dice) (v : Views) → AreSound v → AreSound (integrate names sent dice v)
sound-integrate names sent dice v sound = sound-all sent dice (record { views = v; evictions = 0 }) names sound
