-- Every row of the table keeps the laws.
use Rattle.std.proofs.Common.{◌≡◌, ◌≢◌, ◌≤◌, Bool, true, false, if◌then◌else◌, ◌&&◌, List, [], ◌∷◌, ◌++◌, length}
use Rattle.std.proofs.Common.{map, refl, sym, ap, subst, ◌∙◌, true≢false, arith, Option, None, Some, is_none}
use Rattle.std.specs.Option.{option_map_or, option_to_list}
use Rattle.std.specs.List.{AllByRecursion as Each}
use Rattle.node_names.specs.NodeName.{Name}
use Rattle.node_names.specs.Same.{same_name, has_name, same_name-laws}
use Rattle.node_names.specs.declared.dice.Dice.{Dice}
use Rattle.frames.specs.Body.{Body}
use Rattle.frames.specs.declared.body.BodyOf.TheVariants as body
use Rattle.views.specs.Names.{word, chosen, others, evicted}
use Rattle.views.specs.Views as view
use Rattle.views.proofs.CallerLemmas.{others-none, chosen_other_is_there, is_another, active-demote, active-forget, active-add_active, dropped_was_active}
use Rattle.views.proofs.CallerLemmas.{sound-demote, sound-add_active, sound-forget, owner-demote, limits-demote, owner-add_active, limits-add_active}
use Rattle.views.proofs.CallerLemmas.{or_left, or_right}
use Rattle.membership.specs.Membership.{Membership, Turn}
use Rattle.membership.specs.Blocks.{send, admit, step_down, lose, is_asked, close_request, ask, promote}
use Rattle.membership.specs.Laws.{Lawful}

-- ---- choices

-- what holds of both branches holds of the choice
pub if_either : (P : Turn → Type 0) (b : Bool) (x y : Turn) → (b ≡ true → P x) → (b ≡ false → P y) → P (if b then x else y)
if_either P true x y f g = f refl
if_either P false x y f g = g refl

-- and of a choice by whether there is a name
pub option_either : (P : Turn → Type 0) (o : Option Name) (f : Name → Turn) (y : Turn) →
    ((name : Name) → o ≡ Some name → P (f name)) →
    P y →
    P (option_map_or f o y)
option_either P None f y g h = h
option_either P (Some name) f y g h = g name refl

-- names that are not alike are not equal
pub differ : (a b : Name) → same_name a b ≡ false → a ≢ b
differ a b apart same = true≢false (sym (subst (λ c. same_name a c ≡ true) same (same_name-laws.refl a)) ∙ apart)

-- what holds of each of two lists holds of each of both
pub each-append : {X : Type 0} (P : X → Type 0) (xs ys : List X) → Each P xs → Each P ys → Each P (xs ++ ys)
each-append P [] ys h k = k
each-append P (x ∷ xs) ys h k = (h.0, each-append P xs ys h.1 k)

-- what holds of each name's message holds of each message
pub each-sent : (P : (Name × Body) → Type 0) (body : Body) (names : List Name) → Each (λ name. P (name, body)) names → Each P (map (λ name. (name, body)) names)
each-sent P body [] h = tt
each-sent P body (name ∷ names) h = (h.0, each-sent P body names h.1)

-- the names of a list that lacks the owner are other names
pub each_another : (names : List Name) (owner : Name) → has_name names owner ≡ false → Each (λ name. name ≢ owner) names
each_another [] owner lacks = tt
each_another (name ∷ names) owner lacks = (
  differ name owner (same_name-laws.symm name owner ∙ or_left (same_name owner name) _ lacks),
  each_another names owner (or_right (same_name owner name) _ lacks),
)

-- ---- the blocks

pub no_more : {X : Type 0} (xs : List X) → xs ++ [] ≡ xs
no_more [] = refl
no_more (x ∷ xs) = ap (λ rest. x ∷ rest) (no_more xs)

-- Views that differ from those before in the passive names alone.
pub record Alike (m : Membership) (v : view.Views) : Type 0 where
  pub sound : view.AreSound v
  pub owner : v.owner ≡ m.views.owner
  pub limits : v.limits ≡ m.views.limits
  pub active : v.active ≡ m.views.active

module _ (m : Membership) where
  abbrev pub ToOthers : List (Name × Body) → Type 0
  ToOthers sends = Each (λ send. send.0 ≢ m.views.owner) sends

  -- a turn that has told nothing
  abbrev pub quiet : view.Views → Option Name → List Name → List (Name × Body) → Turn
  quiet v asked shuffled sends = record { views = v; asked = asked; shuffled = shuffled; sends = sends; downs = []; ups = [] }

  module _ (v : view.Views) (alike : Alike m v) (asked : Option Name) (shuffled : List Name) (sends : List (Name × Body)) (to_others : ToOthers sends) where
    pub lawful-quiet : Lawful m (quiet v asked shuffled sends)
    lawful-quiet =
        record {
          sound = alike.sound;
          owner_stays = alike.owner;
          limits_stay = alike.limits;
          to_others = to_others;
          downs_were_active = tt;
          ups_were_not = tt;
          active_now = alike.active ∙ sym (others-none m.views.active) ∙ sym (no_more (others [] m.views.active));
          one_down = omega arith;
          one_up = omega arith;
        }

    -- a name of the active view is another
    pub active_another : (name : Name) → has_name v.active name ≡ true → name ≢ m.views.owner
    active_another name there = subst (λ owner. name ≢ owner) alike.owner (is_another v.active name v.owner there alike.sound.active_of_others)

    pub lawful-admit : (dice : Dice) (name : Name) → Lawful m (admit dice name (quiet v asked shuffled sends))
    lawful-admit dice name =
        if_either (Lawful m) (view.is_settled v name) _ _ (λ settled. lawful-quiet) (λ new. by new (evicted v.limits.active (word dice 0) v.active) refl)
      where
        by : view.is_settled v name ≡ false → (o : Option Name) → evicted v.limits.active (word dice 0) v.active ≡ o → Lawful m (record {
          views = view.add_active dice name v;
          asked = asked;
          shuffled = shuffled;
          sends = sends ++ map (λ other. (other, body.Disconnect)) (option_to_list (view.dropped_for dice name v));
          downs = option_to_list (view.dropped_for dice name v);
          ups = name ∷ [];
        })
        by new o is =
            let dropped : view.dropped_for dice name v ≡ o = ap (λ b. if b then None else evicted v.limits.active (word dice 0) v.active) new ∙ is in
            subst (λ gone. Lawful m (record {
              views = view.add_active dice name v;
              asked = asked;
              shuffled = shuffled;
              sends = sends ++ map (λ other. (other, body.Disconnect)) (option_to_list gone);
              downs = option_to_list gone;
              ups = name ∷ [];
            }))
            (sym dropped)
            (record {
              sound = sound-add_active dice name v alike.sound;
              owner_stays = owner-add_active dice name v ∙ alike.owner;
              limits_stay = limits-add_active dice name v ∙ alike.limits;
              to_others =
                  each-append (λ send. send.0 ≢ m.views.owner) sends _ to_others
                  (each-sent (λ send. send.0 ≢ m.views.owner) body.Disconnect (option_to_list o) (others_told o is));
              downs_were_active = were_active o is;
              ups_were_not = (subst (λ names. has_name names name ≡ false) alike.active (or_right (same_name name v.owner) (has_name v.active name) new), tt);
              active_now =
                  active-add_active dice name v alike.sound new
                  ∙ ap (λ gone. others (option_to_list gone) v.active ++ name ∷ []) is
                  ∙ ap (λ names. others (option_to_list o) names ++ name ∷ []) alike.active;
              one_down = one_at_most o;
              one_up = omega arith;
            })
          where
            others_told : (o : Option Name) → evicted v.limits.active (word dice 0) v.active ≡ o → Each (λ other. other ≢ m.views.owner) (option_to_list o)
            others_told None is = tt
            others_told (Some gone) is = (active_another gone (dropped_was_active v.limits.active (word dice 0) v.active gone is), tt)

            were_active : (o : Option Name) →
                evicted v.limits.active (word dice 0) v.active ≡ o →
                Each (λ other. has_name m.views.active other ≡ true) (option_to_list o)
            were_active None is = tt
            were_active (Some gone) is =
                (subst (λ names. has_name names gone ≡ true) alike.active (dropped_was_active v.limits.active (word dice 0) v.active gone is), tt)

            one_at_most : (o : Option Name) → length (option_to_list o) ≤ 1
            one_at_most None = omega arith
            one_at_most (Some gone) = omega arith

    pub lawful-step_down : (dice : Dice) (name : Name) → Lawful m (step_down dice name (quiet v asked shuffled sends))
    lawful-step_down dice name = if_either (Lawful m) (has_name v.active name) _ _ by (λ absent. lawful-quiet)
      where
        by : has_name v.active name ≡ true →
            Lawful m (record { views = view.demote dice name v; asked = asked; shuffled = shuffled; sends = sends; downs = name ∷ []; ups = [] })
        by there =
            record {
              sound = sound-demote dice name v alike.sound;
              owner_stays = owner-demote dice name v ∙ alike.owner;
              limits_stay = limits-demote dice name v ∙ alike.limits;
              to_others = to_others;
              downs_were_active = (subst (λ names. has_name names name ≡ true) alike.active there, tt);
              ups_were_not = tt;
              active_now =
                  active-demote dice name v alike.sound there ∙ ap (others (name ∷ [])) alike.active ∙ sym (no_more (others (name ∷ []) m.views.active));
              one_down = omega arith;
              one_up = omega arith;
            }

    pub lawful-lose : (dice : Dice) (name : Name) → has_name v.active name ≡ true → Lawful m (lose name (quiet v asked shuffled sends))
    lawful-lose dice name there =
        record {
          sound = sound-forget name v alike.sound;
          owner_stays = alike.owner;
          limits_stay = alike.limits;
          to_others = to_others;
          downs_were_active = (subst (λ names. has_name names name ≡ true) alike.active there, tt);
          ups_were_not = tt;
          active_now = active-forget dice name v alike.sound ∙ ap (others (name ∷ [])) alike.active ∙ sym (no_more (others (name ∷ []) m.views.active));
          one_down = omega arith;
          one_up = omega arith;
        }

  module _ (t : Turn) (h : Lawful m t) where
    -- more messages to others
    pub lawful-sends : (more : List (Name × Body)) → ToOthers more → Lawful m (record t { sends = t.sends ++ more })
    lawful-sends more to_others =
        record {
          sound = h.sound;
          owner_stays = h.owner_stays;
          limits_stay = h.limits_stay;
          to_others = each-append (λ send. send.0 ≢ m.views.owner) t.sends more h.to_others to_others;
          downs_were_active = h.downs_were_active;
          ups_were_not = h.ups_were_not;
          active_now = h.active_now;
          one_down = h.one_down;
          one_up = h.one_up;
        }

    pub lawful-send : (to : Name) (body : Body) → to ≢ m.views.owner → Lawful m (send to body t)
    lawful-send to body another = lawful-sends ((to, body) ∷ []) (another, tt)

    -- the laws do not depend on the asked and the remembered names
    pub lawful-asked : (asked : Option Name) → Lawful m (record t { asked = asked })
    lawful-asked asked =
        record {
          sound = h.sound;
          owner_stays = h.owner_stays;
          limits_stay = h.limits_stay;
          to_others = h.to_others;
          downs_were_active = h.downs_were_active;
          ups_were_not = h.ups_were_not;
          active_now = h.active_now;
          one_down = h.one_down;
          one_up = h.one_up;
        }

    pub lawful-close : (name : Name) → Lawful m (close_request name t)
    lawful-close name = if_either (Lawful m) (is_asked name t.asked) _ _ (λ is. lawful-asked None) (λ is. h)

    -- a promotion asks a passive name
    pub lawful-promote : (dice : Dice) (excepted : List Name) → Lawful m (promote dice excepted t)
    lawful-promote dice excepted =
        if_either (Lawful m) (view.has_room t.views && is_none t.asked) _ _
        (λ may. option_either (Lawful m) (chosen (word dice 2) (others excepted t.views.passive)) _ _ by h) (λ may. h)
      where
        by : (name : Name) → chosen (word dice 2) (others excepted t.views.passive) ≡ Some name → Lawful m (ask name t)
        by name is =
            let another : name ≢ m.views.owner =
            subst (λ owner. name ≢ owner) h.owner_stays
            (is_another t.views.passive name t.views.owner (chosen_other_is_there (word dice 2) excepted t.views.passive name is) h.sound.passive_of_others) in
            record {
              sound = h.sound;
              owner_stays = h.owner_stays;
              limits_stay = h.limits_stay;
              to_others = each-append (λ send. send.0 ≢ m.views.owner) t.sends _ h.to_others (another, tt);
              downs_were_active = h.downs_were_active;
              ups_were_not = h.ups_were_not;
              active_now = h.active_now;
              one_down = h.one_down;
              one_up = h.one_up;
            }
