-- How many walks a row starts or passes on.
use Rattle.std.proofs.Common.{◌≡◌, ◌≢◌, ◌≤◌, ◌<◌, ◌-◌, inl, inr, ℕ, zero, suc, Bool, true, false, if◌then◌else◌, ◌||◌}
use Rattle.std.proofs.Common.{◌==◌, List, [], ◌∷◌, ◌++◌, length, map, refl, sym, ap, subst, ◌∙◌, true≢false, arith, nat_le}
use Rattle.std.specs.Option.{option_to_list}
use Rattle.std.proofs.lemmas.List.Folds.{list_any-append}
use Rattle.node_names.specs.NodeName.{Name}
use Rattle.node_names.specs.Limits.{Limits}
use Rattle.node_names.specs.Same.{same_name, has_name, same_name-laws, same_name-Decides}
use Rattle.node_names.specs.declared.dice.Dice.{Dice}
use Rattle.frames.specs.Body.{Body}
use Rattle.frames.specs.declared.body.BodyOf.TheVariants as body
use Rattle.views.specs.Names.{word, chosen, others, evicted}
use Rattle.views.specs.Views as view
use Rattle.views.proofs.CallerLemmas.{active-add_active, fewer-others}
use Rattle.membership.specs.Membership.{Membership, Turn, still}
use Rattle.membership.specs.Blocks.{admit, welcome}
use Rattle.membership.specs.Table.{on_join, walk_on, on_forward_join}
use Rattle.membership.specs.Laws.{is_walk, walks, GoesOnOnce}
use Rattle.membership.proofs.Lawful.{if_either, option_either}
use Rattle.membership.proofs.LawfulRows.{lawful-join}

-- ---- walks among sends

walks-append : (xs ys : List (Name × Body)) → walks (xs ++ ys) ≡ walks xs ++ walks ys
walks-append [] ys = refl
walks-append (x ∷ xs) ys = by (is_walk x.1) (walks-append xs ys)
  where
    by : (b : Bool) →
        walks (xs ++ ys) ≡ walks xs ++ walks ys →
        (if b then x ∷ walks (xs ++ ys) else walks (xs ++ ys)) ≡ (if b then x ∷ walks xs else walks xs) ++ walks ys
    by true rest = ap (λ zs. x ∷ zs) rest
    by false rest = rest

-- sending a message that is no walk adds no walk
walks-none : (body : Body) → is_walk body ≡ false → (names : List Name) → walks (map (λ name. (name, body)) names) ≡ []
walks-none body not_one [] = refl
walks-none body not_one (name ∷ names) =
    ap (λ b. if b then (name, body) ∷ walks (map (λ other. (other, body)) names) else walks (map (λ other. (other, body)) names)) not_one
    ∙ walks-none body not_one names

-- no more walks than messages
walks-few : (sends : List (Name × Body)) → length (walks sends) ≤ length sends
walks-few [] = omega arith
walks-few (x ∷ xs) = by (is_walk x.1) (walks-few xs)
  where
    by : (b : Bool) → length (walks xs) ≤ length xs → length (if b then x ∷ walks xs else walks xs) ≤ suc (length xs)
    by true rest = omega arith
    by false rest = omega arith

length-sent : (body : Body) (names : List Name) → length {A = Name × Body} (map (λ name. (name, body)) names) ≡ length names
length-sent body [] = refl
length-sent body (name ∷ names) = ap (λ (n : ℕ). suc n) (length-sent body names)

-- a welcome starts none
walks-welcome : (dice : Dice) (name : Name) (t : Turn) → walks t.sends ≡ [] → walks (welcome dice name t).sends ≡ []
walks-welcome dice name t none =
    walks-append (admit dice name t).sends ((name, body.Neighbor true) ∷ []) ∙ ap (λ front. front ++ []) admits
  where
    admits : walks (admit dice name t).sends ≡ []
    admits = if_either (λ turn. walks turn.sends ≡ []) (view.is_settled t.views name) _ _ (λ settled. none)
        (λ new. walks-append t.sends _
        ∙ ap (λ front. front ++ walks (map (λ other. (other, body.Disconnect)) (option_to_list (view.dropped_for dice name t.views)))) none
        ∙ walks-none body.Disconnect refl (option_to_list (view.dropped_for dice name t.views)))

-- ---- a JOIN

-- another name than the owner's is not the same
not_same : (a b : Name) → a ≢ b → same_name a b ≡ false
not_same a b differ = by (same_name a b) refl
  where
    by : (x : Bool) → same_name a b ≡ x → x ≡ false
    by true is = absurd (differ ((same_name-Decides a b).0 is))
    by false is = refl

or_true : (a b : Bool) → (a || b) ≡ true → a ≡ false → b ≡ true
or_true true b e f = absurd (true≢false f)
or_true false b e f = e

true_or : (a b : Bool) → b ≡ true → (a || b) ≡ true
true_or true b e = refl
true_or false b e = e

-- a name that is welcomed is active afterwards
welcomed_is_active : (m : Membership) →
    view.AreSound m.views →
    (dice : Dice) (name : Name) →
    name ≢ m.views.owner →
    has_name (welcome dice name (still m)).views.active name ≡ true
welcomed_is_active m sound dice name another =
    if_either (λ t. has_name t.views.active name ≡ true) (view.is_settled m.views name) _ _
    (λ settled. or_true (same_name name m.views.owner) (has_name m.views.active name) settled (not_same name m.views.owner another))
    (λ new. subst (λ names. has_name names name ≡ true) (sym (active-add_active dice name m.views sound new))
    (list_any-append (same_name name) (others (option_to_list (evicted m.views.limits.active (word dice 0) m.views.active)) m.views.active) (name ∷ [])
    ∙ true_or (has_name (others (option_to_list (evicted m.views.limits.active (word dice 0) m.views.active)) m.views.active) name)
    (same_name name name || false) (ap (λ b. b || false) (same_name-laws.refl name))))

-- a JOIN starts fewer walks than the active view has places
pub join_is_bounded : (m : Membership) →
    view.AreSound m.views →
    (dice : Dice) (sender : Name) →
    sender ≢ m.views.owner →
    length (walks (on_join dice sender (still m)).sends) < m.views.limits.active
join_is_bounded m sound dice sender another =
    let active = (welcome dice sender (still m)).views.active in
    let lawful = lawful-join m sound dice sender another in
    let front : walks (on_join dice sender (still m)).sends
    ≡ walks (map (λ other. (other, body.ForwardJoin sender m.views.limits.arwl)) (others (sender ∷ []) active)) =
    walks-append (welcome dice sender (still m)).sends _
    ∙ ap (λ none. none ++ walks (map (λ other. (other, body.ForwardJoin sender m.views.limits.arwl)) (others (sender ∷ []) active)))
    (walks-welcome dice sender (still m) refl) in
    let few : length (others (sender ∷ []) active) < length active = fewer-others sender active (welcomed_is_active m sound dice sender another) in
    let within : length active ≤ m.views.limits.active =
    subst (λ (limits : Limits). length active ≤ limits.active) lawful.limits_stay lawful.sound.active_within in
    subst (λ sent. length sent < m.views.limits.active) (sym front)
    (omega (
      arith,
      walks-few (map (λ other. (other, body.ForwardJoin sender m.views.limits.arwl)) (others (sender ∷ []) active)),
      length-sent (body.ForwardJoin sender m.views.limits.arwl) (others (sender ∷ []) active),
      few,
      within,
    ))

-- ---- a FORWARDJOIN

left_over : (ttl : ℕ) (b : Bool) → (ttl == 0 || b) ≡ false → 0 < ttl
left_over zero b e = absurd (true≢false e)
left_over (suc n) b e = omega arith

-- a walk goes on at most once, with one step less
pub walk_goes_on_once : (dice : Dice) (sender new : Name) (ttl : ℕ) (m : Membership) → GoesOnOnce new ttl (on_forward_join dice sender new ttl (still m)).sends
walk_goes_on_once dice sender new ttl m =
    if_either Once (same_name new m.views.owner) _ _ (λ own. inl refl)
    (λ foreign. if_either Once (ttl == 0 || nat_le (length m.views.active) 1) _ _
    (λ ends. inl (walks-welcome dice new (still m) refl))
    (λ goes_on. if_either (λ noted. Once (walk_on dice sender new (ttl - 1) noted)) (ttl == m.views.limits.prwl) _ _
    (λ notes. walked (view.add_passive dice new m.views) (left_over ttl _ goes_on))
    (λ passes. walked m.views (left_over ttl _ goes_on))))
  where
    Once : Turn → Type 0
    Once t = GoesOnOnce new ttl t.sends

    walked : (v : view.Views) → 0 < ttl → GoesOnOnce new ttl (walk_on dice sender new (ttl - 1) (record (still m) { views = v })).sends
    walked v left = option_either (λ t. GoesOnOnce new ttl t.sends) (chosen (word dice 1) (others (sender ∷ new ∷ []) v.active)) _ _
        (λ next is. inr (next, refl, left))
        (inl (walks-welcome dice new (record (still m) { views = v }) refl))
