-- Every message of the table fits a frame.
use Rattle.std.proofs.Common.{◌≡◌, ◌≤◌, ◌+◌, ◌-◌, ℕ, Bool, true, false, ◌||◌, ◌&&◌, ◌==◌, List, [], ◌∷◌, ◌++◌}
use Rattle.std.proofs.Common.{length, length-append, drop, take, refl, arith, None, is_none, nat_lt, nat_le}
use Rattle.std.specs.Option.{option_to_list}
use Rattle.std.specs.List.{AllByRecursion as Each}
use Rattle.std.proofs.lemmas.List.{length-take}
use Rattle.std.proofs.lemmas.Bool.Decides.{nat_tests}
use Rattle.node_names.specs.NodeName.{Name}
use Rattle.node_names.specs.Same.{same_name, has_name}
use Rattle.node_names.specs.declared.dice.Dice.{Dice}
use Rattle.frames.specs.Body.{Body}
use Rattle.frames.specs.Frame.{has_good_fields, has_good_counts}
use Rattle.frames.specs.declared.TheConstants.{MAX_NAMES}
use Rattle.frames.specs.declared.body.BodyOf.TheVariants as body
use Rattle.views.specs.Names.{word, chosen, others, sample}
use Rattle.views.specs.Views as view
use Rattle.views.proofs.CallerLemmas.{length-sample}
use Rattle.membership.specs.Membership.{Membership, Turn, still}
use Rattle.membership.specs.Event.{Event}
use Rattle.membership.specs.declared.event.EventOf.TheVariants.{Joins, Join, ForwardJoin, Neighbor, Reply, Disconnect, Shuffle, ShuffleReply, Down, Tick}
use Rattle.membership.specs.Blocks.{send, send_all, admit, step_down, lose, forget, is_asked, close_request}
use Rattle.membership.specs.Blocks.{promote, welcome, words, shuffled_active, shuffled_passive}
use Rattle.membership.specs.Table.{walk_on, on_forward_join, on_neighbor, on_reply, on_disconnect, on_down, start_shuffle, on_tick, on_shuffle, table}
use Rattle.membership.specs.Laws.{FitsFrame, FitFrames}
use Rattle.membership.proofs.Lawful.{if_either, option_either, each-append, each-sent}

abbrev Fits : (Name × Body) → Type 0
Fits send = (has_good_fields send.1 ≡ true) × (has_good_counts send.1 ≡ true)

-- a body that fits, to each of the names
all_fit : (body : Body) → has_good_fields body ≡ true → has_good_counts body ≡ true → (names : List Name) → Each (λ name. Fits (name, body)) names
all_fit body fields counts [] = tt
all_fit body fields counts (name ∷ names) = ((fields, counts), all_fit body fields counts names)

fit-send : (t : Turn) → FitFrames t → (to : Name) (body : Body) → has_good_fields body ≡ true → has_good_counts body ≡ true → FitFrames (send to body t)
fit-send t h to body fields counts = each-append Fits t.sends _ h ((fields, counts), tt)

fit-send_all : (t : Turn) →
    FitFrames t →
    (body : Body) →
    has_good_fields body ≡ true →
    has_good_counts body ≡ true →
    (names : List Name) →
    FitFrames (send_all body names t)
fit-send_all t h body fields counts names = each-append Fits t.sends _ h (each-sent Fits body names (all_fit body fields counts names))

fit-admit : (dice : Dice) (name : Name) (t : Turn) → FitFrames t → FitFrames (admit dice name t)
fit-admit dice name t h =
    if_either FitFrames (view.is_settled t.views name) _ _ (λ settled. h)
    (λ new. each-append Fits t.sends _ h (each-sent Fits body.Disconnect (option_to_list (view.dropped_for dice name t.views))
    (all_fit body.Disconnect refl refl (option_to_list (view.dropped_for dice name t.views)))))

fit-welcome : (dice : Dice) (name : Name) (t : Turn) → FitFrames t → FitFrames (welcome dice name t)
fit-welcome dice name t h = fit-send (admit dice name t) (fit-admit dice name t h) name (body.Neighbor true) refl refl

fit-step_down : (dice : Dice) (name : Name) (t : Turn) → FitFrames t → FitFrames (step_down dice name t)
fit-step_down dice name t h = if_either FitFrames (has_name t.views.active name) _ _ (λ there. h) (λ absent. h)

fit-close : (name : Name) (t : Turn) → FitFrames t → FitFrames (close_request name t)
fit-close name t h = if_either FitFrames (is_asked name t.asked) _ _ (λ is. h) (λ is. h)

fit-promote : (dice : Dice) (excepted : List Name) (t : Turn) → FitFrames t → FitFrames (promote dice excepted t)
fit-promote dice excepted t h =
    if_either FitFrames (view.has_room t.views && is_none t.asked) _ _
    (λ may. option_either FitFrames (chosen (word dice 2) (others excepted t.views.passive)) _ _ (λ name is. each-append Fits t.sends _ h ((refl, refl), tt)) h)
    (λ may. h)

-- ---- lists of names

-- at most `count` words are taken
few_words : (n : ℕ) (xs : List ℕ) → length (take n xs) ≤ n
few_words n xs = omega (arith, length-take n xs)

fits_count : (names : List Name) → length names ≤ MAX_NAMES → nat_le (length names) MAX_NAMES ≡ true
fits_count names few = grind (arith, nat_tests, few)

-- an answer has at most 8 names
answer_fits : (dice : Dice) (n : ℕ) (candidates : List Name) → nat_le (length (sample (take n (words dice 4 8)) candidates)) MAX_NAMES ≡ true
answer_fits dice n candidates =
    let some : length (sample (take n (words dice 4 8)) candidates) ≤ length (take n (words dice 4 8)) = length-sample (take n (words dice 4 8)) candidates in
    fits_count (sample (take n (words dice 4 8)) candidates) (omega (arith, some, length-take n (words dice 4 8), few_words 8 (drop 4 dice.0)))

-- a shuffle has the owner's name and at most 7 others
shuffle_fits : (dice : Dice) (target : Name) (v : view.Views) →
    view.AreSound v →
    nat_le (length (v.owner ∷ (shuffled_active dice target v ++ shuffled_passive dice v))) MAX_NAMES ≡ true
shuffle_fits dice target v sound =
    let active : length (shuffled_active dice target v) ≤ length (words dice 4 v.limits.ka) =
    length-sample (words dice 4 v.limits.ka) (others (target ∷ []) v.active) in
    let passive : length (shuffled_passive dice v) ≤ length (words dice (4 + v.limits.ka) v.limits.kp) =
    length-sample (words dice (4 + v.limits.ka) v.limits.kp) v.passive in
    fits_count (v.owner ∷ (shuffled_active dice target v ++ shuffled_passive dice v))
    (omega (
      arith,
      active,
      passive,
      few_words v.limits.ka (drop 4 dice.0),
      few_words v.limits.kp (drop (4 + v.limits.ka) dice.0),
      length-append (shuffled_active dice target v) (shuffled_passive dice v),
      sound.allowed.shuffle_to,
    ))

-- ---- the rows

module _ (m : Membership) (dice : Dice) where
  fit-walk_on : (v : view.Views) (sender new : Name) (ttl : ℕ) → FitFrames (walk_on dice sender new ttl (record (still m) { views = v }))
  fit-walk_on v sender new ttl =
      option_either FitFrames (chosen (word dice 1) (others (sender ∷ new ∷ []) v.active)) _ _
      (λ next is. ((refl, refl), tt)) (fit-welcome dice new (record (still m) { views = v }) tt)

  fit-forward_join : (sender new : Name) (ttl : ℕ) → FitFrames (on_forward_join dice sender new ttl (still m))
  fit-forward_join sender new ttl =
      if_either FitFrames (same_name new m.views.owner) _ _ (λ own. tt)
      (λ foreign. if_either FitFrames (ttl == 0 || nat_le (length m.views.active) 1) _ _
      (λ ends. fit-welcome dice new (still m) tt)
      (λ goes_on. if_either (λ noted. FitFrames (walk_on dice sender new (ttl - 1) noted)) (ttl == m.views.limits.prwl) _ _
      (λ notes. fit-walk_on (view.add_passive dice new m.views) sender new (ttl - 1))
      (λ passes. fit-walk_on m.views sender new (ttl - 1))))

  fit-neighbor : (sender : Name) (high : Bool) → FitFrames (on_neighbor dice sender high (still m))
  fit-neighbor sender high =
      if_either FitFrames (high || (has_name m.views.active sender || view.has_room m.views)) _ _
      (λ accepted. fit-send (admit dice sender (still m)) (fit-admit dice sender (still m) tt) sender (body.NeighborReply true) refl refl)
      (λ refused. ((refl, refl), tt))

  fit-reply : (sender : Name) (accepted : Bool) → FitFrames (on_reply dice sender accepted (still m))
  fit-reply sender true =
      if_either FitFrames (has_name (close_request sender (still m)).views.active sender) _ _ (λ there. fit-close sender (still m) tt)
      (λ absent. if_either FitFrames (view.has_room (close_request sender (still m)).views) _ _
      (λ room. fit-admit dice sender (close_request sender (still m)) (fit-close sender (still m) tt))
      (λ full. fit-send (close_request sender (still m)) (fit-close sender (still m) tt) sender body.Disconnect refl refl))
  fit-reply sender false = fit-step_down dice sender (close_request sender (still m)) (fit-close sender (still m) tt)

  fit-disconnect : (sender : Name) → FitFrames (on_disconnect dice sender (still m))
  fit-disconnect sender =
      if_either FitFrames (has_name m.views.active sender) _ _
      (λ there. fit-promote dice (sender ∷ []) (step_down dice sender (still m)) (fit-step_down dice sender (still m) tt)) (λ absent. tt)

  fit-down : (peer : Name) → FitFrames (on_down dice peer (still m))
  fit-down peer =
      if_either FitFrames (has_name m.views.active peer) _ _
      (λ there. fit-promote dice [] (close_request peer (lose peer (still m))) (fit-close peer (lose peer (still m)) tt))
      (λ absent. if_either FitFrames (is_asked peer m.asked) _ _
      (λ is. fit-promote dice [] (close_request peer (forget peer (still m))) (fit-close peer (forget peer (still m)) tt))
      (λ is. tt))

  fit-start_shuffle : view.AreSound m.views → FitFrames (start_shuffle dice (still m))
  fit-start_shuffle sound =
      option_either FitFrames (chosen (word dice 1) m.views.active) _ _ (λ target is. ((refl, shuffle_fits dice target m.views sound), tt)) tt

  fit-tick : view.AreSound m.views → FitFrames (on_tick dice (still m))
  fit-tick sound =
      if_either FitFrames (view.has_room (start_shuffle dice (still m)).views) _ _
      (λ room. fit-promote dice [] (record (start_shuffle dice (still m)) { asked = None }) (fit-start_shuffle sound))
      (λ full. fit-start_shuffle sound)

  fit-shuffle : (sender origin : Name) (ttl : ℕ) (names : List Name) → length names ≤ MAX_NAMES → FitFrames (on_shuffle dice sender origin ttl names (still m))
  fit-shuffle sender origin ttl names few =
      if_either FitFrames (same_name origin m.views.owner) _ _ (λ own. tt)
      (λ foreign. if_either FitFrames (nat_lt 0 (ttl - 1) && nat_lt 1 (length m.views.active)) _ _
      (λ goes_on. option_either FitFrames (chosen (word dice 1) (others (sender ∷ origin ∷ []) m.views.active)) _ _
      (λ next is. ((refl, fits_count names few), tt))
      ((refl, answer_fits dice (length names) m.views.passive), tt))
      (λ ends. ((refl, answer_fits dice (length names) m.views.passive), tt)))

pub table_fits_frames : (m : Membership) (event : Event) (dice : Dice) → view.AreSound m.views → FitsFrame event → FitFrames (table event dice (still m))
table_fits_frames m (Joins contact) dice sound few = ((refl, refl), tt)
table_fits_frames m (Join sender) dice sound few =
    fit-send_all (welcome dice sender (still m)) (fit-welcome dice sender (still m) tt)
    (body.ForwardJoin sender m.views.limits.arwl) refl refl (others (sender ∷ []) (welcome dice sender (still m)).views.active)
table_fits_frames m (ForwardJoin sender new ttl) dice sound few = fit-forward_join m dice sender new ttl
table_fits_frames m (Neighbor sender high) dice sound few = fit-neighbor m dice sender high
table_fits_frames m (Reply sender accepted) dice sound few = fit-reply m dice sender accepted
table_fits_frames m (Disconnect sender) dice sound few = fit-disconnect m dice sender
table_fits_frames m (Shuffle sender origin ttl names) dice sound few = fit-shuffle m dice sender origin ttl names few
table_fits_frames m (ShuffleReply sender names) dice sound few = tt
table_fits_frames m (Down peer) dice sound few = fit-down m dice peer
table_fits_frames m Tick dice sound few = fit-tick m dice sound
