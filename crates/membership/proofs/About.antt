-- Every message of the table is about membership alone.
use Rattle.std.proofs.Common.{◌≡◌, ◌-◌, ℕ, Bool, true, false, ◌||◌, ◌&&◌, ◌==◌, List, [], ◌∷◌, length, refl, None, is_none, nat_lt, nat_le}
use Rattle.std.specs.Option.{option_to_list}
use Rattle.std.specs.List.{AllByRecursion as Each}
use Rattle.node_names.specs.NodeName.{Name}
use Rattle.node_names.specs.Same.{same_name, has_name}
use Rattle.node_names.specs.declared.dice.Dice.{Dice}
use Rattle.frames.specs.Body.{Body}
use Rattle.frames.specs.Content.{body_content, membership}
use Rattle.frames.specs.declared.body.BodyOf.TheVariants as body
use Rattle.views.specs.Names.{word, chosen, others}
use Rattle.views.specs.Views as view
use Rattle.membership.specs.Membership.{Membership, Turn, still}
use Rattle.membership.specs.Event.{Event}
use Rattle.membership.specs.declared.event.EventOf.TheVariants.{Joins, Join, ForwardJoin, Neighbor, Reply, Disconnect, Shuffle, ShuffleReply, Down, Tick}
use Rattle.membership.specs.Blocks.{send, send_all, admit, step_down, lose, forget, is_asked, close_request, promote, welcome}
use Rattle.membership.specs.Table.{walk_on, on_forward_join, on_neighbor, on_reply, on_disconnect, on_down, start_shuffle, on_tick, on_shuffle, table}
use Rattle.membership.specs.Laws.{AreAboutMembership}
use Rattle.membership.proofs.Lawful.{if_either, option_either, each-append, each-sent}

abbrev IsAbout : (Name × Body) → Type 0
IsAbout send = body_content send.1 ≡ membership

-- a body about membership, to each of the names
all_are : (body : Body) → body_content body ≡ membership → (names : List Name) → Each (λ name. IsAbout (name, body)) names
all_are body is [] = tt
all_are body is (name ∷ names) = (is, all_are body is names)

about-send : (t : Turn) → AreAboutMembership t → (to : Name) (body : Body) → body_content body ≡ membership → AreAboutMembership (send to body t)
about-send t h to body is = each-append IsAbout t.sends _ h (is, tt)

about-send_all : (t : Turn) →
    AreAboutMembership t →
    (body : Body) →
    body_content body ≡ membership →
    (names : List Name) →
    AreAboutMembership (send_all body names t)
about-send_all t h body is names = each-append IsAbout t.sends _ h (each-sent IsAbout body names (all_are body is names))

about-admit : (dice : Dice) (name : Name) (t : Turn) → AreAboutMembership t → AreAboutMembership (admit dice name t)
about-admit dice name t h =
    if_either AreAboutMembership (view.is_settled t.views name) _ _ (λ settled. h)
    (λ new. each-append IsAbout t.sends _ h (each-sent IsAbout body.Disconnect (option_to_list (view.dropped_for dice name t.views))
    (all_are body.Disconnect refl (option_to_list (view.dropped_for dice name t.views)))))

about-welcome : (dice : Dice) (name : Name) (t : Turn) → AreAboutMembership t → AreAboutMembership (welcome dice name t)
about-welcome dice name t h = about-send (admit dice name t) (about-admit dice name t h) name (body.Neighbor true) refl

about-step_down : (dice : Dice) (name : Name) (t : Turn) → AreAboutMembership t → AreAboutMembership (step_down dice name t)
about-step_down dice name t h = if_either AreAboutMembership (has_name t.views.active name) _ _ (λ there. h) (λ absent. h)

about-close : (name : Name) (t : Turn) → AreAboutMembership t → AreAboutMembership (close_request name t)
about-close name t h = if_either AreAboutMembership (is_asked name t.asked) _ _ (λ is. h) (λ is. h)

about-promote : (dice : Dice) (excepted : List Name) (t : Turn) → AreAboutMembership t → AreAboutMembership (promote dice excepted t)
about-promote dice excepted t h =
    if_either AreAboutMembership (view.has_room t.views && is_none t.asked) _ _
    (λ may. option_either AreAboutMembership (chosen (word dice 2) (others excepted t.views.passive)) _ _
    (λ name is. each-append IsAbout t.sends _ h (refl, tt)) h)
    (λ may. h)

-- ---- the rows

module _ (m : Membership) (dice : Dice) where
  about-walk_on : (v : view.Views) (sender new : Name) (ttl : ℕ) → AreAboutMembership (walk_on dice sender new ttl (record (still m) { views = v }))
  about-walk_on v sender new ttl =
      option_either AreAboutMembership (chosen (word dice 1) (others (sender ∷ new ∷ []) v.active)) _ _
      (λ next is. (refl, tt)) (about-welcome dice new (record (still m) { views = v }) tt)

  about-forward_join : (sender new : Name) (ttl : ℕ) → AreAboutMembership (on_forward_join dice sender new ttl (still m))
  about-forward_join sender new ttl =
      if_either AreAboutMembership (same_name new m.views.owner) _ _ (λ own. tt)
      (λ foreign. if_either AreAboutMembership (ttl == 0 || nat_le (length m.views.active) 1) _ _
      (λ ends. about-welcome dice new (still m) tt)
      (λ goes_on. if_either (λ noted. AreAboutMembership (walk_on dice sender new (ttl - 1) noted)) (ttl == m.views.limits.prwl) _ _
      (λ notes. about-walk_on (view.add_passive dice new m.views) sender new (ttl - 1))
      (λ passes. about-walk_on m.views sender new (ttl - 1))))

  about-neighbor : (sender : Name) (high : Bool) → AreAboutMembership (on_neighbor dice sender high (still m))
  about-neighbor sender high =
      if_either AreAboutMembership (high || (has_name m.views.active sender || view.has_room m.views)) _ _
      (λ accepted. about-send (admit dice sender (still m)) (about-admit dice sender (still m) tt) sender (body.NeighborReply true) refl)
      (λ refused. (refl, tt))

  about-reply : (sender : Name) (accepted : Bool) → AreAboutMembership (on_reply dice sender accepted (still m))
  about-reply sender true =
      if_either AreAboutMembership (has_name (close_request sender (still m)).views.active sender) _ _ (λ there. about-close sender (still m) tt)
      (λ absent. if_either AreAboutMembership (view.has_room (close_request sender (still m)).views) _ _
      (λ room. about-admit dice sender (close_request sender (still m)) (about-close sender (still m) tt))
      (λ full. about-send (close_request sender (still m)) (about-close sender (still m) tt) sender body.Disconnect refl))
  about-reply sender false = about-step_down dice sender (close_request sender (still m)) (about-close sender (still m) tt)

  about-disconnect : (sender : Name) → AreAboutMembership (on_disconnect dice sender (still m))
  about-disconnect sender =
      if_either AreAboutMembership (has_name m.views.active sender) _ _
      (λ there. about-promote dice (sender ∷ []) (step_down dice sender (still m)) (about-step_down dice sender (still m) tt)) (λ absent. tt)

  about-down : (peer : Name) → AreAboutMembership (on_down dice peer (still m))
  about-down peer =
      if_either AreAboutMembership (has_name m.views.active peer) _ _
      (λ there. about-promote dice [] (close_request peer (lose peer (still m))) (about-close peer (lose peer (still m)) tt))
      (λ absent. if_either AreAboutMembership (is_asked peer m.asked) _ _
      (λ is. about-promote dice [] (close_request peer (forget peer (still m))) (about-close peer (forget peer (still m)) tt))
      (λ is. tt))

  about-start_shuffle : AreAboutMembership (start_shuffle dice (still m))
  about-start_shuffle =
      option_either AreAboutMembership (chosen (word dice 1) m.views.active) _ _ (λ target is. (refl, tt)) tt

  about-tick : AreAboutMembership (on_tick dice (still m))
  about-tick =
      if_either AreAboutMembership (view.has_room (start_shuffle dice (still m)).views) _ _
      (λ room. about-promote dice [] (record (start_shuffle dice (still m)) { asked = None }) (about-start_shuffle))
      (λ full. about-start_shuffle)

  about-shuffle : (sender origin : Name) (ttl : ℕ) (names : List Name) → AreAboutMembership (on_shuffle dice sender origin ttl names (still m))
  about-shuffle sender origin ttl names =
      if_either AreAboutMembership (same_name origin m.views.owner) _ _ (λ own. tt)
      (λ foreign. if_either AreAboutMembership (nat_lt 0 (ttl - 1) && nat_lt 1 (length m.views.active)) _ _
      (λ goes_on. option_either AreAboutMembership (chosen (word dice 1) (others (sender ∷ origin ∷ []) m.views.active)) _ _
      (λ next is. (refl, tt))
      (refl, tt))
      (λ ends. (refl, tt)))

pub table_is_about_membership : (m : Membership) (event : Event) (dice : Dice) → AreAboutMembership (table event dice (still m))
table_is_about_membership m (Joins contact) dice = (refl, tt)
table_is_about_membership m (Join sender) dice =
    about-send_all (welcome dice sender (still m)) (about-welcome dice sender (still m) tt)
    (body.ForwardJoin sender m.views.limits.arwl) refl (others (sender ∷ []) (welcome dice sender (still m)).views.active)
table_is_about_membership m (ForwardJoin sender new ttl) dice = about-forward_join m dice sender new ttl
table_is_about_membership m (Neighbor sender high) dice = about-neighbor m dice sender high
table_is_about_membership m (Reply sender accepted) dice = about-reply m dice sender accepted
table_is_about_membership m (Disconnect sender) dice = about-disconnect m dice sender
table_is_about_membership m (Shuffle sender origin ttl names) dice = about-shuffle m dice sender origin ttl names
table_is_about_membership m (ShuffleReply sender names) dice = tt
table_is_about_membership m (Down peer) dice = about-down m dice peer
table_is_about_membership m Tick dice = about-tick m dice
