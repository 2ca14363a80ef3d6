-- Every row of the table is lawful.
use Rattle.std.proofs.Common.{◌≡◌, ◌≢◌, ◌-◌, ℕ, Bool, true, false, if◌then◌else◌, ◌||◌, ◌&&◌, ◌==◌}
use Rattle.std.proofs.Common.{List, [], ◌∷◌, length, refl, subst, Option, None, nat_lt, nat_le}
use Rattle.node_names.specs.NodeName.{Name}
use Rattle.node_names.specs.Same.{same_name, has_name}
use Rattle.node_names.specs.declared.dice.Dice.{Dice}
use Rattle.frames.specs.declared.body.BodyOf.TheVariants as body
use Rattle.views.specs.Names.{word, chosen, others}
use Rattle.views.specs.Views as view
use Rattle.views.proofs.CallerLemmas.{lacks-others, chosen_is_there, chosen_other_is_there, active-add_passive, active-forget_absent}
use Rattle.views.proofs.CallerLemmas.{owner-add_passive, limits-add_passive, same-integrate, sound-add_passive, sound-forget, sound-integrate}
use Rattle.membership.specs.Membership.{Membership, Turn, still}
use Rattle.membership.specs.Event.{Event}
use Rattle.membership.specs.declared.event.EventOf.TheVariants.{Joins, Join, ForwardJoin, Neighbor, Reply, Disconnect, Shuffle, ShuffleReply, Down, Tick}
use Rattle.membership.specs.Blocks.{send, admit, step_down, lose, forget, is_asked, close_request, welcome, shuffled_passive, accept_shuffle}
use Rattle.membership.specs.Table.{on_join, walk_on, on_forward_join, on_neighbor, on_reply, on_disconnect}
use Rattle.membership.specs.Table.{on_down, start_shuffle, on_tick, on_shuffle, on_shuffle_reply, table}
use Rattle.membership.specs.Laws.{IsFromAnother, Lawful}
use Rattle.membership.proofs.Lawful.{if_either, option_either, differ, each-sent, each_another, Alike, quiet, lawful-quiet, active_another}
use Rattle.membership.proofs.Lawful.{lawful-admit, lawful-step_down, lawful-lose, lawful-sends, lawful-send, lawful-asked, lawful-close, lawful-promote}

module _ (m : Membership) (sound : view.AreSound m.views) (dice : Dice) where
  -- the views before
  same : Alike m m.views
  same = record { sound = sound; owner = refl; limits = refl; active = refl }

  abbrev Law : Turn → Type 0
  Law t = Lawful m t

  -- a name that is welcomed by views that differ in the passive names alone
  pub lawful-welcome : (v : view.Views) →
      Alike m v →
      (asked : Option Name) (shuffled : List Name) (name : Name) →
      name ≢ m.views.owner →
      Law (welcome dice name (quiet m v asked shuffled []))
  lawful-welcome v alike asked shuffled name another =
      lawful-send m (admit dice name (quiet m v asked shuffled [])) (lawful-admit m v alike asked shuffled [] tt dice name) name (body.Neighbor true) another

  pub lawful-join : (sender : Name) → sender ≢ m.views.owner → Law (on_join dice sender (still m))
  lawful-join sender another =
      let welcomed = welcome dice sender (still m) in
      let h : Law (welcome dice sender (still m)) = lawful-welcome m.views same m.asked m.shuffled sender another in
      let lacks : has_name (welcome dice sender (still m)).views.active m.views.owner ≡ false =
      subst (λ owner. has_name (welcome dice sender (still m)).views.active owner ≡ false) h.owner_stays h.sound.active_of_others in
      lawful-sends m (welcome dice sender (still m)) h _
      (each-sent (λ send. send.0 ≢ m.views.owner) (body.ForwardJoin sender m.views.limits.arwl)
      (others (sender ∷ []) (welcome dice sender (still m)).views.active)
      (each_another (others (sender ∷ []) (welcome dice sender (still m)).views.active) m.views.owner
      (lacks-others (sender ∷ []) (welcome dice sender (still m)).views.active m.views.owner lacks)))

  pub lawful-walk_on : (v : view.Views) →
      Alike m v →
      (sender new : Name) (ttl : ℕ) →
      new ≢ m.views.owner →
      Law (walk_on dice sender new ttl (quiet m v m.asked m.shuffled []))
  lawful-walk_on v alike sender new ttl another =
      option_either Law (chosen (word dice 1) (others (sender ∷ new ∷ []) v.active)) _ _
      (λ next is. lawful-send m (quiet m v m.asked m.shuffled []) (lawful-quiet m v alike m.asked m.shuffled [] tt) next (body.ForwardJoin new ttl)
      (active_another m v alike m.asked m.shuffled [] tt next (chosen_other_is_there (word dice 1) (sender ∷ new ∷ []) v.active next is)))
      (lawful-welcome v alike m.asked m.shuffled new another)

  pub lawful-forward_join : (sender new : Name) (ttl : ℕ) → Law (on_forward_join dice sender new ttl (still m))
  lawful-forward_join sender new ttl =
      if_either Law (same_name new m.views.owner) _ _ (λ own. lawful-quiet m m.views same m.asked m.shuffled [] tt)
      (λ foreign. if_either Law (ttl == 0 || nat_le (length m.views.active) 1) _ _
      (λ ends. lawful-welcome m.views same m.asked m.shuffled new (differ new m.views.owner foreign))
      (λ goes_on. if_either (λ noted. Law (walk_on dice sender new (ttl - 1) noted)) (ttl == m.views.limits.prwl) _ _
      (λ notes. lawful-walk_on (view.add_passive dice new m.views)
      (record {
        sound = sound-add_passive dice new m.views sound;
        owner = owner-add_passive dice new m.views;
        limits = limits-add_passive dice new m.views;
        active = active-add_passive dice new m.views;
      }) sender new (ttl - 1) (differ new m.views.owner foreign))
      (λ passes. lawful-walk_on m.views same sender new (ttl - 1) (differ new m.views.owner foreign))))

  pub lawful-neighbor : (sender : Name) (high : Bool) → sender ≢ m.views.owner → Law (on_neighbor dice sender high (still m))
  lawful-neighbor sender high another =
      if_either Law (high || (has_name m.views.active sender || view.has_room m.views)) _ _
      (λ accepted. lawful-send m (admit dice sender (still m))
      (lawful-admit m m.views same m.asked m.shuffled [] tt dice sender) sender (body.NeighborReply true) another)
      (λ refused. lawful-send m (still m) (lawful-quiet m m.views same m.asked m.shuffled [] tt) sender (body.NeighborReply false) another)

  -- what holds once a request is closed or not holds when it is closed
  closed : (P : Turn → Type 0) (name : Name) → ((asked : Option Name) → P (quiet m m.views asked m.shuffled [])) → P (close_request name (still m))
  closed P name h = if_either P (is_asked name m.asked) _ _ (λ is. h None) (λ is. h m.asked)

  pub lawful-reply : (sender : Name) (accepted : Bool) → sender ≢ m.views.owner → Law (on_reply dice sender accepted (still m))
  lawful-reply sender true another =
      closed
      (λ t. Law (if has_name t.views.active sender then t else if view.has_room t.views then admit dice sender t else send sender body.Disconnect t)) sender
      (λ asked. if_either Law (has_name m.views.active sender) _ _ (λ there. lawful-quiet m m.views same asked m.shuffled [] tt)
      (λ absent. if_either Law (view.has_room m.views) _ _ (λ room. lawful-admit m m.views same asked m.shuffled [] tt dice sender)
      (λ full. lawful-send m (quiet m m.views asked m.shuffled []) (lawful-quiet m m.views same asked m.shuffled [] tt) sender body.Disconnect another)))
  lawful-reply sender false another =
      closed (λ t. Law (step_down dice sender t)) sender (λ asked. lawful-step_down m m.views same asked m.shuffled [] tt dice sender)

  pub lawful-disconnect : (sender : Name) → Law (on_disconnect dice sender (still m))
  lawful-disconnect sender =
      if_either Law (has_name m.views.active sender) _ _
      (λ there. lawful-promote m (step_down dice sender (still m)) (lawful-step_down m m.views same m.asked m.shuffled [] tt dice sender) dice (sender ∷ []))
      (λ absent. lawful-quiet m m.views same m.asked m.shuffled [] tt)

  pub lawful-down : (peer : Name) → Law (on_down dice peer (still m))
  lawful-down peer =
      if_either Law (has_name m.views.active peer) _ _
      (λ there. lawful-promote m (close_request peer (lose peer (still m)))
      (lawful-close m (lose peer (still m)) (lawful-lose m m.views same m.asked m.shuffled [] tt dice peer there) peer) dice [])
      (λ absent. if_either Law (is_asked peer m.asked) _ _
      (λ is. lawful-promote m (close_request peer (forget peer (still m))) (lawful-close m (forget peer (still m)) (forgets absent) peer) dice [])
      (λ is. lawful-quiet m m.views same m.asked m.shuffled [] tt))
    where
      forgets : has_name m.views.active peer ≡ false → Law (forget peer (still m))
      forgets absent =
          lawful-quiet m
          (view.forget peer m.views)
          (record { sound = sound-forget peer m.views sound; owner = refl; limits = refl; active = active-forget_absent dice peer m.views sound absent })
          m.asked m.shuffled [] tt

  pub lawful-start_shuffle : Law (start_shuffle dice (still m))
  lawful-start_shuffle =
      option_either Law (chosen (word dice 1) m.views.active) _ _
      (λ target is. lawful-quiet m m.views same m.asked (shuffled_passive dice m.views) _
      (active_another m m.views same m.asked m.shuffled [] tt target (chosen_is_there (word dice 1) m.views.active target is), tt))
      (lawful-quiet m m.views same m.asked m.shuffled [] tt)

  pub lawful-tick : Law (on_tick dice (still m))
  lawful-tick =
      if_either Law (view.has_room (start_shuffle dice (still m)).views) _ _
      (λ room. lawful-promote m (record (start_shuffle dice (still m)) { asked = None })
      (lawful-asked m (start_shuffle dice (still m)) lawful-start_shuffle None) dice [])
      (λ full. lawful-start_shuffle)

  -- the views after an integration
  integrated : (names sent : List Name) → Alike m (view.integrate names sent dice m.views)
  integrated names sent =
      let s = same-integrate names sent dice m.views in
      record { sound = sound-integrate names sent dice m.views sound; owner = s.owner; limits = s.limits; active = s.active }

  pub lawful-shuffle : (sender origin : Name) (ttl : ℕ) (names : List Name) → Law (on_shuffle dice sender origin ttl names (still m))
  lawful-shuffle sender origin ttl names =
      if_either Law (same_name origin m.views.owner) _ _ (λ own. lawful-quiet m m.views same m.asked m.shuffled [] tt)
      (λ foreign. if_either Law (nat_lt 0 (ttl - 1) && nat_lt 1 (length m.views.active)) _ _
      (λ goes_on. option_either Law (chosen (word dice 1) (others (sender ∷ origin ∷ []) m.views.active)) _ _
      (λ next is. lawful-send m (still m) (lawful-quiet m m.views same m.asked m.shuffled [] tt) next (body.Shuffle origin (ttl - 1) names)
      (active_another m m.views same m.asked m.shuffled [] tt next (chosen_other_is_there (word dice 1) (sender ∷ origin ∷ []) m.views.active next is)))
      (accepts foreign))
      (λ ends. accepts foreign))
    where
      accepts : same_name origin m.views.owner ≡ false → Law (accept_shuffle dice origin names (still m))
      accepts foreign =
          lawful-quiet m _ (integrated names _) m.asked m.shuffled _ (differ origin m.views.owner foreign, tt)

  pub lawful-shuffle_reply : (names : List Name) → Law (on_shuffle_reply dice names (still m))
  lawful-shuffle_reply names = lawful-quiet m _ (integrated names m.shuffled) m.asked [] [] tt

-- every row is
pub table_is_lawful : (m : Membership) (event : Event) (dice : Dice) →
    view.AreSound m.views →
    IsFromAnother m.views.owner event →
    Lawful m (table event dice (still m))
table_is_lawful m (Joins contact) dice sound another =
    lawful-send m (still m) (lawful-quiet m m.views (same m sound dice) m.asked m.shuffled [] tt) contact body.Join another
table_is_lawful m (Join sender) dice sound another = lawful-join m sound dice sender another
table_is_lawful m (ForwardJoin sender new ttl) dice sound another = lawful-forward_join m sound dice sender new ttl
table_is_lawful m (Neighbor sender high) dice sound another = lawful-neighbor m sound dice sender high another
table_is_lawful m (Reply sender accepted) dice sound another = lawful-reply m sound dice sender accepted another
table_is_lawful m (Disconnect sender) dice sound another = lawful-disconnect m sound dice sender
table_is_lawful m (Shuffle sender origin ttl names) dice sound another = lawful-shuffle m sound dice sender origin ttl names
table_is_lawful m (ShuffleReply sender names) dice sound another = lawful-shuffle_reply m sound dice names
table_is_lawful m (Down peer) dice sound another = lawful-down m sound dice peer
table_is_lawful m Tick dice sound another = lawful-tick m sound dice
