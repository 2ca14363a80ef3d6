-- One request stands at a time.
use Rattle.std.proofs.Common.{◌≡◌, ◌-◌, ◌⊎◌, inl, inr, ℕ, Bool, true, false, ◌||◌, ◌&&◌, ◌==◌, List, [], ◌∷◌}
use Rattle.std.proofs.Common.{length, refl, sym, ap, subst, ◌∙◌, true≢false, None, Some, is_none, nat_lt, nat_le}
use Rattle.node_names.specs.NodeName.{Name}
use Rattle.node_names.specs.Same.{same_name, has_name, same_name-Decides}
use Rattle.node_names.specs.declared.dice.Dice.{Dice}
use Rattle.views.specs.Names.{word, chosen, others}
use Rattle.views.specs.Views as view
use Rattle.views.proofs.CallerLemmas.{chosen_other_is_there}
use Rattle.membership.specs.Membership.{Membership, Turn, still}
use Rattle.membership.specs.Event.{Event}
use Rattle.membership.specs.declared.event.EventOf.TheVariants.{Joins, Join, ForwardJoin, Neighbor, Reply, Disconnect, Shuffle, ShuffleReply, Down, Tick}
use Rattle.membership.specs.Blocks.{admit, step_down, lose, forget, is_asked, close_request, ask, promote}
use Rattle.membership.specs.Table.{walk_on, on_forward_join, on_neighbor, on_reply, on_disconnect, on_down, start_shuffle, on_tick, on_shuffle, table}
use Rattle.membership.specs.Laws.{IsAsking, OneRequest}
use Rattle.membership.proofs.Lawful.{if_either, option_either}

and_right : (a b : Bool) → (a && b) ≡ true → b ≡ true
and_right true b e = e
and_right false b e = absurd (true≢false (sym e))

-- ---- who is asked after each block

asked-admit : (dice : Dice) (name : Name) (t : Turn) → (admit dice name t).asked ≡ t.asked
asked-admit dice name t = if_either (λ u. u.asked ≡ t.asked) (view.is_settled t.views name) _ _ (λ settled. refl) (λ new. refl)

asked-step_down : (dice : Dice) (name : Name) (t : Turn) → (step_down dice name t).asked ≡ t.asked
asked-step_down dice name t = if_either (λ u. u.asked ≡ t.asked) (has_name t.views.active name) _ _ (λ there. refl) (λ absent. refl)

-- a request that is closed or not is no new one
asked-close : (name : Name) (t : Turn) (q : Name) → (close_request name t).asked ≡ Some q → t.asked ≡ Some q
asked-close name t q = if_either (λ u. u.asked ≡ Some q → t.asked ≡ Some q) (is_asked name t.asked) _ _ (λ is e. cc) (λ is e. e)

-- a request stays unless it is to the name
close-keeps : (name : Name) (t : Turn) (q : Name) → t.asked ≡ Some q → ((close_request name t).asked ≡ Some q) ⊎ (name ≡ q)
close-keeps name t q stands =
    if_either (λ u. (u.asked ≡ Some q) ⊎ (name ≡ q)) (is_asked name t.asked) _ _
    (λ is. inr ((same_name-Decides name q).0 (sym (ap (is_asked name) stands) ∙ is)))
    (λ is. inl stands)

-- a promotion asks no other name while a request stands
promote-keeps : (dice : Dice) (excepted : List Name) (t : Turn) (q : Name) → t.asked ≡ Some q → (promote dice excepted t).asked ≡ Some q
promote-keeps dice excepted t q stands =
    if_either (λ u. u.asked ≡ Some q) (view.has_room t.views && is_none t.asked) _ _
    (λ may. absurd (true≢false (sym (and_right (view.has_room t.views) (is_none t.asked) may) ∙ ap is_none stands)))
    (λ may. stands)

-- and sends the request to the name that it asks
promote-tells : (dice : Dice) (excepted : List Name) (t : Turn) (q : Name) →
    (promote dice excepted t).asked ≡ Some q →
    (t.asked ≡ Some q) ⊎ IsAsking q (promote dice excepted t)
promote-tells dice excepted t q =
    if_either (λ u. u.asked ≡ Some q → (t.asked ≡ Some q) ⊎ IsAsking q u) (view.has_room t.views && is_none t.asked) _ _
    (λ may. option_either (λ u. u.asked ≡ Some q → (t.asked ≡ Some q) ⊎ IsAsking q u)
    (chosen (word dice 2) (others excepted t.views.passive)) _ _ asks (λ e. inl e))
    (λ may e. inl e)
  where
    asks : (name : Name) →
        chosen (word dice 2) (others excepted t.views.passive) ≡ Some name →
        Some name ≡ Some q →
        (t.asked ≡ Some q) ⊎ IsAsking q (ask name t)
    asks name is e =
        let same : name ≡ q = cc in
        subst (λ other. (t.asked ≡ Some other) ⊎ IsAsking other (ask name t)) same
        (inr (record { passive = chosen_other_is_there (word dice 2) excepted t.views.passive name is; earlier = t.sends; last = refl }))

-- ---- the rows

module _ (m : Membership) (event : Event) where
  -- where the request stays as it was
  unasked : (t : Turn) → t.asked ≡ m.asked → OneRequest m event t
  unasked t same = record { told = λ name is. inl (sym same ∙ is); stands = λ name is. inl (same ∙ is) }

module _ (m : Membership) (dice : Dice) where
  asked-walk_on : (v : view.Views) (sender new : Name) (ttl : ℕ) → (walk_on dice sender new ttl (record (still m) { views = v })).asked ≡ m.asked
  asked-walk_on v sender new ttl =
      option_either (λ t. t.asked ≡ m.asked) (chosen (word dice 1) (others (sender ∷ new ∷ []) v.active)) _ _
      (λ next is. refl) (asked-admit dice new (record (still m) { views = v }))

  asked-forward_join : (sender new : Name) (ttl : ℕ) → (on_forward_join dice sender new ttl (still m)).asked ≡ m.asked
  asked-forward_join sender new ttl =
      if_either (λ t. t.asked ≡ m.asked) (same_name new m.views.owner) _ _ (λ own. refl)
      (λ foreign. if_either (λ t. t.asked ≡ m.asked) (ttl == 0 || nat_le (length m.views.active) 1) _ _
      (λ ends. asked-admit dice new (still m))
      (λ goes_on. if_either (λ noted. (walk_on dice sender new (ttl - 1) noted).asked ≡ m.asked) (ttl == m.views.limits.prwl) _ _
      (λ notes. asked-walk_on (view.add_passive dice new m.views) sender new (ttl - 1))
      (λ passes. asked-walk_on m.views sender new (ttl - 1))))

  asked-neighbor : (sender : Name) (high : Bool) → (on_neighbor dice sender high (still m)).asked ≡ m.asked
  asked-neighbor sender high =
      if_either (λ t. t.asked ≡ m.asked) (high || (has_name m.views.active sender || view.has_room m.views)) _ _
      (λ accepted. asked-admit dice sender (still m)) (λ refused. refl)

  asked-shuffle : (sender origin : Name) (ttl : ℕ) (names : List Name) → (on_shuffle dice sender origin ttl names (still m)).asked ≡ m.asked
  asked-shuffle sender origin ttl names =
      if_either (λ t. t.asked ≡ m.asked) (same_name origin m.views.owner) _ _ (λ own. refl)
      (λ foreign. if_either (λ t. t.asked ≡ m.asked) (nat_lt 0 (ttl - 1) && nat_lt 1 (length m.views.active)) _ _
      (λ goes_on. option_either (λ t. t.asked ≡ m.asked) (chosen (word dice 1) (others (sender ∷ origin ∷ []) m.views.active)) _ _ (λ next is. refl) refl)
      (λ ends. refl))

  asked-start_shuffle : (start_shuffle dice (still m)).asked ≡ m.asked
  asked-start_shuffle = option_either (λ t. t.asked ≡ m.asked) (chosen (word dice 1) m.views.active) _ _ (λ target is. refl) refl

  -- an answer closes the request to its sender, and no other
  asked-reply : (sender : Name) (accepted : Bool) → (on_reply dice sender accepted (still m)).asked ≡ (close_request sender (still m)).asked
  asked-reply sender true =
      if_either (λ t. t.asked ≡ (close_request sender (still m)).asked) (has_name (close_request sender (still m)).views.active sender) _ _ (λ there. refl)
      (λ absent. if_either (λ t. t.asked ≡ (close_request sender (still m)).asked) (view.has_room (close_request sender (still m)).views) _ _
      (λ room. asked-admit dice sender (close_request sender (still m))) (λ full. refl))
  asked-reply sender false = asked-step_down dice sender (close_request sender (still m))

  one-reply : (sender : Name) (accepted : Bool) → OneRequest m (Reply sender accepted) (on_reply dice sender accepted (still m))
  one-reply sender accepted =
      record {
        told = λ name is. inl (asked-close sender (still m) name (sym (asked-reply sender accepted) ∙ is));
        stands = λ name is. elim (close-keeps sender (still m) name is) [ inl stays ↦ inl (asked-reply sender accepted ∙ stays) | inr same ↦ inr same ];
      }

  one-disconnect : (sender : Name) → OneRequest m (Disconnect sender) (on_disconnect dice sender (still m))
  one-disconnect sender =
      if_either (OneRequest m (Disconnect sender)) (has_name m.views.active sender) _ _
      (λ there. record {
        told =
            λ name is. elim (promote-tells dice (sender ∷ []) (step_down dice sender (still m)) name is) [
              | inl was ↦ inl (sym (asked-step_down dice sender (still m)) ∙ was)
              | inr asking ↦ inr asking
            ];
        stands = λ name is. inl (promote-keeps dice (sender ∷ []) (step_down dice sender (still m)) name (asked-step_down dice sender (still m) ∙ is));
      })
      (λ absent. unasked m (Disconnect sender) (still m) refl)

  -- where the peer has left, and nothing else has happened to the request
  one-left : (peer : Name) (t : Turn) → t.asked ≡ m.asked → OneRequest m (Down peer) (promote dice [] (close_request peer t))
  one-left peer t same =
      record {
        told =
            λ name is. elim (promote-tells dice [] (close_request peer t) name is) [
              | inl was ↦ inl (sym same ∙ asked-close peer t name was)
              | inr asking ↦ inr asking
            ];
        stands =
            λ name is. elim (close-keeps peer t name (same ∙ is)) [
              | inl stays ↦ inl (promote-keeps dice [] (close_request peer t) name stays)
              | inr closes ↦ inr closes
            ];
      }

  one-down : (peer : Name) → OneRequest m (Down peer) (on_down dice peer (still m))
  one-down peer =
      if_either (OneRequest m (Down peer)) (has_name m.views.active peer) _ _ (λ there. one-left peer (lose peer (still m)) refl)
      (λ absent. if_either (OneRequest m (Down peer)) (is_asked peer m.asked) _ _
      (λ is. one-left peer (forget peer (still m)) refl) (λ is. unasked m (Down peer) (still m) refl))

  one-tick : OneRequest m Tick (on_tick dice (still m))
  one-tick =
      if_either (OneRequest m Tick) (view.has_room (start_shuffle dice (still m)).views) _ _
      (λ room. record {
        told =
            λ name is. elim (promote-tells dice [] (record (start_shuffle dice (still m)) { asked = None }) name is) [
              | inl was ↦ absurd cc
              | inr asking ↦ inr asking
            ];
        stands = λ name is. inr tt;
      })
      (λ full. unasked m Tick (start_shuffle dice (still m)) asked-start_shuffle)

pub table_asks_one : (m : Membership) (event : Event) (dice : Dice) → OneRequest m event (table event dice (still m))
table_asks_one m (Joins contact) dice = unasked m (Joins contact) _ refl
table_asks_one m (Join sender) dice = unasked m (Join sender) _ (asked-admit dice sender (still m))
table_asks_one m (ForwardJoin sender new ttl) dice = unasked m (ForwardJoin sender new ttl) _ (asked-forward_join m dice sender new ttl)
table_asks_one m (Neighbor sender high) dice = unasked m (Neighbor sender high) _ (asked-neighbor m dice sender high)
table_asks_one m (Reply sender accepted) dice = one-reply m dice sender accepted
table_asks_one m (Disconnect sender) dice = one-disconnect m dice sender
table_asks_one m (Shuffle sender origin ttl names) dice = unasked m (Shuffle sender origin ttl names) _ (asked-shuffle m dice sender origin ttl names)
table_asks_one m (ShuffleReply sender names) dice = unasked m (ShuffleReply sender names) _ refl
table_asks_one m (Down peer) dice = one-down m dice peer
table_asks_one m Tick dice = one-tick m dice
