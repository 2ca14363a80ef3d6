-- What the flooding core does when it takes a message, law by law: proofs, with nothing to take on trust.
use Rattle.std.specs.Prelude.{◌≡◌, ◌≢◌, ◌⊎◌, ℕ, not, true, false, List, [], ◌∷◌, ◌++◌, Option, Some, None, map, is_some, refl}
use Rattle.std.specs.List.{AllByRecursion as Each}
use Rattle.std.specs.Map.{lookup}
use Rattle.std.proofs.Common.{inl, inr, sym, subst}
use Rattle.node_names.specs.NodeName.{Name}
use Rattle.node_names.specs.Same.{same_id, has_name, is_left_out}
use Rattle.node_names.specs.declared.ids.MsgId.{MsgId}
use Rattle.protocol.specs.AskLaw.{AsksNothing}
use Rattle.protocol.specs.Delivery.{Delivery}
use Rattle.protocol.specs.DeliveryLaw.{DeliveryLaw, Delivers, count_after}
use Rattle.protocol.specs.impl_proofs.NameLists.{each-map, each-all, each-filter, each_is_other}
use Rattle.protocol.specs.impl_proofs.Held.{same_inside, found_after_push, held_after_push, stays_after_push, pushed_is_held}
use Rattle.protocol.specs.Lists.{IsOneOf}
use Rattle.protocol.specs.PayloadLaw.{PayloadLaw, Brings, IsKnownPayload}
use Rattle.protocol.specs.QueueLaw.{AnnouncesNothing}
use Rattle.protocol.specs.Stimulus.{Stimulus}
use Rattle.protocol.specs.ViewLaw.{ViewLaw}
use Rattle.flood.specs.FloodCore.{Flooding, Message, Takes, flood_state, note_content, note_to, others, payload_of}

-- the packets, the deliveries and the core that taking the message gives
abbrev pub taken_sends : Flooding → MsgId → List ℕ → Option Name → List (Name × Message)
taken_sends old id payload left_out = map (note_to id payload) (others left_out old.peers)

abbrev pub taken_given : Flooding → MsgId → List ℕ → List Delivery
taken_given old id payload = record { node = old.me; id = id; payload = payload } ∷ []

abbrev pub taken_core : Flooding → MsgId → List ℕ → ℕ → Flooding
taken_core old id payload count = record old { held = old.held ++ (id, payload) ∷ []; count = count }

module _ (old : Flooding) (id : MsgId) (payload : List ℕ) (left_out : Option Name) (count : ℕ) where
  -- what holds of that holds of each outcome of taking the message
  pub by_takes : {sends : List (Name × Message)} {given : List Delivery} {new : Flooding} (P : List (Name × Message) → List Delivery → Flooding → Type 0) →
      Takes old id payload (others left_out old.peers) count sends given new →
      P (taken_sends old id payload left_out) (taken_given old id payload) (taken_core old id payload count) →
      P sends given new
  by_takes {sends} {given} {new} P t p =
      subst (λ n. P sends given n) (sym t.holds) (subst (λ g. P sends g (taken_core old id payload count)) (sym t.delivers)
      (subst (λ s. P s (taken_given old id payload) (taken_core old id payload count)) (sym t.forwards) p))

  -- each packet carries the message, so what holds of the message holds of all that a packet carries
  pub each_carries : (P : Name → MsgId → List ℕ → Type 0) →
      ((peer : Name) → P peer id payload) →
      Each (λ (send : Name × Message). (j : MsgId) (q : List ℕ) → (note_content send.1).carried ≡ Some (j, q) → P send.0 j q)
      (taken_sends old id payload left_out)
  each_carries P all =
      each-map (note_to id payload)
      (λ send. (j : MsgId) (q : List ℕ) → (note_content send.1).carried ≡ Some (j, q) → P send.0 j q)
      (others left_out old.peers)
      (each-all (λ peer. (j : MsgId) (q : List ℕ) → Some (id, payload) ≡ Some (j, q) → P peer j q)
      (λ peer j q e. subst (λ (m : MsgId × List ℕ). P peer m.0 m.1) (same_inside (id, payload) (j, q) e) (all peer)) (others left_out old.peers))

  -- the packets go to others
  pub takes_views : has_name old.peers old.me.name ≡ false → ViewLaw (flood_state old) (taken_sends old id payload left_out)
  takes_views of_others =
      each-map (note_to id payload) (λ send. send.0 ≢ old.me.name) (others left_out old.peers)
      (each-filter (λ other. other ≢ old.me.name) (λ name. not (is_left_out left_out name)) old.peers (each_is_other old.me.name old.peers of_others))

  -- they announce nothing
  pub announces_nothing : AnnouncesNothing note_content (taken_sends old id payload left_out)
  announces_nothing =
      each-map (note_to id payload) (λ send. (note_content send.1).announced ≡ [])
      (others left_out old.peers) (each-all (λ peer. [] ≡ []) (λ peer. refl) (others left_out old.peers))

  -- and ask for nothing
  pub asks_nothing : AsksNothing note_content (taken_sends old id payload left_out)
  asks_nothing =
      each-map (note_to id payload) (λ send. (note_content send.1).asked ≡ None) (others left_out old.peers)
      (each-all (λ peer. None ≡ None) (λ peer. refl) (others left_out old.peers))

  module _ (stimulus : Stimulus Message) where
    -- the payload came with the stimulus
    pub takes_payloads : Brings note_content (flood_state old) stimulus id payload →
        PayloadLaw note_content (flood_state old) stimulus (taken_sends old id payload left_out)
        (taken_given old id payload) (flood_state (taken_core old id payload count))
    takes_payloads brings =
        record {
          sent = each_carries (λ peer. IsKnownPayload note_content (flood_state old) stimulus) (λ peer. inr brings);
          delivered = (inr brings, tt);
          held =
              λ j q e. elim (found_after_push old.held id payload j q e) [
                | inl was ↦ inl was
                | inr same ↦
                    inr (subst (λ k. Brings note_content (flood_state old) stimulus k q) (sym same.0)
                    (subst (Brings note_content (flood_state old) stimulus id) (sym same.1) brings))
              ];
          sender_has =
              each_carries (λ peer j q. is_some (lookup (same_id j) (old.held ++ (id, payload) ∷ [])) ≡ true) (λ peer. pushed_is_held old.held id payload);
        }

    -- the message is delivered, as the stimulus demands, and held from then on
    pub takes_deliveries : Delivers note_content (flood_state old) stimulus (id ∷ []) →
        is_some (payload_of old id) ≡ false →
        count ≡ count_after old.count stimulus →
        DeliveryLaw note_content (flood_state old) stimulus (taken_given old id payload) (flood_state (taken_core old id payload count))
    takes_deliveries exact fresh counted =
        record {
          exact = exact;
          here = (refl, tt);
          fresh = (fresh, tt);
          grows = λ j. (before j, after j);
          counted = counted;
        }
      where
        before : (j : MsgId) →
            is_some (lookup (same_id j) (old.held ++ (id, payload) ∷ [])) ≡ true →
            (is_some (lookup (same_id j) old.held) ≡ true) ⊎ IsOneOf j (id ∷ [])
        before j is = elim (held_after_push old.held id payload j is) [ inl was ↦ inl was | inr same ↦ inr (inl same) ]

        after : (j : MsgId) →
            (is_some (lookup (same_id j) old.held) ≡ true) ⊎ IsOneOf j (id ∷ []) →
            is_some (lookup (same_id j) (old.held ++ (id, payload) ∷ [])) ≡ true
        after j (inl was) = stays_after_push old.held id payload j was
        after j (inr (inl same)) =
            subst (λ k. is_some (lookup (same_id k) (old.held ++ (id, payload) ∷ [])) ≡ true) (sym same) (pushed_is_held old.held id payload)
        after j (inr (inr none)) = absurd none
