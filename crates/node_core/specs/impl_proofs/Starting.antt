-- A core starts: what a start must satisfy. Proofs only; nothing here has to be trusted.
use Rattle.std.specs.Prelude.{◌≡◌, ◌≢◌, ◌&&◌, ◌+◌, ℕ, true, false, not, List, Option, Some, None, length, refl, IsTrue, nat_le}
use Rattle.std.specs.FinSet as set
use Rattle.std.specs.List.{AllByRecursion as Each}
use Rattle.std.proofs.Common.{ap, sym, ◌∙◌, subst, zero-le}
use Rattle.std.proofs.lemmas.Bool.{false≢true, true≢false}
use Rattle.node_names.specs.NodeName.{Name}
use Rattle.node_names.specs.Limits.{Limits}
use Rattle.node_names.specs.Order.{id_cmp}
use Rattle.node_names.specs.Same.{same_name-Decides, has_name}
use Rattle.node_names.specs.declared.ids.Origin.{Origin}
use Rattle.protocol.specs.impl_proofs.NameLists.{distinct_peers, and_left, and_right, not_true, within_bound, distinct_none}
use Rattle.protocol.specs.Laws.{IsSilent, StartLaws}
use Rattle.protocol.specs.Peers.{are_peers, are_distinct, is_contact}
use Rattle.frames.specs.Content.{frame_content}
use Rattle.frames.specs.Frame.{Frame}
use Rattle.views.specs.Views.{ArePeers}
use Rattle.missing.proofs.SoundLemmas.{sound-empty}
use Rattle.peer_sets.proofs.MemberLemmas.{names-all_eager}
use Rattle.peer_sets.proofs.SoundLemmas.{sound-new}
use Rattle.node_core.specs.Plum.{Plum, IsSoundPlum, plum_state}
use Rattle.node_core.specs.Started.{IsStarted}
use Rattle.node_core.specs.Steps.{PlumStarts, PlumStartsCounted, newcomer, numbered, opening}

module _ (limits : Limits) (owner : Name) (peers : List Name) (contact : Option Name) (fit : IsTrue (are_peers limits owner peers contact)) where
  later : (are_distinct peers && (not (has_name peers owner) && not (is_contact contact owner))) ≡ true
  later = and_right (nat_le (length peers) limits.active) _ fit

  -- the peers are as the views require
  pub fit_views : ArePeers owner limits peers
  fit_views =
      record {
        within = within_bound (length peers) limits.active (and_left (nat_le (length peers) limits.active) _ fit);
        distinct = distinct_peers limits owner peers contact fit;
        of_others =
            not_true (has_name peers owner) (and_left (not (has_name peers owner)) (not (is_contact contact owner)) (and_right (are_distinct peers) _ later));
      }

  -- and the contact is not the node itself
  pub another_contact : is_contact contact owner ≡ false
  another_contact =
      not_true (is_contact contact owner) (and_right (not (has_name peers owner)) (not (is_contact contact owner)) (and_right (are_distinct peers) _ later))

module _ (spent framed : ℕ) (me : Origin) (limits : Limits) (peers : List Name) (contact : Option Name) (sends : List (Name × Frame)) (core : Plum)
    (fit : IsTrue (are_peers limits me.name peers contact)) (started : PlumStartsCounted spent framed me limits peers contact sends core) where
  to_another : (c : Option Name) → is_contact c me.name ≡ false → Each (λ send. send.0 ≢ me.name) (numbered me framed (opening c))
  to_another None apart = tt
  to_another (Some c) apart = ((λ same. true≢false (sym ((same_name-Decides c me.name).1 same) ∙ apart)), tt)

  silent : (c : Option Name) → Each (λ send. IsSilent (frame_content send.1)) (numbered me framed (opening c))
  silent None = tt
  silent (Some c) = (record { carries_nothing = refl; announces_nothing = refl; asks_nothing = refl }, tt)

  first : Plum
  first = newcomer me limits peers spent (framed + length (opening contact))

  first_laws : StartLaws frame_content me peers (numbered me framed (opening contact))
      (record (plum_state (newcomer me limits peers spent (framed + length (opening contact)))) { count = 0 })
  first_laws =
      record {
        is_me = refl;
        has_nothing = set.contains-empty id_cmp;
        holds_nothing = λ id. refl;
        lists_nothing = refl;
        active_are_peers = refl;
        passive_is_empty = refl;
        queue_is_empty = refl;
        wants_nothing = refl;
        arms_nothing = refl;
        counts_nothing = refl;
        sends_to_others = to_another contact (another_contact limits me.name peers contact fit);
        sends_silent = silent contact;
      }

  pub starts_well : StartLaws frame_content me peers sends (record (plum_state core) { count = 0 })
  starts_well =
      subst (λ (c : Plum). StartLaws frame_content me peers sends (record (plum_state c) { count = 0 })) (sym started.leaves)
      (subst (λ s. StartLaws frame_content me peers s (record (plum_state (newcomer me limits peers spent (framed + length (opening contact)))) { count = 0 }))
      (sym started.sent) first_laws)

  first_sound : IsSoundPlum limits (newcomer me limits peers spent (framed + length (opening contact)))
  first_sound =
      let fits : ArePeers me.name limits peers = fit_views limits me.name peers contact fit in
      record {
        views =
            record {
              allowed = started.allowed;
              active_within = fits.within;
              passive_within = zero-le;
              active_distinct = fits.distinct;
              passive_distinct = distinct_none;
              active_of_others = fits.of_others;
              passive_of_others = refl;
              disjoint = λ name is. refl;
            };
        its_limits = refl;
        its_keep = refl;
        owner = refl;
        its_gossip = refl;
        members = names-all_eager peers;
        whole =
            record {
              peers = sound-new peers fits.distinct;
              missing = sound-empty;
              store =
                  record {
                    counted = λ id is own. absurd (false≢true (sym (set.contains-empty id_cmp id) ∙ is));
                    held_is_known = λ id is. absurd (false≢true is);
                  };
              held_once = tt;
              known_is_held = λ none id is. absurd (false≢true (sym (set.contains-empty id_cmp id) ∙ is));
              queued_is_known = tt;
              wants_of_members = tt;
              wants_lacked = tt;
              timers_lacked = tt;
            };
      }

  pub starts_soundly : IsSoundPlum limits core
  starts_soundly = subst (IsSoundPlum limits) (sym started.leaves) first_sound

  pub starts_counted : IsStarted spent limits me peers sends core
  starts_counted = record { sound = starts_soundly; counted = ap (λ (c : Plum). c.gossip.spent) started.leaves; lawful = starts_well }

-- without spent numbers the count is that of the laws
pub starts_uncounted : (me : Origin) (limits : Limits) (peers : List Name) (contact : Option Name) (sends : List (Name × Frame)) (core : Plum) →
    IsTrue (are_peers limits me.name peers contact) →
    PlumStarts me limits peers contact sends core →
    StartLaws frame_content me peers sends (plum_state core)
starts_uncounted me limits peers contact sends core fit started =
    subst (λ n. StartLaws frame_content me peers sends (record (plum_state core) { count = n }))
    (sym (starts_counted 0 0 me limits peers contact sends core fit started).counted) (starts_well 0 0 me limits peers contact sends core fit started)
