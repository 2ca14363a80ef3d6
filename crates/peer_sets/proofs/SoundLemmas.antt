-- What keeps the peer sets sound.
use Rattle.std.specs.Prelude.{◌≡◌, ◌&&◌, ℕ, Bool, true, false, not, List, [], ◌∷◌, ◌++◌, Option, map, filter, refl, if◌then◌else◌}
use Rattle.std.specs.declared.result.Result.{Result}
use Rattle.std.specs.declared.result.Result.TheVariants.{Ok, Err}
use Rattle.std.specs.Prelude.{OnOk, OnErr}
use Rattle.std.specs.Bool.{Decides}
use Rattle.std.specs.Cmp.{IsEquivalence, decided}
use Rattle.std.specs.List.{AllByRecursion as Each, IsDistinct, list_any}
use Rattle.std.proofs.Common.{ap, sym, subst, ◌∙◌}
use Rattle.std.proofs.lemmas.Bool.{false≢true}
use Rattle.std.proofs.lemmas.Bool.Decides.{Decides-like, Decides-and}
use Rattle.std.proofs.lemmas.List.{map-append}
use Rattle.std.proofs.lemmas.Map.Keys.{IsDistinct-push}
use Rattle.node_names.specs.NodeName.{Name}
use Rattle.node_names.specs.Same.{same_name, same_name-Decides, same_id, same_id-Decides}
use Rattle.node_names.specs.declared.ids.MsgId.{MsgId}
use Rattle.node_names.proofs.Distinct.{each-weaker, each-map, each-append, each-filter, distinct-filter, distinct-map, distinct-append}
use Rattle.peer_sets.proofs.MemberLemmas.{is_member-same, names-all_eager, names-with_kind, distinct-with_member, stays-with_member}
use Rattle.peer_sets.proofs.MemberLemmas.{distinct-without_member, stays-without_member, distinct-lazy_but, lazy_but_are_members}
use Rattle.peer_sets.proofs.QueueLemmas.{places-without}
use Rattle.peer_sets.specs.Members.{is_member, lazy_but, all_eager, with_member, with_members, without_member, without_members, with_kind}
use Rattle.peer_sets.specs.PeerSets.{IsSound, relinked}
use Rattle.peer_sets.specs.Queue.{place_of, same_place, is_queued, with_entry, with_entries, without_entries, without_all_entries}
use Rattle.peer_sets.specs.declared.members.PeerKind.{PeerKind}

-- what holds of what a call leaves in either case
pub by_result : {T E X : Type 0} (P : X → Type 0) (r : Result T E) (new ok err : X) → OnOk r (new ≡ ok) → OnErr r (new ≡ err) → P ok → P err → P new
by_result P (Ok v) new ok err is_ok is_err p q = subst P (sym is_ok) p
by_result P (Err e) new ok err is_ok is_err p q = subst P (sym is_err) q

not_true : (b : Bool) → not b ≡ true → b ≡ false
not_true true h = absurd (false≢true h)
not_true false h = refl

same_place-Decides : (a b : Name × MsgId) → Decides (same_place a b) (a ≡ b)
same_place-Decides a b =
    Decides-like (same_place a b)
    (λ e i. (e.0 i, e.1 i))
    (λ e. (ap (λ (p : Name × MsgId). p.0) e, ap (λ (p : Name × MsgId). p.1) e))
    (Decides-and _ _ (same_name-Decides a.0 b.0) (same_id-Decides a.1 b.1))

same_place-laws : IsEquivalence same_place
same_place-laws = decided same_place same_place-Decides

-- ---- the members change

pub sound-new : (peers : List Name) → IsDistinct same_name peers → IsSound (record { members = all_eager peers; queued = [] })
unfolding IsDistinct
sound-new peers distinct = record { distinct = subst (IsDistinct same_name) (sym (names-all_eager peers)) distinct; for_members = tt; once = tt }

module _ (members : List (Name × PeerKind)) (queued : List (Name × MsgId × ℕ)) (sound : IsSound (record { members = members; queued = queued })) where
  pub sound-with_member : (name : Name) → IsSound (record { members = with_member name members; queued = queued })
  sound-with_member name =
      record {
        distinct = distinct-with_member name members sound.distinct;
        for_members =
            each-weaker (λ entry. is_member members entry.0 ≡ true) (λ entry. is_member (with_member name members) entry.0 ≡ true)
            (λ entry. stays-with_member name members entry.0) queued sound.for_members;
        once = sound.once;
      }

  pub sound-with_kind : (name : Name) (kind : PeerKind) → IsSound (record { members = with_kind name kind members; queued = queued })
  sound-with_kind name kind =
      record {
        distinct = subst (IsDistinct same_name) (sym (names-with_kind name kind members)) sound.distinct;
        for_members =
            each-weaker (λ entry. is_member members entry.0 ≡ true) (λ entry. is_member (with_kind name kind members) entry.0 ≡ true)
            (λ entry is. is_member-same (with_kind name kind members) members (names-with_kind name kind members) entry.0 ∙ is) queued sound.for_members;
        once = sound.once;
      }

  pub sound-without : (name : Name) → IsSound (record { members = without_member name members; queued = without_entries name queued })
  sound-without name =
      record {
        distinct = distinct-without_member name members sound.distinct;
        for_members =
            each-filter (λ entry. is_member members entry.0 ≡ true) (λ entry. is_member (without_member name members) entry.0 ≡ true)
            (λ entry. not (same_name name entry.0)) (λ entry is apart. stays-without_member name members entry.0 is apart) queued sound.for_members;
        once =
            subst (IsDistinct same_place) (sym (places-without name queued))
            (distinct-filter same_place (λ p. not (same_name name p.0)) (map place_of queued) sound.once);
      }

  -- ---- the queue changes

  pub sound-cleared : IsSound (record { members = members; queued = [] })
  unfolding IsDistinct
  sound-cleared = record { distinct = sound.distinct; for_members = tt; once = tt }

  pub sound-with_entry : (peer : Name) (id : MsgId) (round : ℕ) →
      is_member members peer ≡ true →
      IsSound (record { members = members; queued = with_entry peer id round queued })
  sound-with_entry peer id round is = go (is_queued peer id queued) refl
    where
      go : (b : Bool) → is_queued peer id queued ≡ b → IsSound (record { members = members; queued = if b then queued else queued ++ (peer, id, round) ∷ [] })
      go true there = sound
      go false new =
          record {
            distinct = sound.distinct;
            for_members = each-append (λ entry. is_member members entry.0 ≡ true) queued ((peer, id, round) ∷ []) sound.for_members (is, tt);
            once =
                subst (IsDistinct same_place) (sym (map-append place_of queued ((peer, id, round) ∷ [])))
                (IsDistinct-push same_place-laws (map place_of queued) (peer, id) sound.once new);
          }

  pub sound-with_entries : (peers : List Name) (id : MsgId) (round : ℕ) →
      IsDistinct same_name peers →
      Each (λ name. is_member members name ≡ true) peers →
      IsSound (record { members = members; queued = with_entries peers id round queued })
  sound-with_entries peers id round distinct are =
      record {
        distinct = sound.distinct;
        for_members =
            each-append (λ entry. is_member members entry.0 ≡ true) queued (map entry_for new) sound.for_members (each-map entry_for
            (λ entry. is_member members entry.0 ≡ true)
            new
            (each-filter (λ name. is_member members name ≡ true) (λ name. is_member members name ≡ true) is_new (λ name is passes. is) peers are));
        once =
            subst (IsDistinct same_place) (sym (map-append place_of queued (map entry_for new)))
            (distinct-append same_place-laws (map place_of queued) (map place_of (map entry_for new)) sound.once places_differ places_are_new);
      }
    where
      entry_for : Name → Name × MsgId × ℕ
      entry_for peer = (peer, id, round)

      is_new : Name → Bool
      is_new peer = not (is_queued peer id queued)

      new : List Name
      new = filter is_new peers

      places_differ : IsDistinct same_place (map place_of (map entry_for new))
      places_differ =
          distinct-map same_entry same_place place_of (λ a b apart. apart) (map entry_for new)
          (distinct-map same_name same_entry entry_for (λ a b apart. ap (λ c. c && same_id id id) apart) new (distinct-filter same_name is_new peers distinct))
        where
          same_entry : Name × MsgId × ℕ → Name × MsgId × ℕ → Bool
          same_entry a b = same_place (place_of a) (place_of b)

      places_are_new : Each (λ place. list_any (same_place place) (map place_of queued) ≡ false) (map place_of (map entry_for new))
      places_are_new =
          each-map place_of (λ place. list_any (same_place place) (map place_of queued) ≡ false) (map entry_for new)
          (each-map entry_for (λ entry. list_any (same_place (place_of entry)) (map place_of queued) ≡ false) new
          (each-filter (λ name. is_member members name ≡ true) (λ name. is_queued name id queued ≡ false) is_new
          (λ name is passes. not_true (is_queued name id queued) passes) peers are))

  pub sound-with_lazy : (left_out : Option Name) (id : MsgId) (round : ℕ) →
      IsSound (record { members = members; queued = with_entries (lazy_but left_out members) id round queued })
  sound-with_lazy left_out id round =
      sound-with_entries (lazy_but left_out members) id round (distinct-lazy_but left_out members sound.distinct) (lazy_but_are_members left_out members)

-- ---- links go down and come up

sound-with_members : (names : List Name) (members : List (Name × PeerKind)) (queued : List (Name × MsgId × ℕ)) →
    IsSound (record { members = members; queued = queued }) →
    IsSound (record { members = with_members names members; queued = queued })
sound-with_members [] members queued sound = sound
sound-with_members (name ∷ names) members queued sound =
    sound-with_members names (with_member name members) queued (sound-with_member members queued sound name)

sound-without_members : (names : List Name) (members : List (Name × PeerKind)) (queued : List (Name × MsgId × ℕ)) →
    IsSound (record { members = members; queued = queued }) →
    IsSound (record { members = without_members names members; queued = without_all_entries names queued })
sound-without_members [] members queued sound = sound
sound-without_members (name ∷ names) members queued sound =
    sound-without_members names (without_member name members) (without_entries name queued) (sound-without members queued sound name)

pub sound-relinked : (downs ups : List Name) (members : List (Name × PeerKind)) (queued : List (Name × MsgId × ℕ)) →
    IsSound (record { members = members; queued = queued }) →
    IsSound (relinked downs ups (record { members = members; queued = queued }))
sound-relinked downs ups members queued sound =
    sound-with_members ups (without_members downs members) (without_all_entries downs queued) (sound-without_members downs members queued sound)
