-- What keeps a node's knowledge of missing messages sound.
use Rattle.std.specs.Prelude.{◌≡◌, ◌||◌, ℕ, Bool, true, false, not, List, [], ◌∷◌, ◌++◌, Some, is_some, map, filter, refl, if◌then◌else◌, cond}
use Rattle.std.specs.Bool.{Decides}
use Rattle.std.specs.Cmp.{IsEquivalence, decided}
use Rattle.std.specs.List.{AllByRecursion as Each, IsDistinct}
use Rattle.std.proofs.Common.{ap, sym, subst, ◌∙◌}
use Rattle.std.proofs.lemmas.Bool.{true≢false}
use Rattle.std.proofs.lemmas.Bool.Decides.{Decides-like, Decides-and}
use Rattle.std.proofs.lemmas.List.{map-append}
use Rattle.std.proofs.lemmas.List.Folds.{list_any-append}
use Rattle.std.proofs.lemmas.Map.Keys.{IsDistinct-push, IsDistinct-head, IsDistinct-tail, IsDistinct-cons}
use Rattle.std.proofs.lemmas.Map.Views.{any-filter_same}
use Rattle.node_names.specs.NodeName.{Name}
use Rattle.node_names.specs.Same.{same_name, same_name-Decides, same_id, same_id-Decides, same_id-laws, has_id}
use Rattle.node_names.specs.declared.ids.MsgId.{MsgId}
use Rattle.node_names.proofs.Distinct.{each-weaker, each-map, each-append, each-filter, distinct-filter}
use Rattle.missing.proofs.PlaceLemmas.{is_wanted-places}
use Rattle.missing.specs.Missing.{Missing, IsSound, announced, announced_all, taken_first, got, without, without_all}
use Rattle.missing.specs.Timers.{with_timer, without_timer}
use Rattle.missing.specs.Wants.{place_of, same_place, is_wanted, first_want, without_first}

or_true : (b : Bool) → (b || true) ≡ true
or_true true = refl
or_true false = refl

pub same_place-Decides : (a b : MsgId × Name) → Decides (same_place a b) (a ≡ b)
same_place-Decides a b =
    Decides-like (same_place a b)
    (λ e i. (e.0 i, e.1 i))
    (λ e. (ap (λ (p : MsgId × Name). p.0) e, ap (λ (p : MsgId × Name). p.1) e))
    (Decides-and _ _ (same_id-Decides a.0 b.0) (same_name-Decides a.1 b.1))

same_place-laws : IsEquivalence same_place
same_place-laws = decided same_place same_place-Decides

-- ---- timers

-- an armed id stays armed, and the new one is
stays_armed : (id : MsgId) (timers : List MsgId) (other : MsgId) → has_id timers other ≡ true → has_id (with_timer id timers) other ≡ true
stays_armed id timers other is = go (has_id timers id)
  where
    go : (b : Bool) → has_id (if b then timers else timers ++ id ∷ []) other ≡ true
    go true = is
    go false = list_any-append (same_id other) timers (id ∷ []) ∙ ap (λ b. b || has_id (id ∷ []) other) is

is_armed_now : (id : MsgId) (timers : List MsgId) → has_id (with_timer id timers) id ≡ true
is_armed_now id timers = go (has_id timers id) refl
  where
    go : (b : Bool) → has_id timers id ≡ b → has_id (if b then timers else timers ++ id ∷ []) id ≡ true
    go true is = is
    go false is =
        list_any-append (same_id id) timers (id ∷ []) ∙ ap (λ b. has_id timers id || (b || false)) ((same_id-Decides id id).1 refl) ∙ or_true (has_id timers id)

distinct-with_timer : (id : MsgId) (timers : List MsgId) → IsDistinct same_id timers → IsDistinct same_id (with_timer id timers)
distinct-with_timer id timers distinct = go (has_id timers id) refl
  where
    go : (b : Bool) → has_id timers id ≡ b → IsDistinct same_id (if b then timers else timers ++ id ∷ [])
    go true is = distinct
    go false is = IsDistinct-push same_id-laws timers id distinct is

-- another timer goes
stays_without : (id : MsgId) (timers : List MsgId) (other : MsgId) →
    has_id timers other ≡ true →
    not (same_id id other) ≡ true →
    has_id (without_timer id timers) other ≡ true
stays_without id timers other is apart =
    any-filter_same (same_id other) (λ armed. not (same_id id armed)) true
    (λ armed same. ap (λ i. not (same_id id i)) (sym ((same_id-Decides other armed).0 same)) ∙ apart) timers
    ∙ is

-- ---- entries

pub once-filter : (test : MsgId × Name × ℕ → Bool) (wants : List (MsgId × Name × ℕ)) →
    IsDistinct same_place (map place_of wants) →
    IsDistinct same_place (map place_of (filter test wants))
once-filter test [] once = once
once-filter test (entry ∷ wants) once = go (test entry) (once-filter test wants (IsDistinct-tail same_place (place_of entry) (map place_of wants) once))
  where
    others : Each (λ place. same_place (place_of entry) place ≡ false) (map place_of (filter test wants))
    others =
        each-map place_of (λ place. same_place (place_of entry) place ≡ false) (filter test wants)
        (each-filter (λ e. same_place (place_of entry) (place_of e) ≡ false) (λ e. same_place (place_of entry) (place_of e) ≡ false) test
        (λ e apart passes. apart) wants (from_map wants (IsDistinct-head same_place (place_of entry) (map place_of wants) once)))
      where
        from_map : (es : List (MsgId × Name × ℕ)) →
            Each (λ place. same_place (place_of entry) place ≡ false) (map place_of es) →
            Each (λ e. same_place (place_of entry) (place_of e) ≡ false) es
        from_map [] h = tt
        from_map (e ∷ es) h = (h.0, from_map es h.1)

    go : (b : Bool) →
        IsDistinct same_place (map place_of (filter test wants)) →
        IsDistinct same_place (map place_of (cond b (entry ∷ filter test wants) (filter test wants)))
    go true later = IsDistinct-cons same_place (place_of entry) (map place_of (filter test wants)) others later
    go false later = later

-- what holds of each entry still holds without the first of an id
each-without_first : (P : MsgId × Name × ℕ → Type 0) (id : MsgId) (wants : List (MsgId × Name × ℕ)) → Each P wants → Each P (without_first id wants)
each-without_first P id [] h = tt
each-without_first P id (entry ∷ wants) h = go (same_id id entry.0) (each-without_first P id wants h.1)
  where
    go : (b : Bool) → Each P (without_first id wants) → Each P (if b then wants else entry ∷ without_first id wants)
    go true later = h.1
    go false later = (h.0, later)

once-without_first : (id : MsgId) (wants : List (MsgId × Name × ℕ)) →
    IsDistinct same_place (map place_of wants) →
    IsDistinct same_place (map place_of (without_first id wants))
once-without_first id [] once = once
once-without_first id (entry ∷ wants) once =
    go (same_id id entry.0) (IsDistinct-tail same_place (place_of entry) (map place_of wants) once)
    (once-without_first id wants (IsDistinct-tail same_place (place_of entry) (map place_of wants) once))
  where
    others : Each (λ place. same_place (place_of entry) place ≡ false) (map place_of (without_first id wants))
    others =
        each-map place_of (λ place. same_place (place_of entry) place ≡ false) (without_first id wants)
        (each-without_first (λ e. same_place (place_of entry) (place_of e) ≡ false) id wants
        (from_map wants (IsDistinct-head same_place (place_of entry) (map place_of wants) once)))
      where
        from_map : (es : List (MsgId × Name × ℕ)) →
            Each (λ place. same_place (place_of entry) place ≡ false) (map place_of es) →
            Each (λ e. same_place (place_of entry) (place_of e) ≡ false) es
        from_map [] h = tt
        from_map (e ∷ es) h = (h.0, from_map es h.1)

    go : (b : Bool) →
        IsDistinct same_place (map place_of wants) →
        IsDistinct same_place (map place_of (without_first id wants)) →
        IsDistinct same_place (map place_of (if b then wants else entry ∷ without_first id wants))
    go true rest later = rest
    go false rest later = IsDistinct-cons same_place (place_of entry) (map place_of (without_first id wants)) others later

-- where the id has no entry, each entry is of another
none_of : (id : MsgId) (wants : List (MsgId × Name × ℕ)) → is_some (first_want id wants) ≡ false → Each (λ entry. not (same_id id entry.0) ≡ true) wants
none_of id [] none = tt
none_of id (entry ∷ wants) none = go (same_id id entry.0) none (none_of id wants) refl
  where
    go : (b : Bool) →
        is_some (if b then Some (entry.1, entry.2) else first_want id wants) ≡ false →
        (is_some (first_want id wants) ≡ false → Each (λ e. not (same_id id e.0) ≡ true) wants) →
        same_id id entry.0 ≡ b →
        Each (λ e. not (same_id id e.0) ≡ true) (entry ∷ wants)
    go true none later is = absurd (true≢false none)
    go false none later is = (ap not is, later none)

-- ---- the whole

pub sound-empty : IsSound (record { wants = []; timers = [] })
unfolding IsDistinct
sound-empty = record { once = tt; armed = tt; distinct = tt }

module _ (peer : Name) where
  pub sound-announced : (id : MsgId) (round : ℕ) (missing : Missing) → IsSound missing → IsSound (announced peer id round missing)
  sound-announced id round missing sound =
      record {
        once = once (is_wanted id peer missing.wants) refl;
        armed = armed (is_wanted id peer missing.wants);
        distinct = distinct-with_timer id missing.timers sound.distinct;
      }
    where
      once : (b : Bool) →
          is_wanted id peer missing.wants ≡ b →
          IsDistinct same_place (map place_of (if b then missing.wants else missing.wants ++ (id, peer, round) ∷ []))
      once true is = sound.once
      once false is =
          subst (IsDistinct same_place) (sym (map-append place_of missing.wants ((id, peer, round) ∷ [])))
          (IsDistinct-push same_place-laws (map place_of missing.wants) (id, peer) sound.once (is_wanted-places id peer missing.wants ∙ is))

      old : Each (λ entry. has_id (with_timer id missing.timers) entry.0 ≡ true) missing.wants
      old =
          each-weaker (λ entry. has_id missing.timers entry.0 ≡ true) (λ entry. has_id (with_timer id missing.timers) entry.0 ≡ true)
          (λ entry. stays_armed id missing.timers entry.0) missing.wants sound.armed

      armed : (b : Bool) →
          Each (λ entry. has_id (with_timer id missing.timers) entry.0 ≡ true) (if b then missing.wants else missing.wants ++ (id, peer, round) ∷ [])
      armed true = old
      armed false = each-append (λ entry. has_id (with_timer id missing.timers) entry.0 ≡ true) missing.wants ((id, peer, round) ∷ []) old (
        is_armed_now id missing.timers,
        tt,
      )

  pub sound-announced_all : (entries : List (MsgId × ℕ)) (missing : Missing) → IsSound missing → IsSound (announced_all peer entries missing)
  sound-announced_all [] missing sound = sound
  sound-announced_all (one ∷ entries) missing sound =
      sound-announced_all entries (announced peer one.0 one.1 missing) (sound-announced one.0 one.1 missing sound)

  pub sound-without : (missing : Missing) → IsSound missing → IsSound (without peer missing)
  sound-without missing sound =
      record {
        once = once-filter (λ entry. not (same_name peer entry.1)) missing.wants sound.once;
        armed =
            each-filter (λ entry. has_id missing.timers entry.0 ≡ true) (λ entry. has_id missing.timers entry.0 ≡ true)
            (λ entry. not (same_name peer entry.1)) (λ entry is passes. is) missing.wants sound.armed;
        distinct = sound.distinct;
      }

pub sound-without_all : (peers : List Name) (missing : Missing) → IsSound missing → IsSound (without_all peers missing)
sound-without_all [] missing sound = sound
sound-without_all (peer ∷ peers) missing sound = sound-without_all peers (without peer missing) (sound-without peer missing sound)

pub sound-got : (id : MsgId) (missing : Missing) → IsSound missing → IsSound (got id missing)
sound-got id missing sound =
    record {
      once = once-filter (λ entry. not (same_id id entry.0)) missing.wants sound.once;
      armed =
          each-filter (λ entry. has_id missing.timers entry.0 ≡ true) (λ entry. has_id (without_timer id missing.timers) entry.0 ≡ true)
          (λ entry. not (same_id id entry.0)) (λ entry is passes. stays_without id missing.timers entry.0 is passes) missing.wants sound.armed;
      distinct = distinct-filter same_id (λ armed. not (same_id id armed)) missing.timers sound.distinct;
    }

pub sound-taken_first : (id : MsgId) (missing : Missing) → IsSound missing → IsSound (taken_first id missing)
sound-taken_first id missing sound = go (is_some (first_want id missing.wants)) refl
  where
    kept : (wants : List (MsgId × Name × ℕ)) →
        Each (λ entry. has_id missing.timers entry.0 ≡ true) wants →
        Each (λ entry. not (same_id id entry.0) ≡ true) wants →
        Each (λ entry. has_id (without_timer id missing.timers) entry.0 ≡ true) wants
    kept [] armed others = tt
    kept (entry ∷ wants) armed others = (stays_without id missing.timers entry.0 armed.0 others.0, kept wants armed.1 others.1)

    go : (b : Bool) →
        is_some (first_want id missing.wants) ≡ b →
        IsSound (record { wants = without_first id missing.wants; timers = if b then missing.timers else without_timer id missing.timers })
    go true is =
        record {
          once = once-without_first id missing.wants sound.once;
          armed = each-without_first (λ entry. has_id missing.timers entry.0 ≡ true) id missing.wants sound.armed;
          distinct = sound.distinct;
        }
    go false is =
        record {
          once = once-without_first id missing.wants sound.once;
          armed =
              each-without_first (λ entry. has_id (without_timer id missing.timers) entry.0 ≡ true) id missing.wants
              (kept missing.wants sound.armed (none_of id missing.wants is));
          distinct = distinct-filter same_id (λ armed. not (same_id id armed)) missing.timers sound.distinct;
        }
