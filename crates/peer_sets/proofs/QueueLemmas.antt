-- The queue, entry by entry.
use Rattle.std.proofs.Common.{◌≡◌, ◌∙◌, ◌&&◌, ◌||◌, ◌+◌, ◌<◌, ℕ, Bool, true, false, not, cond, List, [], ◌∷◌}
use Rattle.std.proofs.Common.{◌++◌, length, get_or, take, filter, map, sym, ap, refl, if◌then◌else◌, append-nil}
use Rattle.std.specs.List.{list_any}
use Rattle.std.proofs.lemmas.Bool.{false≢true}
use Rattle.std.proofs.lemmas.List.{take_more}
use Rattle.std.proofs.lemmas.List.Elements.{filter-append}
use Rattle.std.proofs.lemmas.Map.Views.{any-filter_same}
use Rattle.indexmap.specs.IndexSet.{insert_key}
use Rattle.node_names.specs.NodeName.{Name}
use Rattle.node_names.specs.Same.{same_name, same_name-Decides, same_name-laws, same_id}
use Rattle.node_names.specs.declared.ids.MsgId.{MsgId}
use Rattle.peer_sets.specs.Queue.{place_of, same_place, is_queued, has_entry_of, with_entries, receivers}

or_false : (b : Bool) → (b || false) ≡ b
or_false true = refl
or_false false = refl

-- a filter that drops what equals a name drops a later insertion of it, and no other
filters_insertion : (dropped name : Name) (names : List Name) →
    filter (λ p. not (same_name dropped p)) (insert_key same_name names name)
    ≡ (if same_name name dropped || list_any (same_name name) (filter (λ p. not (same_name dropped p)) names)
    then filter (λ p. not (same_name dropped p)) names
    else filter (λ p. not (same_name dropped p)) names ++ name ∷ [])
filters_insertion dropped name names = go (list_any (same_name name) names) (same_name name dropped) refl refl
  where
    others : List Name
    others = filter (λ p. not (same_name dropped p)) names

    stays : same_name name dropped ≡ false → list_any (same_name name) others ≡ list_any (same_name name) names
    stays apart =
        any-filter_same (same_name name) (λ p. not (same_name dropped p)) true
        (λ k same. ap (λ n. not (same_name dropped n)) (sym ((same_name-Decides name k).0 same)) ∙ ap not (same_name-laws.symm dropped name ∙ apart)) names

    go : (is_there is_dropped : Bool) →
        list_any (same_name name) names ≡ is_there →
        same_name name dropped ≡ is_dropped →
        filter (λ p. not (same_name dropped p)) (if is_there then names else names ++ name ∷ [])
        ≡ (if is_dropped || list_any (same_name name) others then others else others ++ name ∷ [])
    go true true there drops = refl
    go false true there drops =
        filter-append (λ p. not (same_name dropped p)) names (name ∷ [])
        ∙ ap (λ b. others ++ cond (not b) (name ∷ []) []) (same_name-laws.symm dropped name ∙ drops)
        ∙ append-nil others
    go true false there drops = ap (λ b. if b then others else others ++ name ∷ []) (sym (stays drops ∙ there))
    go false false there drops =
        filter-append (λ p. not (same_name dropped p)) names (name ∷ [])
        ∙ ap (λ b. others ++ cond (not b) (name ∷ []) []) (same_name-laws.symm dropped name ∙ drops)
        ∙ ap (λ b. if b then others else others ++ name ∷ []) (sym (stays drops ∙ there))

-- one more entry puts its receiver last, unless it is there
pub receivers-push : (queued : List (Name × MsgId × ℕ)) (entry : Name × MsgId × ℕ) →
    receivers (queued ++ entry ∷ []) ≡ insert_key same_name (receivers queued) entry.0
receivers-push [] entry = refl
receivers-push (first ∷ queued) entry =
    ap (λ names. first.0 ∷ filter (λ p. not (same_name first.0 p)) names) (receivers-push queued entry)
    ∙ ap (λ names. first.0 ∷ names) (filters_insertion first.0 entry.0 (receivers queued))
    ∙ go (same_name entry.0 first.0 || list_any (same_name entry.0) (filter (λ p. not (same_name first.0 p)) (receivers queued)))
  where
    go : (b : Bool) →
        first.0
        ∷ (if b then filter (λ p. not (same_name first.0 p)) (receivers queued) else filter (λ p. not (same_name first.0 p)) (receivers queued) ++ entry.0 ∷ [])
        ≡ (if b
        then first.0 ∷ filter (λ p. not (same_name first.0 p)) (receivers queued)
        else (first.0 ∷ filter (λ p. not (same_name first.0 p)) (receivers queued)) ++ entry.0 ∷ [])
    go true = refl
    go false = refl

-- an entry waits where its place is there
pub is_queued-entries : (peer : Name) (id : MsgId) (queued : List (Name × MsgId × ℕ)) →
    list_any (λ entry. same_place (peer, id) (place_of entry)) queued ≡ is_queued peer id queued
is_queued-entries peer id [] = refl
is_queued-entries peer id (entry ∷ queued) = ap (λ b. same_place (peer, id) (place_of entry) || b) (is_queued-entries peer id queued)

-- and that is what a look through the entries answers
pub is_queued-when : (peer : Name) (id : MsgId) (queued entries : List (Name × MsgId × ℕ)) (found : Bool) →
    entries ≡ queued →
    found ≡ list_any (λ entry. same_place (peer, id) (place_of entry)) entries →
    is_queued peer id queued ≡ found
is_queued-when peer id queued entries found are is =
    sym (is_queued-entries peer id queued) ∙ ap (list_any (λ entry. same_place (peer, id) (place_of entry))) (sym are) ∙ sym is

-- where no entry of the id waits, none waits for any one peer
not_queued : (peer : Name) (id : MsgId) (queued : List (Name × MsgId × ℕ)) → has_entry_of id queued ≡ false → is_queued peer id queued ≡ false
not_queued peer id [] none = refl
not_queued peer id (entry ∷ queued) none = go (same_name peer entry.0) (same_id id entry.1) none (not_queued peer id queued)
  where
    go : (named same : Bool) →
        (same || has_entry_of id queued) ≡ false →
        (has_entry_of id queued ≡ false → is_queued peer id queued ≡ false) →
        (named && same || is_queued peer id queued) ≡ false
    go named true none later = absurd (false≢true (sym none))
    go true false none later = later none
    go false false none later = later none

-- so each of the peers gets an entry
pub with_entries-new : (peers : List Name) (id : MsgId) (round : ℕ) (queued : List (Name × MsgId × ℕ)) →
    has_entry_of id queued ≡ false →
    with_entries peers id round queued ≡ queued ++ map (λ peer. (peer, id, round)) peers
with_entries-new peers id round queued none = ap (λ names. queued ++ map (λ peer. (peer, id, round)) names) (all peers)
  where
    all : (names : List Name) → filter (λ peer. not (is_queued peer id queued)) names ≡ names
    all [] = refl
    all (name ∷ names) =
        ap (λ b. cond (not b) (name ∷ filter (λ peer. not (is_queued peer id queued)) names) (filter (λ peer. not (is_queued peer id queued)) names))
        (not_queued name id queued none)
        ∙ ap (λ ns. name ∷ ns) (all names)

-- the places of the entries that are left are the places that are left
pub places-without : (peer : Name) (queued : List (Name × MsgId × ℕ)) →
    map place_of (filter (λ entry. not (same_name peer entry.0)) queued) ≡ filter (λ p. not (same_name peer p.0)) (map place_of queued)
places-without peer [] = refl
places-without peer (entry ∷ queued) = go (same_name peer entry.0) (places-without peer queued)
  where
    go : (same : Bool) →
        map place_of (filter (λ e. not (same_name peer e.0)) queued) ≡ filter (λ p. not (same_name peer p.0)) (map place_of queued) →
        map place_of (cond (not same) (entry ∷ filter (λ e. not (same_name peer e.0)) queued) (filter (λ e. not (same_name peer e.0)) queued))
        ≡ cond (not same) (place_of entry ∷ filter (λ p. not (same_name peer p.0)) (map place_of queued))
        (filter (λ p. not (same_name peer p.0)) (map place_of queued))
    go true later = later
    go false later = ap (λ ps. place_of entry ∷ ps) later

-- the receivers so far and one more
pub receivers-take : (queued : List (Name × MsgId × ℕ)) (i : ℕ) (entry : Name × MsgId × ℕ) →
    i < length queued →
    entry ≡ get_or queued i entry →
    receivers (take (i + 1) queued) ≡ insert_key same_name (receivers (take i queued)) entry.0
receivers-take queued i entry within is =
    ap receivers (take_more queued i entry within ∙ ap (λ e. take i queued ++ e ∷ []) (sym is)) ∙ receivers-push (take i queued) entry
