-- What waits, put into batches entry by entry.
use Rattle.std.proofs.Common.{◌≡◌, ◌∙◌, ◌||◌, ◌+◌, ◌<◌, ℕ, zero, suc, Bool, true, false, not, cond, List, [], ◌∷◌, ◌++◌}
use Rattle.std.proofs.Common.{length, get_or, take, filter, map, sym, ap, subst, refl, arith, if◌then◌else◌, append-nil}
use Rattle.std.specs.Prelude.{slice_set}
use Rattle.std.specs.List.{AllByRecursion as Each, IsDistinct, list_any, position_or_len}
use Rattle.std.proofs.Math.Numerals.{one-add}
use Rattle.std.proofs.lemmas.Bool.{false≢true}
use Rattle.std.proofs.lemmas.List.{map-append, take_more}
use Rattle.std.proofs.lemmas.List.Elements.{filter-append}
use Rattle.std.proofs.lemmas.Map.Keys.{IsDistinct-head, IsDistinct-tail, IsDistinct-cons}
use Rattle.std.proofs.lemmas.Map.Views.{any-filter_same}
use Rattle.indexmap.specs.IndexSet.{insert_key}
use Rattle.node_names.specs.NodeName.{Name}
use Rattle.node_names.specs.Same.{same_name, same_name-Decides, same_name-laws}
use Rattle.node_names.specs.declared.ids.MsgId.{MsgId}
use Rattle.node_names.proofs.Distinct.{distinct-filter}
use Rattle.peer_sets.proofs.QueueLemmas.{receivers-push}
use Rattle.peer_sets.specs.Queue.{waiting_for, receivers, batches, with_more, with_empty, with_batch}

-- ---- places in a list of batches

pub with_more-set : (batches : List (Name × List (MsgId × ℕ))) (place : ℕ) (entry : MsgId × ℕ) (d : Name × List (MsgId × ℕ)) (entries : List (MsgId × ℕ)) →
    place < length batches →
    entries ≡ (get_or batches place d).1 ++ entry ∷ [] →
    slice_set batches place ((get_or batches place d).0, entries) ≡ with_more place entry batches
with_more-set [] place entry d entries within are = absurd (omega (arith, within))
with_more-set (batch ∷ batches) zero entry d entries within are = ap (λ es. (batch.0, es) ∷ batches) are
with_more-set (batch ∷ batches) (suc place) entry d entries within are =
    ap (λ bs. batch ∷ bs) (with_more-set batches place entry d entries (omega (arith, within)) are)

abbrev pub peers_of : List (Name × List (MsgId × ℕ)) → List Name
peers_of batches = map (λ batch. batch.0) batches

-- a new receiver's batch is made last, and then gets the entry
pub with_more-new : (entry : Name × MsgId × ℕ) (batches : List (Name × List (MsgId × ℕ))) →
    list_any (same_name entry.0) (peers_of batches) ≡ false →
    with_more (position_or_len (same_name entry.0) (peers_of batches)) (entry.1, entry.2) (batches ++ (entry.0, []) ∷ []) ≡ with_batch entry batches
with_more-new entry [] new = refl
with_more-new entry (batch ∷ batches) new = go (same_name entry.0 batch.0) new (with_more-new entry batches)
  where
    go : (b : Bool) →
        (b || list_any (same_name entry.0) (peers_of batches)) ≡ false →
        (list_any (same_name entry.0) (peers_of batches) ≡ false →
        with_more (position_or_len (same_name entry.0) (peers_of batches)) (entry.1, entry.2) (batches ++ (entry.0, []) ∷ []) ≡ with_batch entry batches) →
        with_more (cond (not b) (1 + position_or_len (same_name entry.0) (peers_of batches)) 0) (entry.1, entry.2) (batch ∷ (batches ++ (entry.0, []) ∷ []))
        ≡ (if b then (batch.0, batch.1 ++ (entry.1, entry.2) ∷ []) ∷ batches else batch ∷ with_batch entry batches)
    go true none later = absurd (false≢true (sym none))
    go false none later =
        ap (λ place. with_more place (entry.1, entry.2) (batch ∷ (batches ++ (entry.0, []) ∷ [])))
        (one-add (position_or_len (same_name entry.0) (peers_of batches)))
        ∙ ap (λ bs. batch ∷ bs) (later none)

-- an old one gets it where it stands
pub with_more-old : (entry : Name × MsgId × ℕ) (batches : List (Name × List (MsgId × ℕ))) →
    list_any (same_name entry.0) (peers_of batches) ≡ true →
    with_more (position_or_len (same_name entry.0) (peers_of batches)) (entry.1, entry.2) batches ≡ with_batch entry batches
with_more-old entry [] old = absurd (false≢true old)
with_more-old entry (batch ∷ batches) old = go (same_name entry.0 batch.0) old (with_more-old entry batches)
  where
    go : (b : Bool) →
        (b || list_any (same_name entry.0) (peers_of batches)) ≡ true →
        (list_any (same_name entry.0) (peers_of batches) ≡ true →
        with_more (position_or_len (same_name entry.0) (peers_of batches)) (entry.1, entry.2) batches ≡ with_batch entry batches) →
        with_more (cond (not b) (1 + position_or_len (same_name entry.0) (peers_of batches)) 0) (entry.1, entry.2) (batch ∷ batches)
        ≡ (if b then (batch.0, batch.1 ++ (entry.1, entry.2) ∷ []) ∷ batches else batch ∷ with_batch entry batches)
    go true some later = refl
    go false some later =
        ap (λ place. with_more place (entry.1, entry.2) (batch ∷ batches)) (one-add (position_or_len (same_name entry.0) (peers_of batches)))
        ∙ ap (λ bs. batch ∷ bs) (later some)

-- the receivers of the batches with one more entry
pub peers_of-with_batch : (entry : Name × MsgId × ℕ) (batches : List (Name × List (MsgId × ℕ))) →
    peers_of (with_batch entry batches) ≡ insert_key same_name (peers_of batches) entry.0
peers_of-with_batch entry [] = refl
peers_of-with_batch entry (batch ∷ batches) = go (same_name entry.0 batch.0) (peers_of-with_batch entry batches)
  where
    either : (b : Bool) →
        batch.0 ∷ (if b then peers_of batches else peers_of batches ++ entry.0 ∷ [])
        ≡ (if b then batch.0 ∷ peers_of batches else batch.0 ∷ (peers_of batches ++ entry.0 ∷ []))
    either true = refl
    either false = refl

    go : (b : Bool) →
        peers_of (with_batch entry batches) ≡ insert_key same_name (peers_of batches) entry.0 →
        peers_of (if b then (batch.0, batch.1 ++ (entry.1, entry.2) ∷ []) ∷ batches else batch ∷ with_batch entry batches)
        ≡ (if b || list_any (same_name entry.0) (peers_of batches) then batch.0 ∷ peers_of batches else batch.0 ∷ (peers_of batches ++ entry.0 ∷ []))
    go true later = refl
    go false later = ap (λ ns. batch.0 ∷ ns) later ∙ either (list_any (same_name entry.0) (peers_of batches))

-- the entry goes where its receiver's batch stands
pub with_more-empty : (entry : Name × MsgId × ℕ) (batches : List (Name × List (MsgId × ℕ))) →
    with_more (position_or_len (same_name entry.0) (peers_of batches)) (entry.1, entry.2) (with_empty entry.0 batches) ≡ with_batch entry batches
with_more-empty entry batches = go (list_any (same_name entry.0) (peers_of batches)) refl
  where
    go : (b : Bool) →
        list_any (same_name entry.0) (peers_of batches) ≡ b →
        with_more (position_or_len (same_name entry.0) (peers_of batches)) (entry.1, entry.2) (if b then batches else batches ++ (entry.0, []) ∷ [])
        ≡ with_batch entry batches
    go true is = with_more-old entry batches is
    go false is = with_more-new entry batches is

-- which is one of them
pub within_empty : (peer : Name) (batches : List (Name × List (MsgId × ℕ))) →
    position_or_len (same_name peer) (peers_of batches) < length (with_empty peer batches)
within_empty peer [] = omega arith
within_empty peer (batch ∷ batches) = go (same_name peer batch.0) (list_any (same_name peer) (peers_of batches)) (within_empty peer batches)
  where
    go : (b some : Bool) →
        position_or_len (same_name peer) (peers_of batches) < length (if some then batches else batches ++ (peer, []) ∷ []) →
        cond (not b) (1 + position_or_len (same_name peer) (peers_of batches)) 0
        < length (if b || some then batch ∷ batches else batch ∷ (batches ++ (peer, []) ∷ []))
    go true some later = omega arith
    go false true later = omega (arith, later)
    go false false later = omega (arith, later)

-- ---- the batches of a queue

-- what waits for a peer, with one more entry
waiting_for-push : (peer : Name) (queued : List (Name × MsgId × ℕ)) (entry : Name × MsgId × ℕ) →
    waiting_for peer (queued ++ entry ∷ []) ≡ waiting_for peer queued ++ cond (same_name peer entry.0) ((entry.1, entry.2) ∷ []) []
waiting_for-push peer queued entry =
    ap (map {B = MsgId × ℕ} (λ (e : Name × MsgId × ℕ). (e.1, e.2))) (filter-append (λ e. same_name peer e.0) queued (entry ∷ []))
    ∙ map-append {B = MsgId × ℕ} (λ (e : Name × MsgId × ℕ). (e.1, e.2))
    (filter (λ e. same_name peer e.0) queued) (cond (same_name peer entry.0) (entry ∷ []) [])
    ∙ ap (λ es. waiting_for peer queued ++ es) (go (same_name peer entry.0))
  where
    go : (b : Bool) → map {B = MsgId × ℕ} (λ (e : Name × MsgId × ℕ). (e.1, e.2)) (cond b (entry ∷ []) []) ≡ cond b ((entry.1, entry.2) ∷ []) []
    go true = refl
    go false = refl

-- the batch of a peer that is no receiver is empty
nothing_waits : (peer : Name) (queued : List (Name × MsgId × ℕ)) → list_any (same_name peer) (receivers queued) ≡ false → waiting_for peer queued ≡ []
nothing_waits peer [] none = refl
nothing_waits peer (entry ∷ queued) none = go (same_name peer entry.0) refl none (nothing_waits peer queued)
  where
    others : List Name
    others = filter (λ p. not (same_name entry.0 p)) (receivers queued)

    go : (b : Bool) →
        same_name peer entry.0 ≡ b →
        (b || list_any (same_name peer) others) ≡ false →
        (list_any (same_name peer) (receivers queued) ≡ false → waiting_for peer queued ≡ []) →
        map {B = MsgId × ℕ} (λ (e : Name × MsgId × ℕ). (e.1, e.2))
        (cond b (entry ∷ filter (λ e. same_name peer e.0) queued) (filter (λ e. same_name peer e.0) queued)) ≡ []
    go true is lacks later = absurd (false≢true (sym lacks))
    go false is lacks later =
        later (sym (any-filter_same (same_name peer)
        (λ p. not (same_name entry.0 p))
        true
        (λ k same. ap (λ n. not (same_name entry.0 n)) (sym ((same_name-Decides peer k).0 same)) ∙ ap not (same_name-laws.symm entry.0 peer ∙ is))
        (receivers queued)) ∙ lacks)

distinct-receivers : (queued : List (Name × MsgId × ℕ)) → IsDistinct same_name (receivers queued)
unfolding IsDistinct
distinct-receivers [] = tt
distinct-receivers (entry ∷ queued) =
    IsDistinct-cons same_name entry.0 (filter (λ p. not (same_name entry.0 p)) (receivers queued)) (apart (receivers queued))
    (distinct-filter same_name (λ p. not (same_name entry.0 p)) (receivers queued) (distinct-receivers queued))
  where
    not_true : (b : Bool) → not b ≡ true → b ≡ false
    not_true true h = absurd (false≢true h)
    not_true false h = refl

    apart : (names : List Name) → Each (λ other. same_name entry.0 other ≡ false) (filter (λ p. not (same_name entry.0 p)) names)
    apart [] = tt
    apart (name ∷ names) = one (same_name entry.0 name) refl (apart names)
      where
        one : (b : Bool) →
            same_name entry.0 name ≡ b →
            Each (λ other. same_name entry.0 other ≡ false) (filter (λ p. not (same_name entry.0 p)) names) →
            Each (λ other. same_name entry.0 other ≡ false)
            (cond (not b) (name ∷ filter (λ p. not (same_name entry.0 p)) names) (filter (λ p. not (same_name entry.0 p)) names))
        one true is later = later
        one false is later = (is, later)

module _ (queued : List (Name × MsgId × ℕ)) (entry : Name × MsgId × ℕ) where
  abbrev before : Name → Name × List (MsgId × ℕ)
  before peer = (peer, waiting_for peer queued)

  abbrev after : Name → Name × List (MsgId × ℕ)
  after peer = (peer, waiting_for peer (queued ++ entry ∷ []))

  -- the others have what they had
  stays : (names : List Name) → Each (λ name. same_name entry.0 name ≡ false) names → map before names ≡ map after names
  stays [] apart = refl
  stays (name ∷ names) apart =
      λ i. (
        name,
        sym (waiting_for-push name queued entry
            ∙ ap (λ b. waiting_for name queued ++ cond b ((entry.1, entry.2) ∷ []) []) (same_name-laws.symm name entry.0 ∙ apart.0)
            ∙ append-nil (waiting_for name queued))
            i,
      )
      ∷ stays names apart.1 i

  grouped : (names : List Name) →
      IsDistinct same_name names →
      (list_any (same_name entry.0) names ≡ false → waiting_for entry.0 queued ≡ []) →
      with_batch entry (map before names) ≡ map after (insert_key same_name names entry.0)
  grouped [] distinct new =
      λ i. (
        entry.0,
        sym (waiting_for-push entry.0 queued entry
            ∙ ap (λ b. waiting_for entry.0 queued ++ cond b ((entry.1, entry.2) ∷ []) []) ((same_name-Decides entry.0 entry.0).1 refl)
            ∙ ap (λ es. es ++ (entry.1, entry.2) ∷ []) (new refl))
            i,
      )
      ∷ []
  grouped (name ∷ names) distinct new = go (same_name entry.0 name) refl (λ h. grouped names (IsDistinct-tail same_name name names distinct) h)
    where
      head_gets : same_name entry.0 name ≡ true → (name, waiting_for name queued ++ (entry.1, entry.2) ∷ []) ≡ after name
      head_gets is = λ i. (
        name,
        sym (waiting_for-push name queued entry
            ∙ ap (λ b. waiting_for name queued ++ cond b ((entry.1, entry.2) ∷ []) []) (same_name-laws.symm name entry.0 ∙ is))
            i,
      )

      others_apart : same_name entry.0 name ≡ true → Each (λ other. same_name entry.0 other ≡ false) names
      others_apart is =
          subst (λ n. Each (λ other. same_name n other ≡ false) names)
          (sym ((same_name-Decides entry.0 name).0 is)) (IsDistinct-head same_name name names distinct)

      head_stays : same_name entry.0 name ≡ false → before name ≡ after name
      head_stays is = λ i. (
        name,
        sym (waiting_for-push name queued entry
            ∙ ap (λ b. waiting_for name queued ++ cond b ((entry.1, entry.2) ∷ []) []) (same_name-laws.symm name entry.0 ∙ is)
            ∙ append-nil (waiting_for name queued))
            i,
      )

      inserted : (b : Bool) → name ∷ (if b then names else names ++ entry.0 ∷ []) ≡ (if b then name ∷ names else name ∷ (names ++ entry.0 ∷ []))
      inserted true = refl
      inserted false = refl

      go : (b : Bool) →
          same_name entry.0 name ≡ b →
          ((list_any (same_name entry.0) names ≡ false → waiting_for entry.0 queued ≡ []) →
          with_batch entry (map before names) ≡ map after (insert_key same_name names entry.0)) →
          (if b then (name, waiting_for name queued ++ (entry.1, entry.2) ∷ []) ∷ map before names else before name ∷ with_batch entry (map before names))
          ≡ map after (if b || list_any (same_name entry.0) names then name ∷ names else name ∷ (names ++ entry.0 ∷ []))
      go true is later = λ i. head_gets is i ∷ stays names (others_apart is) i
      go false is later =
          (λ i. head_stays is i ∷ later (λ lacks. new (ap (λ b. b || list_any (same_name entry.0) names) is ∙ lacks)) i)
          ∙ ap (map after) (inserted (list_any (same_name entry.0) names))

  -- one more entry goes into its receiver's batch
  pub batches-push : batches (queued ++ entry ∷ []) ≡ with_batch entry (batches queued)
  batches-push = ap (map after) (receivers-push queued entry) ∙ sym (grouped (receivers queued) (distinct-receivers queued) (nothing_waits entry.0 queued))

-- the batches so far and one more entry
pub batches-take : (queued : List (Name × MsgId × ℕ)) (i : ℕ) (d : Name × MsgId × ℕ) →
    i < length queued →
    batches (take (i + 1) queued) ≡ with_batch (get_or queued i d) (batches (take i queued))
batches-take queued i d within = ap batches (take_more queued i d within) ∙ batches-push (take i queued) (get_or queued i d)
