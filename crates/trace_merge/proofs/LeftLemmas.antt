-- Runs that may not be finished: the last of them before another, and one that is added or taken out.
use Rattle.std.proofs.Common.{◌≡◌, ◌∙◌, ◌+◌, ◌<◌, ℕ, List, ap, arith, false, get_or, length, refl, subst, sym, true}
use Rattle.std.specs.Prelude.{Bool, IsSome, None, Option, Some, cond, slice_get}
use Rattle.std.specs.declared.cmp.Ordering.{Ordering}
use Rattle.std.specs.declared.cmp.Ordering.TheVariants.{Equal, Greater, Less}
use Rattle.std.specs.BTreeMap.{BTreeMap, get}
use Rattle.std.specs.Cmp.{both_tied, unsigned_ties}
use Rattle.std.specs.Cmp.Lexicographic.{nat_list_cmp_total, texts_ties}
use Rattle.std.specs.Option.{is_some}
use Rattle.std.specs.Ordering.{MatchOrdering, is_eq, is_lt, nat_cmp, ordering_then}
use Rattle.std.proofs.lemmas.Bool.{false≢true}
use Rattle.std.proofs.lemmas.Cmp.{ranked, tied_itself}
use Rattle.std.proofs.lemmas.Map.Lookups.{exact_bytes}
use Rattle.std.proofs.lemmas.Option.{slice_get_read}
use Rattle.node_names.specs.Order.{name_cmp, origin_cmp}
use Rattle.node_names.specs.Same.{same_origin-Decides}
use Rattle.node_names.specs.declared.ids.Origin.{Origin}
use Rattle.protocol.specs.Trace.{Trace}
use Rattle.frames.specs.Frame.{Frame}
use Rattle.trace_merge.specs.Held.{IsEarlier}
use Rattle.trace_merge.specs.Left.{AreLeft}
use Rattle.trace_merge.specs.Merging.{AreDistinct, IsOut, place_at}
use Rattle.trace_merge.proofs.PassedLemmas.{passed_more}

-- ---- the order of runs

less_than : (x y : ℕ) → nat_cmp x y ≡ Less → x < y
less_than x y e = subst (λ (o : Ordering). MatchOrdering o (x < y) (x ≡ y) (y < x)) e (ranked x y (nat_cmp x y) refl)

ranks_less : (x y : ℕ) → x < y → nat_cmp x y ≡ Less
ranks_less x y low = go (nat_cmp x y) refl
  where
    go : (o : Ordering) → nat_cmp x y ≡ o → nat_cmp x y ≡ Less
    go Less e = e
    go Equal e =
        let same : x ≡ y = subst (λ (o : Ordering). MatchOrdering o (x < y) (x ≡ y) (y < x)) e (ranked x y (nat_cmp x y) refl) in
        absurd (omega (arith, same, low))
    go Greater e =
        let over : y < x = subst (λ (o : Ordering). MatchOrdering o (x < y) (x ≡ y) (y < x)) e (ranked x y (nat_cmp x y) refl) in
        absurd (omega (arith, over, low))

same_run : (a b : Origin) → is_eq (origin_cmp a b) ≡ true → a ≡ b
same_run a b e = (same_origin-Decides a b).0 (both_tied _ _ _ _ (texts_ties a.name b.name) (unsigned_ties a.incarnation.0 b.incarnation.0) ∙ e)

itself : (a : Origin) → is_eq (origin_cmp a a) ≡ true
itself a = sym (both_tied _ _ _ _ (texts_ties a.name a.name) (unsigned_ties a.incarnation.0 a.incarnation.0)) ∙ (same_origin-Decides a a).1 refl

-- an earlier run is below the other
pub earlier_less : (one other : Origin) → IsEarlier one other → origin_cmp one other ≡ Less
earlier_less one other is =
    ap (λ o. ordering_then o (nat_cmp one.incarnation.0 other.incarnation.0))
    (subst (λ n. name_cmp one.name n ≡ Equal) is.0 (tied_itself nat_list_cmp_total one.name)) ∙ ranks_less one.incarnation.0 other.incarnation.0 is.1

-- where one run is an earlier one of the name, the last run below is too
last_earlier : (last one other : Origin) → IsEarlier one other → origin_cmp last other ≡ Less → is_lt (origin_cmp last one) ≡ false → IsEarlier last other
last_earlier last one other is less most = go (name_cmp last.name other.name) refl
  where
    go : (o : Ordering) → name_cmp last.name other.name ≡ o → IsEarlier last other
    go Less e =
        let low : origin_cmp last one ≡ Less =
        ap (λ o. ordering_then o (nat_cmp last.incarnation.0 one.incarnation.0)) (subst (λ n. name_cmp last.name n ≡ Less) (sym is.0) e) in
        absurd (false≢true (sym most ∙ ap is_lt low))
    go Equal e = (
      exact_bytes last.name other.name e,
      less_than last.incarnation.0 other.incarnation.0 (sym (ap (λ o. ordering_then o (nat_cmp last.incarnation.0 other.incarnation.0)) e) ∙ less),
    )
    go Greater e = let no : Greater ≡ Less = sym (ap (λ o. ordering_then o (nat_cmp last.incarnation.0 other.incarnation.0)) e) ∙ less in cc

-- so where it is not, no run is
pub none_earlier :
    (runs : BTreeMap Origin ℕ)
    (last other : Origin) →
    ¬ IsEarlier last other →
    origin_cmp last other ≡ Less →
    ((one : Origin) → IsEarlier one other → IsSome (get origin_cmp runs one) → is_lt (origin_cmp last one) ≡ false) →
    (one : Origin) →
    IsEarlier one other →
    get origin_cmp runs one ≡ None
none_earlier runs last other not less most one is = go (get origin_cmp runs one) refl
  where
    go : (found : Option ℕ) → get origin_cmp runs one ≡ found → get origin_cmp runs one ≡ None
    go None e = e
    go (Some n) e = absurd (not (last_earlier last one other is less (most one is (subst (λ (o : Option ℕ). IsSome o) (sym e) refl))))

-- ---- all runs

-- Each of the runs has its trace at its index.
abbrev pub AreNamed : List (Trace Frame) → BTreeMap Origin ℕ → Type 0
AreNamed traces runs = (o : Origin) (n : ℕ) → get origin_cmp runs o ≡ Some n → (t : Trace Frame) × (slice_get traces n ≡ Some t) × (t.origin ≡ o)

-- The runs of the traces before this index are there.
abbrev pub AreThere : List (Trace Frame) → ℕ → BTreeMap Origin ℕ → Type 0
AreThere traces n runs = (i : ℕ) (t : Trace Frame) → i < n → slice_get traces i ≡ Some t → IsSome (get origin_cmp runs t.origin)

module _
    (traces : List (Trace Frame))
    (at : ℕ)
    (t : Trace Frame)
    (o : Origin)
    (within : at < length traces)
    (is : t ≡ get_or traces at t)
    (its : o ≡ t.origin)
    (old new : BTreeMap Origin ℕ)
    (updates : (q : Origin) → get origin_cmp new q ≡ cond (is_eq (origin_cmp o q)) (Some at) (get origin_cmp old q))
  where
    pub named_more : AreNamed traces old → AreNamed traces new
    named_more named q n found = go (is_eq (origin_cmp o q)) refl (sym (updates q) ∙ found)
      where
        go : (b : Bool) →
            is_eq (origin_cmp o q) ≡ b →
            cond b (Some at) (get origin_cmp old q) ≡ Some n →
            (u : Trace Frame) × (slice_get traces n ≡ Some u) × (u.origin ≡ q)
        go true same e =
            let here : at ≡ n = cc in
            (t, subst (λ k. slice_get traces k ≡ Some t) here (slice_get_read traces (length traces) at t refl within is), sym its ∙ same_run o q same)
        go false other e = named q n e

    pub there_more : AreThere traces at old → AreThere traces (at + 1) new
    there_more there =
        passed_more (λ (i : ℕ) (u : Trace Frame). IsSome (get origin_cmp new u.origin)) traces at t is
        (λ i u below listed. subst (λ (x : Option ℕ). IsSome x) (sym (updates u.origin)) (either (is_eq (origin_cmp o u.origin)) _ (there i u below listed)))
        (subst (λ (x : Option ℕ). IsSome x)
        (sym (updates t.origin ∙ ap (λ b. cond b (Some at) (get origin_cmp old t.origin)) (subst (λ q. is_eq (origin_cmp o q) ≡ true) its (itself o)))) refl)
      where
        either : (b : Bool) (x : Option ℕ) → IsSome x → IsSome (cond b (Some at) x)
        either true x some = refl
        either false x some = some

-- where all runs are there, nothing has to be played out
pub all_left : (traces : List (Trace Frame)) (runs : BTreeMap Origin ℕ) →
    AreNamed traces runs →
    ((i : ℕ) (t : Trace Frame) → slice_get traces i ≡ Some t → IsSome (get origin_cmp runs t.origin)) →
    (places : List (Option ℕ)) →
    AreLeft traces places runs
all_left traces runs named there places = record {
  named = named;
  others = λ i t listed none. absurd (false≢true (sym (ap is_some none) ∙ there i t listed));
}

-- ---- one run less

-- a run whose trace is played out is taken out
pub left_fewer :
    (traces : List (Trace Frame))
    (places : List (Option ℕ))
    (run : Origin)
    (at : ℕ)
    (old new : BTreeMap Origin ℕ) →
    AreDistinct traces →
    AreLeft traces places old →
    get origin_cmp old run ≡ Some at →
    ((t : Trace Frame) → slice_get traces at ≡ Some t → IsOut t (place_at places at)) →
    ((q : Origin) → get origin_cmp new q ≡ cond (is_eq (origin_cmp run q)) None (get origin_cmp old q)) →
    AreLeft traces places new
left_fewer traces places run at old new distinct were listed out updates = record { named = named; others = others }
  where
    named : (q : Origin) (n : ℕ) → get origin_cmp new q ≡ Some n → (t : Trace Frame) × (slice_get traces n ≡ Some t) × (t.origin ≡ q)
    named q n found = go (is_eq (origin_cmp run q)) (sym (updates q) ∙ found)
      where
        go : (b : Bool) → cond b None (get origin_cmp old q) ≡ Some n → (t : Trace Frame) × (slice_get traces n ≡ Some t) × (t.origin ≡ q)
        go true e = let no : None ≡ Some n = e in cc
        go false e = were.named q n e

    others : (i : ℕ) (t : Trace Frame) → slice_get traces i ≡ Some t → get origin_cmp new t.origin ≡ None → IsOut t (place_at places i)
    others i t at_i none = go (is_eq (origin_cmp run t.origin)) refl (sym (updates t.origin) ∙ none)
      where
        go : (b : Bool) → is_eq (origin_cmp run t.origin) ≡ b → cond b None (get origin_cmp old t.origin) ≡ None → IsOut t (place_at places i)
        go true same e =
            let its = were.named run at listed in
            let here : i ≡ at = distinct i at t its.0 at_i its.1 (sym (same_run run t.origin same) ∙ sym its.2) in
            subst (λ k. IsOut t (place_at places k)) (sym here) (out t (ap (slice_get traces) (sym here) ∙ at_i))
        go false other e = were.others i t at_i e
