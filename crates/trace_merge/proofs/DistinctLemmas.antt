-- The runs of the traces before a place, each of which is seen.
use Rattle.std.proofs.Common.{◌≡◌, ◌∙◌, ◌+◌, ◌<◌, ℕ, List, ap, arith, false, get_or, length, refl, sym, true}
use Rattle.std.specs.List.{list_any}
use Rattle.std.specs.Prelude.{Bool, Some, cond, not, slice_get}
use Rattle.std.proofs.lemmas.Bool.{false≢true}
use Rattle.std.proofs.lemmas.Option.{slice_get_read}
use Rattle.node_names.specs.Same.{same_origin, same_origin-Decides}
use Rattle.node_names.specs.declared.ids.Origin.{Origin}
use Rattle.protocol.specs.Trace.{Trace}
use Rattle.frames.specs.Frame.{Frame}
use Rattle.trace_merge.specs.Merging.{IsDoubled}
use Rattle.trace_merge.proofs.PassedLemmas.{passed_more}

-- The run of each trace before the place is seen.
abbrev pub AreSeen : List (Trace Frame) → ℕ → List Origin → Type 0
AreSeen traces n seen = (i : ℕ) (t : Trace Frame) → i < n → slice_get traces i ≡ Some t → list_any (same_origin t.origin) seen ≡ true

-- A trace before the place is of this run.
pub record IsOfSeen (traces : List (Trace Frame)) (n : ℕ) (o : Origin) : Type 0 where
  pub at : ℕ
  pub trace : Trace Frame
  pub before : at < n
  pub listed : slice_get traces at ≡ Some trace
  pub its : trace.origin ≡ o

-- No two traces before the place are of one run.
abbrev pub AreDistinctBefore : List (Trace Frame) → ℕ → Type 0
AreDistinctBefore traces n =
    (i j : ℕ) (s t : Trace Frame) → i < n → j < n → slice_get traces i ≡ Some s → slice_get traces j ≡ Some t → s.origin ≡ t.origin → i ≡ j

-- what a test that another one undoes says
pub not_passed : (b passed : Bool) → passed ≡ not b → passed ≡ true → b ≡ false
not_passed true passed is so = absurd (false≢true (sym is ∙ so))
not_passed false passed is so = refl

pub passed_before : (b passed : Bool) → passed ≡ not b → passed ≡ false → b ≡ true
passed_before true passed is so = refl
passed_before false passed is so = absurd (false≢true (sym so ∙ is))

module _
    (traces : List (Trace Frame))
    (n : ℕ)
    (t : Trace Frame)
    (o : Origin)
    (within : n < length traces)
    (at : t ≡ get_or traces n t)
    (its : o ≡ t.origin)
  where
    there : slice_get traces n ≡ Some t
    there = slice_get_read traces (length traces) n t refl within at

    -- where the run was seen, two traces are of it
    pub doubled_from : IsOfSeen traces n o → IsDoubled traces o
    doubled_from is = record {
      first = is.at;
      second = n;
      one = is.trace;
      other = t;
      apart = is.before;
      one_listed = is.listed;
      other_listed = there;
      one_its = is.its;
      other_its = sym its;
    }

    -- where it was not, no two are of one run
    pub distinct_more : (old : List Origin) →
        AreSeen traces n old →
        list_any (same_origin o) old ≡ false →
        AreDistinctBefore traces n →
        AreDistinctBefore traces (n + 1)
    distinct_more old seen fresh distinct i j s u below beneath listed named same =
        passed_more
        (λ (k : ℕ) (x : Trace Frame). (m : ℕ) (y : Trace Frame) → m < n + 1 → slice_get traces m ≡ Some y → x.origin ≡ y.origin → k ≡ m) traces n t at
        (λ k x lower is. passed_more (λ (m : ℕ) (y : Trace Frame). x.origin ≡ y.origin → k ≡ m) traces n t at
        (λ m y under has e. distinct k m x y lower under is has e) (λ e. absurd (apart k x lower is e)))
        (passed_more (λ (m : ℕ) (y : Trace Frame). t.origin ≡ y.origin → n ≡ m) traces n t at
        (λ m y under has e. absurd (apart m y under has (sym e))) (λ e. refl))
        i s below listed j u beneath named same
      where
        apart : (k : ℕ) (x : Trace Frame) → k < n → slice_get traces k ≡ Some x → x.origin ≡ t.origin → ⊥
        apart k x lower is e = false≢true (sym fresh ∙ (ap (λ q. list_any (same_origin q) old) (its ∙ sym e) ∙ seen k x lower is))

    module _ (old new : List Origin) (updates : (q : Origin) → list_any (same_origin q) new ≡ cond (same_origin o q) true (list_any (same_origin q) old)) where
      -- the run is seen as well
      pub seen_more : AreSeen traces n old → AreSeen traces (n + 1) new
      seen_more seen =
          passed_more (λ (i : ℕ) (u : Trace Frame). list_any (same_origin u.origin) new ≡ true) traces n t at
          (λ i u below listed. updates u.origin ∙ either (same_origin o u.origin) _ (seen i u below listed))
          (updates t.origin ∙ ap (λ b. cond b true (list_any (same_origin t.origin) old)) ((same_origin-Decides o t.origin).1 its))
        where
          either : (b c : Bool) → c ≡ true → cond b true c ≡ true
          either true c e = refl
          either false c e = e

      -- and each run that is seen is a trace's
      pub known_more : ((q : Origin) → list_any (same_origin q) old ≡ true → IsOfSeen traces n q) →
          (q : Origin) →
          list_any (same_origin q) new ≡ true →
          IsOfSeen traces (n + 1) q
      known_more known q is = go (same_origin o q) refl (sym (updates q) ∙ is)
        where
          go : (b : Bool) → same_origin o q ≡ b → cond b true (list_any (same_origin q) old) ≡ true → IsOfSeen traces (n + 1) q
          go true e h = record { at = n; trace = t; before = omega arith; listed = there; its = sym its ∙ (same_origin-Decides o q).0 e }
          go false e h =
              let was : IsOfSeen traces n q = known q h in
              record { at = was.at; trace = was.trace; before = omega (arith, was.before); listed = was.listed; its = was.its }
