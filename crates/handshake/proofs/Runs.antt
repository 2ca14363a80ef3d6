-- Several bytes of a connection at once.
use Rattle.std.proofs.Common.{◌≡◌, ℕ, zero, suc, ◌+◌, ◌<◌, ◌≤◌, Bool, true, false, cond, eqb, ltb, List, [], ◌∷◌, ◌++◌, length}
use Rattle.std.proofs.Common.{take, drop, map, Option, Some, None, Result, Ok, Err, refl, sym, ap, subst, inl, inr, ◌∙◌, append_assoc, arith}
use Rattle.std.specs.Prelude.{◌&&◌, ◌||◌, IfOk}
use Rattle.std.proofs.Math.Dec.{eqb-suc-zero}
use Rattle.std.proofs.lemmas.Bool.{cases_lt, ltb-false, ltb-true, lt-ltb}
use Rattle.std.proofs.lemmas.List.{append-nil, length-append, length-take, take-append-drop, take-take}
use Rattle.handshake.specs.declared.TheConstants.{MAX_HELLO, MAX_RECORD}
use Rattle.handshake.specs.declared.error.HandshakeError.{HandshakeError}
use Rattle.handshake.specs.declared.error.HandshakeError.TheVariants as Fault
use Rattle.handshake.specs.declared.record.Record.{Record}
use Rattle.handshake.specs.Judging.{judged, judged_rest, kind_of, lacking, max_text, told, read_record, unknown}
use Rattle.handshake.specs.Inbound.{Reached, Yield, answered, and_then, frame_byte, frames, is_in_frames, passed, run, step, step_by, with_yields}
use Rattle.handshake.specs.Place as place
use Rattle.handshake.specs.State.{State}

-- ---- one run after another

-- nothing was given before
pub none_before : (r : Reached) → with_yields [] r ≡ r
none_before (Ok x) = refl
none_before (Err error) = refl

-- nothing comes after
none_after : (r : Reached) → and_then r (λ t. Ok (t, [])) ≡ r
none_after (Ok x) = ap (λ ys. Ok (x.0, ys)) (append-nil x.1)
none_after (Err error) = refl

yields_twice : (xs ys : List Yield) (r : Reached) → with_yields xs (with_yields ys r) ≡ with_yields (xs ++ ys) r
yields_twice xs ys (Ok x) = ap (λ zs. Ok (x.0, zs)) (sym (append_assoc xs ys x.1))
yields_twice xs ys (Err error) = refl

yields_then : (xs : List Yield) (r : Reached) (next : State → Reached) → with_yields xs (and_then r next) ≡ and_then (with_yields xs r) next
yields_then xs (Ok x) next = yields_twice xs x.1 (next x.0)
yields_then xs (Err error) next = refl

then_then : (r : Reached) (next more : State → Reached) → and_then r (λ t. and_then (next t) more) ≡ and_then (and_then r next) more
then_then (Ok x) next more = yields_then x.1 (next x.0) more
then_then (Err error) next more = refl

-- the bytes of two pieces are read as the one piece and then the other
pub run-append : (s : State) (xs ys : List ℕ) → run s (xs ++ ys) ≡ and_then (run s xs) (λ t. run t ys)
run-append s [] ys = sym (none_before (run s ys))
run-append s (b ∷ xs) ys =
    let next : and_then (step s b) (λ t. run t (xs ++ ys)) ≡ and_then (step s b) (λ t. and_then (run t xs) (λ u. run u ys)) =
    λ i. and_then (step s b) (λ t. run-append t xs ys i) in
    next ∙ then_then (step s b) (λ t. run t xs) (λ u. run u ys)

-- a fault stays one, whatever bytes follow
pub fault_stays : (s : State) (n : ℕ) (bytes : List ℕ) (error : HandshakeError) → run s (take n bytes) ≡ Err error → run s bytes ≡ Err error
fault_stays s n bytes error e =
    ap (run s) (sym (take-append-drop n bytes)) ∙ run-append s (take n bytes) (drop n bytes) ∙ ap (λ r. and_then r (λ t. run t (drop n bytes))) e

-- ---- the bytes of a record that is no frame

-- two tests
abbrev pub first_of : State → ℕ → Bool
first_of s b = is_in_frames s && place.goes_on s.place b

-- the answer does not depend on what was kept before
answered_same : (s : State) (k kept : List ℕ) (r : Result (Option Record) HandshakeError) → answered (record s { kept = k }) kept r ≡ answered s kept r
answered_same s k kept (Ok None) = refl
answered_same s k kept (Ok (Some r)) = refl
answered_same s k kept (Err error) = refl

-- more bytes have to come, so the length of the text is in its range, and the text is not whole
more_text : (wrong short : Bool) (error : HandshakeError) (r : Result Record HandshakeError) →
    cond wrong (Err error) (cond short (Ok None) (told r)) ≡ Ok None →
    (wrong ≡ false) × (short ≡ true)
more_text true short error r e = absurd cc
more_text false true error r e = (refl, refl)
more_text false false error (Ok r) e = absurd cc
more_text false false error (Err d) e = absurd cc

more_rest : (right : Bool) (error : HandshakeError) (r : Result (Option Record) HandshakeError) →
    cond right r (Err error) ≡ Ok None →
    (right ≡ true) × (r ≡ Ok None)
more_rest true error r e = (refl, e)
more_rest false error r e = absurd cc

-- what is known of a record of which more has to come
pub record More (is_open : Bool) (len : ℕ) (text : List ℕ) (right wrong short : Bool) : Type 0 where
  pub right_kind : right ≡ true
  pub right_len : wrong ≡ false
  pub not_whole : short ≡ true

pub more_of : (is_open : Bool) (kind len : ℕ) (text : List ℕ) → judged is_open (kind ∷ len ∷ text) ≡ Ok None
    → More is_open len text (eqb kind (kind_of is_open)) (eqb len 0 || ltb (max_text is_open) len) (ltb (length text) len)
more_of is_open kind len text e =
    let rest = more_rest (eqb kind (kind_of is_open)) (unknown is_open kind) (judged_rest is_open (len ∷ text)) e in
    let test = more_text (eqb len 0 || ltb (max_text is_open) len) (ltb (length text) len) (Fault.BadLength len) (read_record is_open text) rest.1 in
    record { right_kind = rest.0; right_len = test.0; not_whole = test.1 }

-- a longest text is short
max_fits : (is_open : Bool) → max_text is_open ≤ MAX_HELLO
max_fits false = omega arith
max_fits true = omega arith

len_fits : (a : Bool) (max len : ℕ) → (a || ltb max len) ≡ false → len ≤ max
len_fits true max len e = absurd cc
len_fits false max len e = ltb-false max len e

-- there is room for the bytes that are lacking, and some are
pub room : (is_open : Bool) (kept : List ℕ) → judged is_open kept ≡ Ok None → (0 < lacking kept) × (length kept + lacking kept ≤ MAX_RECORD)
room is_open [] e = (omega arith, omega arith)
room is_open (kind ∷ []) e = (omega arith, omega arith)
room is_open (kind ∷ len ∷ text) e =
    let m = more_of is_open kind len text e in
    let short : length text < len = ltb-true (length text) len m.not_whole in
    let fits = len_fits (eqb len 0) (max_text is_open) len m.right_len in
    (omega arith, omega (arith, max_fits is_open))

still_more : (is_open : Bool) (kept : List ℕ) (b : ℕ) → judged is_open kept ≡ Ok None → 2 ≤ lacking kept → judged is_open (kept ++ b ∷ []) ≡ Ok None
still_more is_open [] b e two = absurd (omega arith)
still_more is_open (kind ∷ []) b e two = absurd (omega arith)
still_more is_open (kind ∷ len ∷ text) b e two =
    let m = more_of is_open kind len text e in
    let short : ltb (length (text ++ b ∷ [])) len ≡ true = lt-ltb _ _ (omega (arith, length-append text (b ∷ []))) in
    rw (m.right_kind, m.right_len, short) refl

lacking_less : (kept : List ℕ) (b n : ℕ) → suc (suc n) ≤ lacking kept → suc n ≤ lacking (kept ++ b ∷ [])
lacking_less [] b n two = absurd (omega arith)
lacking_less (kind ∷ []) b n two = absurd (omega arith)
lacking_less (kind ∷ len ∷ text) b n two = omega (arith, length-append text (b ∷ []))

-- fewer bytes than are lacking make no record whole
still_more_of : (is_open : Bool) (kept xs : List ℕ) → judged is_open kept ≡ Ok None → suc (length xs) ≤ lacking kept → judged is_open (kept ++ xs) ≡ Ok None
still_more_of is_open kept [] e few = ap (judged is_open) (append-nil kept) ∙ e
still_more_of is_open kept (b ∷ xs) e few =
    let next = still_more is_open kept b e (omega arith) in
    let fewer = lacking_less kept b (length xs) few in
    ap (judged is_open) (sym (append_assoc kept (b ∷ []) xs)) ∙ still_more_of is_open (kept ++ b ∷ []) xs next fewer

none_of : (p : Bool) → (p && false) ≡ false
none_of true = refl
none_of false = refl

-- no frames stand where some bytes were kept
not_in_frames : (is_open : Bool) (kept : List ℕ) (b : ℕ) → (is_open && eqb (length (kept ++ b ∷ [])) 0) ≡ false
not_in_frames is_open [] b = none_of is_open
not_in_frames is_open (k ∷ kept) b = rw (eqb-suc-zero (length (kept ++ b ∷ []))) (none_of is_open)

none_first : (p q : Bool) → p ≡ false → (p && q) ≡ false
none_first p q e = rw e refl

-- bytes up to those that were lacking
pub record_runs : (s : State) (b : ℕ) (xs : List ℕ) → first_of s b ≡ false → judged s.is_open s.kept ≡ Ok None → suc (length xs) ≤ lacking s.kept
    → run s (b ∷ xs) ≡ answered s (s.kept ++ b ∷ xs) (judged s.is_open (s.kept ++ b ∷ xs))
unfolding step
record_runs s b [] other more few = none_after (step s b) ∙ ap (λ t. step_by t s b) other
record_runs s b (c ∷ xs) other more few =
    let kept : List ℕ = s.kept ++ b ∷ [] in
    let next : State = record s { kept = kept } in
    let still = still_more s.is_open s.kept b more (omega arith) in
    let here : step s b ≡ Ok (next, []) = ap (λ t. step_by t s b) other ∙ ap (answered s kept) still in
    let after : run s (b ∷ c ∷ xs) ≡ run next (c ∷ xs) = ap (λ r. and_then r (λ t. run t (c ∷ xs))) here ∙ none_before (run next (c ∷ xs)) in
    let rest =
    record_runs next c xs (none_first _ (place.goes_on s.place c) (not_in_frames s.is_open s.kept b)) still (lacking_less s.kept b (length xs) few) in
    let same : kept ++ c ∷ xs ≡ s.kept ++ b ∷ c ∷ xs = append_assoc s.kept (b ∷ []) (c ∷ xs) in
    after ∙ rest ∙ answered_same s kept (kept ++ c ∷ xs) (judged s.is_open (kept ++ c ∷ xs)) ∙ ap (λ k. answered s k (judged s.is_open k)) same

tests_fail : (p q : Bool) (n : ℕ) → cond p (cond q (suc n) 0) 0 ≡ 0 → (p && q) ≡ false
tests_fail true true n e = absurd (omega (arith, e))
tests_fail true false n e = refl
tests_fail false q n e = refl

-- bytes where no frame stands
pub taken_run : (s : State) (bytes kept : List ℕ) (count : ℕ) →
    frames s bytes ≡ 0 →
    judged s.is_open s.kept ≡ Ok None →
    0 < count →
    count ≤ length bytes →
    count ≤ lacking s.kept →
    kept ≡ s.kept ++ take count bytes
    → run s (take count bytes) ≡ answered s kept (judged s.is_open kept)
taken_run s bytes kept zero none more some within few is = absurd (omega arith)
taken_run s [] kept (suc n) none more some within few is = absurd (omega arith)
taken_run s (b ∷ bytes) kept (suc n) none more some within few is =
    let other = tests_fail (is_in_frames s) (place.goes_on s.place b) (place.frames (place.next_place s.place b) bytes) none in
    record_runs s b (take n bytes) other more (omega (arith, length-take n bytes)) ∙ ap (λ k. answered s k (judged s.is_open k)) (sym is)

-- what bytes gave that were not refused
abbrev pub GivesNone : Reached → Type 0
GivesNone r = IfOk r (λ x. x.1 ≡ [])

-- before a fault at the last of the bytes that were lacking, or at one of them, nothing is given
pub none_before_fault : (s : State) (bytes : List ℕ) (count : ℕ) (error : HandshakeError) →
    frames s bytes ≡ 0 →
    judged s.is_open s.kept ≡ Ok None →
    count ≤ length bytes →
    count ≤ lacking s.kept →
    run s (take count bytes) ≡ Err error
    → (n : ℕ) → GivesNone (run s (take n bytes))
none_before_fault s bytes count error none more within few is zero = refl
none_before_fault s bytes count error none more within few is (suc n) = elim (cases_lt (suc n) count) [
  | inl lt ↦
      let kept : List ℕ = s.kept ++ take (suc n) bytes in
      let still : judged s.is_open kept ≡ Ok None =
      still_more_of s.is_open s.kept (take (suc n) bytes) more (omega (arith, length-take (suc n) bytes)) in
      let gives : run s (take (suc n) bytes) ≡ Ok (record s { kept = kept }, []) =
      taken_run s bytes kept (suc n) none more (omega arith) (omega arith) (omega arith) refl ∙ ap (answered s kept) still in
      subst GivesNone (sym gives) refl
  | inr le ↦
      let front : take count (take (suc n) bytes) ≡ take count bytes = take-take count (suc n) bytes le in
      let fault = fault_stays s count (take (suc n) bytes) error (ap (run s) front ∙ is) in
      subst GivesNone (sym fault) tt
]

-- ---- bytes of frames

tests_hold : (p q : Bool) (m n : ℕ) → cond p (cond q (suc m) 0) 0 ≡ suc n → (p ≡ true) × (q ≡ true) × (m ≡ n)
tests_hold true true m n e = (refl, refl, omega (arith, e))
tests_hold true false m n e = absurd (omega (arith, e))
tests_hold false q m n e = absurd (omega (arith, e))

-- bytes of frames are given, each as one
pub frames_run : (s : State) (bytes : List ℕ) → frames s bytes ≡ length bytes → run s bytes ≡ Ok (passed s bytes, map frame_byte bytes)
unfolding step
frames_run s [] all = refl
frames_run s (b ∷ bytes) all =
    let t = tests_hold (is_in_frames s) (place.goes_on s.place b) (place.frames (place.next_place s.place b) bytes) (length bytes) all in
    let first : first_of s b ≡ true = rw (t.0, t.1) refl in
    let next : State = passed s (b ∷ []) in
    let rest : frames next bytes ≡ length bytes = rw t.0 t.2 in
    let here : step s b ≡ Ok (next, frame_byte b ∷ []) = ap (λ v. step_by v s b) first in
    ap (λ r. and_then r (λ v. run v bytes)) here ∙ ap (with_yields (frame_byte b ∷ [])) (frames_run next bytes rest)
