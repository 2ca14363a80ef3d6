-- What more bytes of a stream change, and what they don't.
use Rattle.std.proofs.Common.{◌≡◌, inl, inr, ℕ, ◌+◌, ◌<◌, ◌≤◌, Bool, true, false, List, ◌++◌, length, take}
use Rattle.std.proofs.Common.{drop, Option, Some, None, Result, Ok, Err, refl, sym, ap, subst, ◌∙◌, arith}
use Rattle.std.specs.Prelude.{◌≢◌, if◌then◌else◌}
use Rattle.std.specs.Int.{w32, from_be_bytes}
use Rattle.std.proofs.lemmas.Bool.{cases_lt, lt-ltb, le-ltb}
use Rattle.std.proofs.lemmas.List.{drop-drop, take-append-le, drop-append-le, take-append-drop, length-append, take_at}
use Rattle.frames.specs.declared.TheConstants.{MAX_BODY}
use Rattle.frames.specs.declared.fault.FrameFault.{FrameFault}
use Rattle.frames.specs.declared.fault.FrameFault.TheVariants.{Short, TooLong}
use Rattle.frames.specs.Cutting.{Cuts, IsMet}
use Rattle.frames.specs.Frame.{Frame}
use Rattle.frames.specs.Grammar.{IsSpelling}
use Rattle.frames.specs.Reading.{frame, with_length, body_of, read}
use Rattle.frames.proofs.FrameAgrees.{read_again}

abbrev pub fails : FrameFault → Result (Frame × ℕ) FrameFault
fails fault = Err fault

pub fault_is : (a b : FrameFault) → fails a ≡ fails b → a ≡ b
fault_is a b e = cc

-- ---- a body

pub body_long : (len : ℕ) (after : List ℕ) → MAX_BODY < len → body_of len after ≡ Err TooLong
unfolding body_of
body_long len after h = rw (lt-ltb _ _ h) refl

body_short : (len : ℕ) (after : List ℕ) → len ≤ MAX_BODY → length after < len → body_of len after ≡ Err Short
unfolding body_of
body_short len after few h = rw (le-ltb _ _ few, lt-ltb _ _ h) refl

pub body_whole : (len : ℕ) (after : List ℕ) → len ≤ MAX_BODY → len ≤ length after → body_of len after ≡ with_length (4 + len) (frame (take len after))
unfolding body_of
body_whole len after few h = rw (le-ltb _ _ few, le-ltb _ _ h) refl

body_more : (len : ℕ) (after more : List ℕ) (fault : FrameFault) → body_of len after ≡ Err fault → fault ≢ Short → body_of len (after ++ more) ≡ Err fault
body_more len after more fault e n =
    elim (cases_lt MAX_BODY len) [
      | inl long ↦ body_long len (after ++ more) long ∙ sym (body_long len after long) ∙ e
      | inr few ↦ elim (cases_lt (length after) len) [
        | inl short ↦ absurd (n (fault_is fault Short (sym e ∙ body_short len after few short)))
        | inr enough ↦
            body_whole len (after ++ more) few (omega (arith, length-append after more))
            ∙ ap (λ t. with_length (4 + len) (frame t)) (take-append-le len after more enough) ∙ sym (body_whole len after few enough) ∙ e
      ]
    ]

-- ---- a frame behind its length

pub read_short : (bytes : List ℕ) → length bytes < 4 → read bytes ≡ Err Short
unfolding read
read_short bytes h = rw (lt-ltb _ _ h) refl

pub read_long : (bytes : List ℕ) → 4 ≤ length bytes → read bytes ≡ body_of (from_be_bytes w32 (take 4 bytes)) (drop 4 bytes)
unfolding read
read_long bytes h = rw (le-ltb _ _ h) refl

-- more bytes change no fault but Short
pub read_more : (bytes more : List ℕ) (fault : FrameFault) → read bytes ≡ Err fault → fault ≢ Short → read (bytes ++ more) ≡ Err fault
read_more bytes more fault e n =
    elim (cases_lt (length bytes) 4) [
      | inl short ↦ absurd (n (fault_is fault Short (sym e ∙ read_short bytes short)))
      | inr long ↦
          read_long (bytes ++ more) (omega (arith, length-append bytes more))
          ∙ ap (λ t. body_of (from_be_bytes w32 t) (drop 4 (bytes ++ more))) (take-append-le 4 bytes more long)
          ∙ ap (body_of (from_be_bytes w32 (take 4 bytes))) (drop-append-le 4 bytes more long)
          ∙ body_more (from_be_bytes w32 (take 4 bytes)) (drop 4 bytes) more fault (sym (read_long bytes long) ∙ e) n
    ]

-- a fault that was met stays
met_more : (fault : Option FrameFault) (bytes more : List ℕ) → IsMet fault bytes → IsMet fault (bytes ++ more)
met_more None bytes more h = tt
met_more (Some fault) bytes more h = (read_more bytes more fault h.0 h.1, h.1)

-- what was fed, or was not, leaves the fault
pub fed : (r : Bool) (fault : Option FrameFault) (given : ℕ) (old piece new : List ℕ) →
    new ≡ (if r then old ++ piece else old) →
    (given + given ≤ length old) × IsMet fault (drop given old) →
    (given + given ≤ length new) × IsMet fault (drop given new)
fed true fault given old piece new e h =
    let more : drop given new ≡ drop given old ++ piece = ap (drop given) e ∙ drop-append-le given old piece (omega (arith, h.0)) in
    (omega (arith, ap length e, length-append old piece, h.0), subst (IsMet fault) (sym more) (met_more fault (drop given old) piece h.1))
fed false fault given old piece new e h = subst (λ t. (given + given ≤ length t) × IsMet fault (drop given t)) (sym e) h

-- the bytes of a frame were given
pub cuts_from : (f : Frame) (old items : List ℕ) (given len : ℕ) → old ≡ drop given items → IsSpelling f (take len old) → Cuts f old (drop (given + len) items)
cuts_from f old items given len e s = record {
  spelling = take len old;
  spelled = s;
  parts = sym (take-append-drop len old) ∙ ap (λ t. take len old ++ t) (ap (drop len) e ∙ drop-drop len given items);
}

-- ---- no frame's spelling begins another's

abbrev answer : Frame × ℕ → Result (Frame × ℕ) FrameFault
answer x = Ok x

pair_is : (x y : Frame × ℕ) → answer x ≡ answer y → x ≡ y
pair_is x y e = cc

pub prefix_free : (f g : Frame) (a b x y : List ℕ) → IsSpelling f a → IsSpelling g b → a ++ x ≡ b ++ y → (a ≡ b) × (f ≡ g)
prefix_free f g a b x y s t e =
    let p = pair_is (f, length a) (g, length b) (sym (read_again f a x s) ∙ ap read e ∙ read_again g b y t) in
    let size : length a ≡ length b = ap (λ (q : Frame × ℕ). q.1) p in
    (sym (take_at a x (length a) refl) ∙ ap (take (length a)) e ∙ take_at b y (length a) (sym size), ap (λ (q : Frame × ℕ). q.0) p)
