-- Going on by several bytes at once.
use Rattle.std.proofs.Common.{◌≡◌, ◌≢◌, ◌⊎◌, inl, inr, ℕ, zero, suc, ◌+◌, ◌-◌, ◌<◌, ◌≤◌, Bool, true, false, cond}
use Rattle.std.proofs.Common.{eqb, List, [], ◌∷◌, length, take, drop, get_or, refl, sym, ap, subst, ◌∙◌, arith}
use Rattle.std.proofs.lemmas.Bool.Decides.{Decides-eqb}
use Rattle.handshake.specs.declared.place.Place.{Place}
use Rattle.handshake.specs.declared.place.Place.TheVariants.{Body}
use Rattle.handshake.specs.Place.{body, next_place, after, is_boundary, goes_on, frames, cut}

-- ---- by bytes of a body

pub body_after : (n left : ℕ) (bytes : List ℕ) → n ≤ left → n ≤ length bytes → after (body left) bytes ≡ after (body (left - n)) (drop n bytes)
body_after zero left bytes few within = let e : left ≡ left - 0 = omega arith in ap (λ k. after (body k) bytes) e
body_after (suc n) zero bytes few within = absurd (omega arith)
body_after (suc n) (suc left) [] few within = absurd (omega arith)
body_after (suc n) (suc left) (b ∷ bytes) few within =
    let less : suc left - 1 ≡ left = omega arith in
    let same : left - n ≡ suc left - suc n = omega arith in
    ap (λ k. after (body k) bytes) less ∙ body_after n left bytes (omega arith) (omega arith) ∙ ap (λ k. after (body k) (drop n bytes)) same

pub body_frames : (n left : ℕ) (bytes : List ℕ) → n ≤ left → n ≤ length bytes → frames (body left) bytes ≡ n + frames (body (left - n)) (drop n bytes)
body_frames zero left bytes few within =
    let e : left ≡ left - 0 = omega arith in
    let same = ap (λ k. frames (body k) bytes) e in
    omega (arith, same)
body_frames (suc n) zero bytes few within = absurd (omega arith)
body_frames (suc n) (suc left) [] few within = absurd (omega arith)
body_frames (suc n) (suc left) (b ∷ bytes) few within =
    let less : suc left - 1 ≡ left = omega arith in
    let same : left - n ≡ suc left - suc n = omega arith in
    let first = ap (λ k. frames (body k) bytes) less in
    let more = body_frames n left bytes (omega arith) (omega arith) in
    let last = ap (λ k. frames (body k) (drop n bytes)) same in
    omega (arith, first, more, last)

body_cut : (n left : ℕ) (bytes : List ℕ) → n ≤ left → n ≤ length bytes → cut (body left) bytes ≡ n + cut (body (left - n)) (drop n bytes)
body_cut zero left bytes few within =
    let e : left ≡ left - 0 = omega arith in
    let same = ap (λ k. cut (body k) bytes) e in
    omega (arith, same)
body_cut (suc n) zero bytes few within = absurd (omega arith)
body_cut (suc n) (suc left) [] few within = absurd (omega arith)
body_cut (suc n) (suc left) (b ∷ bytes) few within =
    let less : suc left - 1 ≡ left = omega arith in
    let same : left - n ≡ suc left - suc n = omega arith in
    let first = ap (λ k. cut (body k) bytes) less in
    let more = body_cut n left bytes (omega arith) (omega arith) in
    let last = ap (λ k. cut (body k) (drop n bytes)) same in
    omega (arith, first, more, last)

-- a body of which some bytes are left
body_some : (left : ℕ) → 0 < left → body left ≡ Body left
body_some zero some = absurd (omega arith)
body_some (suc left) some = refl

pub strides_after : (n left : ℕ) (to : Place) (bytes : List ℕ) →
    0 < left →
    n ≤ left →
    n ≤ length bytes →
    to ≡ body (left - n) →
    after (Body left) bytes ≡ after to (drop n bytes)
strides_after n left to bytes some few within is =
    ap (λ p. after p bytes) (sym (body_some left some)) ∙ body_after n left bytes few within ∙ ap (λ p. after p (drop n bytes)) (sym is)

pub strides_frames : (n left : ℕ) (to : Place) (bytes : List ℕ) →
    0 < left →
    n ≤ left →
    n ≤ length bytes →
    to ≡ body (left - n) →
    frames (Body left) bytes ≡ n + frames to (drop n bytes)
strides_frames n left to bytes some few within is =
    ap (λ p. frames p bytes) (sym (body_some left some)) ∙ body_frames n left bytes few within ∙ ap (λ p. n + frames p (drop n bytes)) (sym is)

pub strides_cut : (n left : ℕ) (to : Place) (bytes : List ℕ) →
    0 < left →
    n ≤ left →
    n ≤ length bytes →
    to ≡ body (left - n) →
    cut (Body left) bytes ≡ n + cut to (drop n bytes)
strides_cut n left to bytes some few within is =
    ap (λ p. cut p bytes) (sym (body_some left some)) ∙ body_cut n left bytes few within ∙ ap (λ p. n + cut p (drop n bytes)) (sym is)

-- ---- by one byte

pub one_after : (place : Place) (bytes : List ℕ) → 0 < length bytes → after place bytes ≡ after (next_place place (get_or bytes 0 0)) (drop 1 bytes)
one_after place [] some = absurd (omega arith)
one_after place (b ∷ bytes) some = refl

pub one_frames : (place : Place) (bytes : List ℕ) →
    0 < length bytes →
    goes_on place (get_or bytes 0 0) ≡ true →
    frames place bytes ≡ 1 + frames (next_place place (get_or bytes 0 0)) (drop 1 bytes)
one_frames place [] some on = absurd (omega arith)
one_frames place (b ∷ bytes) some on =
    let is : frames place (b ∷ bytes) ≡ suc (frames (next_place place b) bytes) = rw on refl in
    omega (arith, is)

pub one_cut : (place : Place) (bytes : List ℕ) →
    0 < length bytes →
    is_boundary place ≡ false →
    cut place bytes ≡ 1 + cut (next_place place (get_or bytes 0 0)) (drop 1 bytes)
one_cut place [] some on = absurd (omega arith)
one_cut place (b ∷ bytes) some on =
    let is : cut place (b ∷ bytes) ≡ suc (cut (next_place place b) bytes) = rw on refl in
    omega (arith, is)

-- ---- and where they end

pub no_frames : (place : Place) (bytes : List ℕ) → 0 < length bytes → goes_on place (get_or bytes 0 0) ≡ false → frames place bytes ≡ 0
no_frames place [] some on = refl
no_frames place (b ∷ bytes) some on = rw on refl

pub empty_after : (place : Place) (bytes : List ℕ) → length bytes ≡ 0 → after place bytes ≡ place
empty_after place [] none = refl
empty_after place (b ∷ bytes) none = absurd (omega arith)

pub empty_frames : (place : Place) (bytes : List ℕ) → length bytes ≡ 0 → frames place bytes ≡ 0
empty_frames place [] none = refl
empty_frames place (b ∷ bytes) none = absurd (omega arith)

pub empty_cut : (place : Place) (bytes : List ℕ) → length bytes ≡ 0 → cut place bytes ≡ 0
empty_cut place [] none = refl
empty_cut place (b ∷ bytes) none = absurd (omega arith)

pub boundary_cut : (place : Place) (bytes : List ℕ) → is_boundary place ≡ true → cut place bytes ≡ 0
boundary_cut place [] at = refl
boundary_cut place (b ∷ bytes) at = rw at refl

-- a test holds or it does not
decided : (b : Bool) → (b ≡ true) ⊎ (b ≡ false)
decided true = inl refl
decided false = inr refl

ends_at : (p q : Bool) → cond p q true ≡ false → (p ≡ true) × (q ≡ false)
ends_at true q e = (refl, e)
ends_at false q e = absurd cc

not_zero : (b : ℕ) → eqb b 0 ≡ false → b ≢ 0
not_zero b e is = let t : eqb b 0 ≡ true = (Decides-eqb b 0).1 is in let torn : true ≡ false = sym t ∙ e in cc

-- a boundary before a byte other than 0
abbrev StopsAt : Place → List ℕ → ℕ → Type 0
StopsAt place bytes n = (is_boundary (after place (take n bytes)) ≡ true) × (get_or bytes n 0 ≢ 0)

-- the bytes of frames end with the last byte, or before one that begins another record
pub frames_stop : (place : Place) (bytes : List ℕ) →
    frames place bytes < length bytes →
    (is_boundary (after place (take (frames place bytes) bytes)) ≡ true) × (get_or bytes (frames place bytes) 0 ≢ 0)
frames_stop place [] fewer = absurd (omega arith)
frames_stop place (b ∷ bytes) fewer = elim (decided (goes_on place b)) [
  | inl on ↦
      let count = frames (next_place place b) bytes in
      let e : frames place (b ∷ bytes) ≡ suc count = rw on refl in
      subst (StopsAt place (b ∷ bytes)) (sym e) (frames_stop (next_place place b) bytes (omega arith))
  | inr off ↦
      let e : frames place (b ∷ bytes) ≡ 0 = rw off refl in
      let t = ends_at (is_boundary place) (eqb b 0) off in
      subst (StopsAt place (b ∷ bytes)) (sym e) (t.0, not_zero b t.1)
]

-- and each of them is of a frame
pub frames_front : (place : Place) (bytes : List ℕ) → frames place (take (frames place bytes) bytes) ≡ frames place bytes
frames_front place [] = refl
frames_front place (b ∷ bytes) = elim (decided (goes_on place b)) [
  | inl on ↦
      let count = frames (next_place place b) bytes in
      let e : frames place (b ∷ bytes) ≡ suc count = rw on refl in
      let front : frames place (b ∷ take count bytes) ≡ suc count = rw on (ap suc (frames_front (next_place place b) bytes)) in
      subst (λ n. frames place (take n (b ∷ bytes)) ≡ n) (sym e) front
  | inr off ↦
      let e : frames place (b ∷ bytes) ≡ 0 = rw off refl in
      subst (λ n. frames place (take n (b ∷ bytes)) ≡ n) (sym e) refl
]

-- the frame under way ends at a boundary, unless the bytes end first
pub cut_stop : (place : Place) (bytes : List ℕ) → cut place bytes < length bytes → is_boundary (after place (take (cut place bytes) bytes)) ≡ true
cut_stop place [] fewer = absurd (omega arith)
cut_stop place (b ∷ bytes) fewer = elim (decided (is_boundary place)) [
  | inl at ↦
      let e : cut place (b ∷ bytes) ≡ 0 = rw at refl in
      subst (λ n. is_boundary (after place (take n (b ∷ bytes))) ≡ true) (sym e) at
  | inr on ↦
      let count = cut (next_place place b) bytes in
      let e : cut place (b ∷ bytes) ≡ suc count = rw on refl in
      subst (λ n. is_boundary (after place (take n (b ∷ bytes))) ≡ true) (sym e) (cut_stop (next_place place b) bytes (omega arith))
]

-- how a loop of strides begins and ends
pub ruleset strides = (one_after, one_frames, one_cut, no_frames, empty_after, empty_frames, empty_cut, boundary_cut)

-- where the first bytes that are of frames end
pub ruleset fronts = (frames_stop, frames_front, cut_stop)
