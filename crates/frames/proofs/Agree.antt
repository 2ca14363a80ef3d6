-- A field that is read is the field that was written, and what was written is read again.
use Rattle.std.proofs.Common.{◌≡◌, inl, inr, ℕ, ◌+◌, ◌<◌, ◌≤◌, Bool, true, false, cond, List, [], ◌++◌, length}
use Rattle.std.proofs.Common.{get_or, take, drop, Result, Ok, Err, refl, sym, ap, subst, ◌∙◌, append_assoc, arith}
use Rattle.std.specs.Prelude.{nat_lt}
use Rattle.std.proofs.lemmas.Bool.{ltb-false, le-ltb, cases_lt}
use Rattle.std.proofs.lemmas.List.{take_at, drop_at, take-append-drop, length-append, length-take, get_or-drop, get_or-take, get_or_past}
use Rattle.frames.specs.declared.fault.FrameFault.{FrameFault}
use Rattle.frames.specs.declared.fault.FrameFault.TheVariants.{BadField}
use Rattle.frames.specs.Reading.{Reader, ◌>>=◌, go_on, done, judge, octets}

-- bytes are below 256
abbrev pub IsBytes : List ℕ → Type 0
IsBytes bytes = (i : ℕ) → get_or bytes i 0 < 256

IsBytes-drop : (n : ℕ) (bytes : List ℕ) → IsBytes bytes → IsBytes (drop n bytes)
IsBytes-drop n bytes h i = rw get_or-drop (h (n + i))

-- what follows some bytes
pub IsBytes-after : (front rest bytes : List ℕ) → bytes ≡ front ++ rest → IsBytes bytes → IsBytes rest
IsBytes-after front rest bytes e h =
    let tail : drop (length front) bytes ≡ rest = rw e (drop_at front rest (length front) refl) in
    subst IsBytes tail (IsBytes-drop (length front) bytes h)

-- and what comes before
pub IsBytes-before : (front rest bytes : List ℕ) → bytes ≡ front ++ rest → IsBytes bytes → IsBytes front
IsBytes-before front rest bytes e h i =
    let head : take (length front) bytes ≡ front = rw e (take_at front rest (length front) refl) in
    elim (cases_lt i (length front)) [
      | inl lt ↦ rw (← head, get_or-take (length front) bytes i 0 lt) (h i)
      | inr le ↦ rw (get_or_past front i 0 le) (omega arith)
    ]

-- What is read stands as its text, and holds what it may; what holds what it may is read from its text.
pub record Agrees {X : Type 0} (r : Reader X) (text : X → List ℕ) (Fits : X → Type 0) : Type 0 where
  pub takes : (bytes : List ℕ) (x : X) (rest : List ℕ) → IsBytes bytes → r bytes ≡ Ok (x, rest) → (bytes ≡ text x ++ rest) × Fits x
  pub again : (x : X) (rest : List ℕ) → Fits x → r (text x ++ rest) ≡ Ok (x, rest)

-- ---- one after the other

-- what a first reader took, where the second ended well
pub record First {X Y : Type 0} (r : Reader X) (text : X → List ℕ) (Fits : X → Type 0) (f : X → Reader Y) (bytes : List ℕ) (y : Y) (rest : List ℕ) :
    Type 0 where
  pub value : X
  pub after : List ℕ
  pub parts : bytes ≡ text value ++ after
  pub fits : Fits value
  pub bytes_after : IsBytes after
  pub then' : f value after ≡ Ok (y, rest)

abbrev pub answer : {X : Type 0} → X × List ℕ → Result (X × List ℕ) FrameFault
answer x = Ok x

pub bind_ok : {X Y : Type 0} (r : Result (X × List ℕ) FrameFault) (f : X → Reader Y) (y : Y × List ℕ) →
    go_on f r ≡ Ok y →
    (x : X × List ℕ) × (r ≡ Ok x) × (f x.0 x.1 ≡ Ok y)
bind_ok (Ok x) f y e = (x, refl, e)
bind_ok (Err d) f y e = absurd cc

pub takes_first : {X Y : Type 0} {r : Reader X} {text : X → List ℕ} {Fits : X → Type 0} →
    Agrees r text Fits →
    (f : X → Reader Y) (bytes : List ℕ) (y : Y) (rest : List ℕ) →
    IsBytes bytes →
    (r >>= f) bytes ≡ Ok (y, rest) →
    First r text Fits f bytes y rest
takes_first {r = r} {text = text} a f bytes y rest h e =
    let b = bind_ok (r bytes) f (y, rest) e in
    let t = a.takes bytes b.0.0 b.0.1 h b.1 in
    record { value = b.0.0; after = b.0.1; parts = t.0; fits = t.1; bytes_after = IsBytes-after (text b.0.0) b.0.1 bytes t.0 h; then' = b.2 }

pub again_first : {X Y : Type 0} {r : Reader X} {text : X → List ℕ} {Fits : X → Type 0} →
    Agrees r text Fits →
    (f : X → Reader Y) (x : X) (more : List ℕ) →
    Fits x →
    (r >>= f) (text x ++ more) ≡ f x more
again_first a f x more h = rw (a.again x more h) refl

-- with the text of the next behind it
pub again_next : {X Y : Type 0} {r : Reader X} {text : X → List ℕ} {Fits : X → Type 0} →
    Agrees r text Fits →
    (f : X → Reader Y) (x : X) (next more : List ℕ) →
    Fits x →
    (r >>= f) ((text x ++ next) ++ more) ≡ f x (next ++ more)
again_next {r = r} {text = text} a f x next more h = ap (r >>= f) (append_assoc (text x) next more) ∙ again_first a f x (next ++ more) h

-- the texts of two that were read
pub parts_then : (bytes a mid b rest : List ℕ) → bytes ≡ a ++ mid → mid ≡ b ++ rest → bytes ≡ (a ++ b) ++ rest
parts_then bytes a mid b rest p q = p ∙ ap (λ t. a ++ t) q ∙ sym (append_assoc a b rest)

-- a value that was read
pub ok_is : {X : Type 0} (x y : X × List ℕ) → answer x ≡ answer y → x ≡ y
ok_is x y e = cc

-- what was done
pub done_is : {X : Type 0} (x y : X) (bytes rest : List ℕ) → done x bytes ≡ Ok (y, rest) → (x ≡ y) × (bytes ≡ rest)
done_is x y bytes rest e = let p = ok_is (x, bytes) (y, rest) e in (ap (λ (q : _ × List ℕ). q.0) p, ap (λ (q : _ × List ℕ). q.1) p)

-- nothing more was read
pub parts_done : (bytes front after rest : List ℕ) → bytes ≡ front ++ after → after ≡ rest → bytes ≡ front ++ rest
parts_done bytes front after rest p e = p ∙ ap (λ t. front ++ t) e

-- a test that did not fail
guard_ok : {X : Type 0} (b : Bool) (d : FrameFault) (x y : X × List ℕ) → cond b (Err d) (Ok x) ≡ Ok y → (b ≡ false) × (x ≡ y)
guard_ok true d x y e = absurd cc
guard_ok false d x y e = (refl, cc)

-- a judgement that was good
pub judged : {Y : Type 0} (good : Bool) (fault : FrameFault) (f : Unit {0} → Reader Y) (bytes : List ℕ) (y : Y × List ℕ) →
    (judge good fault >>= f) bytes ≡ Ok y →
    (good ≡ true) × (f tt bytes ≡ Ok y)
judged true fault f bytes y e = (refl, e)
judged false fault f bytes y e = absurd cc

-- ---- a value of two, one after the other

module _ {X Y Z : Type 0} {r : Reader X} {text : X → List ℕ} {Fits : X → Type 0} (a : Agrees r text Fits)
    {s : Reader Y} {text' : Y → List ℕ} {Fits' : Y → Type 0} (b : Agrees s text' Fits') (mk : X → Y → Z) where
  -- what two readers took
  pub record Both (bytes : List ℕ) (z : Z) (rest : List ℕ) : Type 0 where
    pub one : X
    pub two : Y
    pub made : mk one two ≡ z
    pub parts : bytes ≡ (text one ++ text' two) ++ rest
    pub fits : Fits one
    pub fits' : Fits' two
    pub bytes_after : IsBytes rest

  pub both_take : (bytes : List ℕ) (z : Z) (rest : List ℕ) → IsBytes bytes → (r >>= λ x. s >>= λ y. done (mk x y)) bytes ≡ Ok (z, rest) → Both bytes z rest
  both_take bytes z rest h e =
      let p = takes_first a (λ x. s >>= λ y. done (mk x y)) bytes z rest h e in
      let q = takes_first b (λ y. done (mk p.value y)) p.after z rest p.bytes_after p.then' in
      let d = done_is (mk p.value q.value) z q.after rest q.then' in
      record {
        one = p.value;
        two = q.value;
        made = d.0;
        parts = parts_then bytes (text p.value) p.after (text' q.value) rest p.parts (parts_done p.after (text' q.value) q.after rest q.parts d.1);
        fits = p.fits;
        fits' = q.fits;
        bytes_after = subst IsBytes d.1 q.bytes_after;
      }

  pub both_again : (x : X) (y : Y) (rest : List ℕ) → Fits x → Fits' y → (r >>= λ x. s >>= λ y. done (mk x y)) ((text x ++ text' y) ++ rest) ≡ Ok (mk x y, rest)
  both_again x y rest h k = again_next a (λ x. s >>= λ y. done (mk x y)) x (text' y) rest h ∙ again_first b (λ y. done (mk x y)) y rest k

-- ---- a row of one, two or three fields

module _ {X Z : Type 0} {r : Reader X} {text : X → List ℕ} {Fits : X → Type 0} (a : Agrees r text Fits) (mk : X → Z) where
  -- what a row of one field took
  pub record Row1 (bytes : List ℕ) (z : Z) (rest : List ℕ) : Type 0 where
    pub one : X
    pub made : mk one ≡ z
    pub parts : bytes ≡ (text one ++ []) ++ rest
    pub fits : Fits one

  pub row1_take : (bytes : List ℕ) (z : Z) (rest : List ℕ) → IsBytes bytes → (r >>= λ x. done (mk x)) bytes ≡ Ok (z, rest) → Row1 bytes z rest
  row1_take bytes z rest h e =
      let p = takes_first a (λ x. done (mk x)) bytes z rest h e in
      let d = done_is (mk p.value) z p.after rest p.then' in
      record { one = p.value; made = d.0; parts = parts_then bytes (text p.value) p.after [] rest p.parts d.1; fits = p.fits }

module _ {X Y Z : Type 0} {r : Reader X} {text : X → List ℕ} {Fits : X → Type 0} (a : Agrees r text Fits)
    {s : Reader Y} {text' : Y → List ℕ} {Fits' : Y → Type 0} (b : Agrees s text' Fits') (mk : X → Y → Z) where
  -- what a row of two fields took
  pub record Row2 (bytes : List ℕ) (z : Z) (rest : List ℕ) : Type 0 where
    pub one : X
    pub two : Y
    pub made : mk one two ≡ z
    pub parts : bytes ≡ (text one ++ (text' two ++ [])) ++ rest
    pub fits : Fits one
    pub fits' : Fits' two

  pub row2_take : (bytes : List ℕ) (z : Z) (rest : List ℕ) → IsBytes bytes → (r >>= λ x. s >>= λ y. done (mk x y)) bytes ≡ Ok (z, rest) → Row2 bytes z rest
  row2_take bytes z rest h e =
      let p = takes_first a (λ x. s >>= λ y. done (mk x y)) bytes z rest h e in
      let q = row1_take b (mk p.value) p.after z rest p.bytes_after p.then' in
      record {
        one = p.value;
        two = q.one;
        made = q.made;
        parts = parts_then bytes (text p.value) p.after (text' q.one ++ []) rest p.parts q.parts;
        fits = p.fits;
        fits' = q.fits;
      }

module _ {X Y V Z : Type 0} {r : Reader X} {text : X → List ℕ} {Fits : X → Type 0} (a : Agrees r text Fits)
    {s : Reader Y} {text' : Y → List ℕ} {Fits' : Y → Type 0} (b : Agrees s text' Fits')
    {t : Reader V} {text'' : V → List ℕ} {Fits'' : V → Type 0} (c : Agrees t text'' Fits'') (mk : X → Y → V → Z) where
  -- what a row of three fields took
  pub record Row3 (bytes : List ℕ) (z : Z) (rest : List ℕ) : Type 0 where
    pub one : X
    pub two : Y
    pub three : V
    pub made : mk one two three ≡ z
    pub parts : bytes ≡ (text one ++ (text' two ++ (text'' three ++ []))) ++ rest
    pub fits : Fits one
    pub fits' : Fits' two
    pub fits'' : Fits'' three

  pub row3_take : (bytes : List ℕ) (z : Z) (rest : List ℕ) →
      IsBytes bytes →
      (r >>= λ x. s >>= λ y. t >>= λ v. done (mk x y v)) bytes ≡ Ok (z, rest) →
      Row3 bytes z rest
  row3_take bytes z rest h e =
      let p = takes_first a (λ x. s >>= λ y. t >>= λ v. done (mk x y v)) bytes z rest h e in
      let q = row2_take b c (mk p.value) p.after z rest p.bytes_after p.then' in
      record {
        one = p.value;
        two = q.one;
        three = q.two;
        made = q.made;
        parts = parts_then bytes (text p.value) p.after (text' q.one ++ (text'' q.two ++ [])) rest p.parts q.parts;
        fits = p.fits;
        fits' = q.fits;
        fits'' = q.fits';
      }

-- ---- bytes and numbers

pub octets_takes : (n : ℕ) (bytes front rest : List ℕ) → octets n bytes ≡ Ok (front, rest) → (bytes ≡ front ++ rest) × (length front ≡ n)
octets_takes n bytes front rest e =
    let g = guard_ok (nat_lt (length bytes) n) BadField (take n bytes, drop n bytes) (front, rest) e in
    let long : n ≤ length bytes = ltb-false _ _ g.0 in
    let front-is : take n bytes ≡ front = ap (λ (p : List ℕ × List ℕ). p.0) g.1 in
    let rest-is : drop n bytes ≡ rest = ap (λ (p : List ℕ × List ℕ). p.1) g.1 in
    (rw (← front-is, ← rest-is) (sym (take-append-drop n bytes)), rw (← front-is) (omega (arith, length-take n bytes)))

pub octets_again : (front rest : List ℕ) → octets (length front) (front ++ rest) ≡ Ok (front, rest)
octets_again front rest =
    let long : nat_lt (length (front ++ rest)) (length front) ≡ false = le-ltb _ _ (omega (arith, length-append front rest)) in
    rw (long, take_at front rest (length front) refl, drop_at front rest (length front) refl) refl
