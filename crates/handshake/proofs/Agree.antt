-- A part that is read is the part that was written; what was written is read again, and its beginning is short.
use Rattle.std.proofs.Common.{◌≡◌, inl, inr, ℕ, ◌+◌, ◌<◌, ◌≤◌, Bool, true, false, cond, List, [], ◌++◌, length}
use Rattle.std.proofs.Common.{get_or, take, drop, Result, Ok, Err, refl, sym, ap, subst, ◌∙◌, append_assoc, arith}
use Rattle.std.specs.Prelude.{nat_lt}
use Rattle.std.proofs.lemmas.Bool.{ltb-false, le-ltb, lt-ltb, cases_lt}
use Rattle.std.proofs.lemmas.List.{take_at, drop_at, take-append-drop, take-append-le, drop-append-le}
use Rattle.std.proofs.lemmas.List.{length-append, length-take, length-drop, get_or-drop, get_or-take, get_or_past}
use Rattle.handshake.specs.declared.error.HelloError.{HelloError}
use Rattle.handshake.specs.declared.error.HelloError.TheVariants.{Short}
use Rattle.handshake.specs.Reading.{Reader, ◌>>=◌, go_on, done, judge, octets}

-- bytes are below 256
abbrev pub IsBytes : List ℕ → Type 0
IsBytes bytes = (i : ℕ) → get_or bytes i 0 < 256

IsBytes-drop : (n : ℕ) (bytes : List ℕ) → IsBytes bytes → IsBytes (drop n bytes)
IsBytes-drop n bytes h i = rw get_or-drop (h (n + i))

-- what follows some bytes
pub IsBytes-after : (front rest bytes : List ℕ) → bytes ≡ front ++ rest → IsBytes bytes → IsBytes rest
IsBytes-after front rest bytes e h =
    let tail : drop (length front) bytes ≡ rest = rw e (drop_at front rest (length front) refl) in
    subst IsBytes tail (IsBytes-drop (length front) bytes h)

-- and what comes before
pub IsBytes-before : (front rest bytes : List ℕ) → bytes ≡ front ++ rest → IsBytes bytes → IsBytes front
IsBytes-before front rest bytes e h i =
    let head : take (length front) bytes ≡ front = rw e (take_at front rest (length front) refl) in
    elim (cases_lt i (length front)) [
      | inl lt ↦ rw (← head, get_or-take (length front) bytes i 0 lt) (h i)
      | inr le ↦ rw (get_or_past front i 0 le) (omega arith)
    ]

-- What is read stands as its text, and holds what it may; what holds what it may is read from its text, and a proper
-- beginning of that text is short.
pub record Agrees {X : Type 0} (r : Reader X) (text : X → List ℕ) (Fits : X → Type 0) : Type 0 where
  pub takes : (bytes : List ℕ) (x : X) (rest : List ℕ) → IsBytes bytes → r bytes ≡ Ok (x, rest) → (bytes ≡ text x ++ rest) × Fits x
  pub again : (x : X) (rest : List ℕ) → Fits x → r (text x ++ rest) ≡ Ok (x, rest)
  pub cut : (x : X) (front more : List ℕ) → Fits x → text x ≡ front ++ more → 0 < length more → r front ≡ Err Short

-- ---- one after the other

-- what a first reader took, where the second ended well
pub record First {X Y : Type 0} (r : Reader X) (text : X → List ℕ) (Fits : X → Type 0) (f : X → Reader Y) (bytes : List ℕ) (y : Y) (rest : List ℕ) :
    Type 0 where
  pub value : X
  pub after : List ℕ
  pub parts : bytes ≡ text value ++ after
  pub fits : Fits value
  pub bytes_after : IsBytes after
  pub then' : f value after ≡ Ok (y, rest)

abbrev pub answer : {X : Type 0} → X × List ℕ → Result (X × List ℕ) HelloError
answer x = Ok x

pub bind_ok : {X Y : Type 0} (r : Result (X × List ℕ) HelloError) (f : X → Reader Y) (y : Y × List ℕ) →
    go_on f r ≡ Ok y →
    (x : X × List ℕ) × (r ≡ Ok x) × (f x.0 x.1 ≡ Ok y)
bind_ok (Ok x) f y e = (x, refl, e)
bind_ok (Err d) f y e = absurd cc

pub takes_first : {X Y : Type 0} {r : Reader X} {text : X → List ℕ} {Fits : X → Type 0} →
    Agrees r text Fits →
    (f : X → Reader Y) (bytes : List ℕ) (y : Y) (rest : List ℕ) →
    IsBytes bytes →
    (r >>= f) bytes ≡ Ok (y, rest) →
    First r text Fits f bytes y rest
takes_first {r = r} {text = text} a f bytes y rest h e =
    let b = bind_ok (r bytes) f (y, rest) e in
    let t = a.takes bytes b.0.0 b.0.1 h b.1 in
    record { value = b.0.0; after = b.0.1; parts = t.0; fits = t.1; bytes_after = IsBytes-after (text b.0.0) b.0.1 bytes t.0 h; then' = b.2 }

pub again_first : {X Y : Type 0} {r : Reader X} {text : X → List ℕ} {Fits : X → Type 0} →
    Agrees r text Fits →
    (f : X → Reader Y) (x : X) (more : List ℕ) →
    Fits x →
    (r >>= f) (text x ++ more) ≡ f x more
again_first a f x more h = rw (a.again x more h) refl

-- with the text of the next behind it
pub again_next : {X Y : Type 0} {r : Reader X} {text : X → List ℕ} {Fits : X → Type 0} →
    Agrees r text Fits →
    (f : X → Reader Y) (x : X) (next more : List ℕ) →
    Fits x →
    (r >>= f) ((text x ++ next) ++ more) ≡ f x (next ++ more)
again_next {r = r} {text = text} a f x next more h = ap (r >>= f) (append_assoc (text x) next more) ∙ again_first a f x (next ++ more) h

-- a value that was read
pub ok_is : {X : Type 0} (x y : X × List ℕ) → answer x ≡ answer y → x ≡ y
ok_is x y e = cc

-- what was done
pub done_is : {X : Type 0} (x y : X) (bytes rest : List ℕ) → done x bytes ≡ Ok (y, rest) → (x ≡ y) × (bytes ≡ rest)
done_is x y bytes rest e = let p = ok_is (x, bytes) (y, rest) e in (ap (λ (q : _ × List ℕ). q.0) p, ap (λ (q : _ × List ℕ). q.1) p)

-- a test that did not fail
guard_ok : {X : Type 0} (b : Bool) (d : HelloError) (x y : X × List ℕ) → cond b (Err d) (Ok x) ≡ Ok y → (b ≡ false) × (x ≡ y)
guard_ok true d x y e = absurd cc
guard_ok false d x y e = (refl, cc)

-- a judgement that was good, with nothing after it
pub judged_last : (good : Bool) (error : HelloError) (bytes rest : List ℕ) → judge good error bytes ≡ Ok (tt, rest) → (good ≡ true) × (bytes ≡ rest)
judged_last true error bytes rest e = (refl, (done_is tt tt bytes rest e).1)
judged_last false error bytes rest e = absurd cc

-- a judgement that was good
pub judged : {Y : Type 0} (good : Bool) (error : HelloError) (f : Unit {0} → Reader Y) (bytes : List ℕ) (y : Y × List ℕ) →
    (judge good error >>= f) bytes ≡ Ok y →
    (good ≡ true) × (f tt bytes ≡ Ok y)
judged true error f bytes y e = (refl, e)
judged false error f bytes y e = absurd cc

-- ---- beginnings

-- nothing is cut from what is empty
pub none_left : (front more : List ℕ) → [] ≡ front ++ more → 0 < length more → ⊥
none_left front more e some =
    let l : 0 ≡ length (front ++ more) = ap length e in
    omega (arith, l, length-append front more)

-- the beginning of two parts that ends within the first
cut_before : (a next front more : List ℕ) → a ++ next ≡ front ++ more → length front < length a → a ≡ front ++ drop (length front) a
cut_before a next front more e lt =
    let le : length front ≤ length a = omega arith in
    let head : take (length front) a ≡ front =
    sym (take-append-le (length front) a next le) ∙ ap (take (length front)) e ∙ take_at front more (length front) refl in
    sym (take-append-drop (length front) a) ∙ ap (λ t. t ++ drop (length front) a) head

-- the beginning of two parts that ends after the first
cut_after : (a next front more : List ℕ) →
    a ++ next ≡ front ++ more →
    length a ≤ length front →
    (front ≡ a ++ drop (length a) front) × (next ≡ drop (length a) front ++ more)
cut_after a next front more e le =
    let head : take (length a) front ≡ a = sym (take-append-le (length a) front more le) ∙ ap (take (length a)) (sym e) ∙ take_at a next (length a) refl in (
      sym (take-append-drop (length a) front) ∙ ap (λ t. t ++ drop (length a) front) head,
      sym (drop_at a next (length a) refl) ∙ ap (drop (length a)) e ∙ drop-append-le (length a) front more le,
    )

-- the one part is cut
pub cut_only : {X Y : Type 0} {r : Reader X} {text : X → List ℕ} {Fits : X → Type 0} →
    Agrees r text Fits →
    (f : X → Reader Y) (x : X) (front more : List ℕ) →
    Fits x →
    text x ≡ front ++ more →
    0 < length more →
    (r >>= f) front ≡ Err Short
cut_only a f x front more h e some = rw (a.cut x front more h e some) refl

-- the first part is cut, or what comes after it
pub cut_first : {X Y : Type 0} {r : Reader X} {text : X → List ℕ} {Fits : X → Type 0} →
    Agrees r text Fits →
    (f : X → Reader Y) (x : X) (next front more : List ℕ) →
    Fits x →
    text x ++ next ≡ front ++ more →
    0 < length more
    → ((rest : List ℕ) → next ≡ rest ++ more → f x rest ≡ Err Short) → (r >>= f) front ≡ Err Short
cut_first {r = r} {text = text} a f x next front more h e some then-cut =
    elim (cases_lt (length front) (length (text x))) [
      | inl lt ↦
          cut_only a f x front (drop (length front) (text x)) h (cut_before (text x) next front more e lt) (omega (arith, length-drop (length front) (text x)))
      | inr le ↦
          let c = cut_after (text x) next front more e le in
          ap (r >>= f) c.0 ∙ again_first a f x (drop (length (text x)) front) h ∙ then-cut (drop (length (text x)) front) c.1
    ]

-- ---- bytes

pub octets_takes : (n : ℕ) (bytes front rest : List ℕ) → octets n bytes ≡ Ok (front, rest) → (bytes ≡ front ++ rest) × (length front ≡ n)
octets_takes n bytes front rest e =
    let g = guard_ok (nat_lt (length bytes) n) Short (take n bytes, drop n bytes) (front, rest) e in
    let long : n ≤ length bytes = ltb-false _ _ g.0 in
    let front-is : take n bytes ≡ front = ap (λ (p : List ℕ × List ℕ). p.0) g.1 in
    let rest-is : drop n bytes ≡ rest = ap (λ (p : List ℕ × List ℕ). p.1) g.1 in
    (rw (← front-is, ← rest-is) (sym (take-append-drop n bytes)), rw (← front-is) (omega (arith, length-take n bytes)))

octets_again : (n : ℕ) (front rest : List ℕ) → length front ≡ n → octets n (front ++ rest) ≡ Ok (front, rest)
octets_again n front rest l =
    let long : nat_lt (length (front ++ rest)) n ≡ false = le-ltb _ _ (omega (arith, length-append front rest)) in
    rw (long, take_at front rest n l, drop_at front rest n l) refl

octets_cut : (n : ℕ) (x front more : List ℕ) → length x ≡ n → x ≡ front ++ more → 0 < length more → octets n front ≡ Err Short
octets_cut n x front more l e some =
    let short : nat_lt (length front) n ≡ true = lt-ltb _ _ (omega (arith, ap length e, length-append front more)) in
    rw short refl

pub octets_agrees : (n : ℕ) → Agrees (octets n) (λ x. x) (λ x. length x ≡ n)
octets_agrees n = record {
  takes = λ bytes front rest h e. octets_takes n bytes front rest e;
  again = octets_again n;
  cut = octets_cut n;
}
