-- Which error reading gives, and when.
use Rattle.std.proofs.Common.{◌≡◌, ◌≢◌, ◌⊎◌, inl, inr, ℕ, zero, suc, ◌+◌, ◌<◌, ◌≤◌, Bool, true, false, cond, List}
use Rattle.std.proofs.Common.{[], ◌∷◌, ◌++◌, length, take, drop, Result, Ok, Err, refl, sym, ap, subst, ◌∙◌, arith}
use Rattle.std.specs.Prelude.{nat_lt, ◌==◌}
use Rattle.std.specs.Int.{w16, from_be_bytes}
use Rattle.std.specs.List.{list_all}
use Rattle.std.specs.Cmp.Lexicographic.{bytes_decides}
use Rattle.std.proofs.lemmas.Bool.{le-ltb, cases_lt}
use Rattle.std.proofs.lemmas.Bool.Decides.{Decides-eqb, Decides-ltb}
use Rattle.std.proofs.lemmas.List.{length-append, length-take-le, take_at}
use Rattle.node_names.specs.NodeName.{Name, IsNodeName, is_name_byte}
use Rattle.handshake.specs.declared.TheConstants.{MAX_HELLO}
use Rattle.handshake.specs.declared.address.Address.{Address}
use Rattle.handshake.specs.declared.error.HelloError.{HelloError}
use Rattle.handshake.specs.declared.error.HelloError.TheVariants.{Short, NotPlumtree, OtherVersion, BadLabel, BadAddressee, BadName, BadAddress}
use Rattle.handshake.specs.declared.hello.Hello.{Hello}
use Rattle.handshake.specs.Faults.{BeginsOtherwise, HasOtherVersion, BeginsWithNoName, HasBadLabel, HasBadAddressee, HasBadName, HasBadAddress}
use Rattle.handshake.specs.Text.{plum, name_text}
use Rattle.handshake.specs.Reading.{◌>>=◌, Reader, go_on, done, judge, octets, byte, start, version, name, port, v4, v6, address, hello, with_length, read}
use Rattle.handshake.proofs.Agree.{IsBytes, IsBytes-after, octets_takes, again_first}
use Rattle.handshake.proofs.NameReading.{decided, name_from_pass, letters_pass, len_passes, len_bounds}
use Rattle.handshake.proofs.PartsAgree.{start_agrees, version_agrees, name_agrees, is_plum, fits_len, after_letters, after_len, octets_port, chosen, mk4, mk6}
use Rattle.handshake.proofs.HelloAgrees.{after_start, after_version, after_label, after_addressee, after_name, of_parts}

-- ---- one after the other

-- an error of two readers is one of the first, or of the second
bind_err : {X Y : Type 0} (r : Result (X × List ℕ) HelloError) (f : X → Reader Y) (e : HelloError) →
    go_on f r ≡ Err e →
    (r ≡ Err e) ⊎ ((x : X × List ℕ) × (r ≡ Ok x) × (f x.0 x.1 ≡ Err e))
bind_err (Ok x) f e p = inr (x, refl, p)
bind_err (Err d) f e p = let q : d ≡ e = cc in inl (ap Err q)

-- a first error
err_first : {X Y : Type 0} (r : Reader X) (f : X → Reader Y) (bytes : List ℕ) (e : HelloError) → r bytes ≡ Err e → (r >>= f) bytes ≡ Err e
err_first r f bytes e p = rw p refl

-- a test that failed
guard_err : {X : Type 0} (b : Bool) (d e : HelloError) (x : X × List ℕ) → cond b (Err d) (Ok x) ≡ Err e → (b ≡ true) × (e ≡ d)
guard_err true d e x p = let q : e ≡ d = cc in (refl, q)
guard_err false d e x p = absurd cc

octets_err : (n : ℕ) (bytes : List ℕ) (e : HelloError) → octets n bytes ≡ Err e → (e ≡ Short) × (length bytes < n)
octets_err n bytes e p =
    let g = guard_err (nat_lt (length bytes) n) Short e (take n bytes, drop n bytes) p in
    (g.1, (Decides-ltb (length bytes) n).0 g.0)

octets_ok : (n : ℕ) (bytes : List ℕ) → n ≤ length bytes → octets n bytes ≡ Ok (take n bytes, drop n bytes)
octets_ok n bytes le = let long : nat_lt (length bytes) n ≡ false = le-ltb _ _ le in rw long refl

-- an error of a judgement, with nothing after it
judge_err : (good : Bool) (error e : HelloError) (bytes : List ℕ) → judge good error bytes ≡ Err e → (good ≡ false) × (e ≡ error)
judge_err true error e bytes p = absurd cc
judge_err false error e bytes p = let q : e ≡ error = cc in (refl, q)

-- an error of a judgement, or of what comes after it
judge_then_err : {Y : Type 0} (good : Bool) (error e : HelloError) (f : Unit {0} → Reader Y) (bytes : List ℕ) →
    (judge good error >>= f) bytes ≡ Err e →
    ((good ≡ false) × (e ≡ error)) ⊎ ((good ≡ true) × (f tt bytes ≡ Err e))
judge_then_err true error e f bytes p = inr (refl, p)
judge_then_err false error e f bytes p = let q : e ≡ error = cc in inl (refl, q)

-- what is done has no error
done_no_err : {X : Type 0} (x : X) (bytes : List ℕ) (e : HelloError) → done x bytes ≡ Err e → ⊥
done_no_err x bytes e p = absurd cc

-- true is not false
torn : (b : Bool) → b ≡ true → b ≡ false → ⊥
torn b p q = let e : true ≡ false = sym p ∙ q in cc

-- a test that does not hold
refuted : (b : Bool) → (b ≡ true → ⊥) → b ≡ false
refuted b h = elim (decided b) [ inl p ↦ absurd (h p) | inr p ↦ p ]

-- ---- the start and the version

-- the errors of the start
abbrev StartErr : HelloError → List ℕ → Type 0
StartErr e bytes = ((e ≡ Short) × (length bytes < 4)) ⊎ ((e ≡ NotPlumtree) × BeginsOtherwise bytes)

start_err : (bytes : List ℕ) (e : HelloError) → start bytes ≡ Err e → StartErr e bytes
unfolding start
start_err bytes e p = elim (bind_err (octets 4 bytes) (λ front. judge (is_plum front) NotPlumtree) e p) [
  | inl q ↦ inl (octets_err 4 bytes e q)
  | inr q ↦
      let t = octets_takes 4 bytes q.0.0 q.0.1 q.1 in
      let j = judge_err (is_plum q.0.0) NotPlumtree e q.0.1 q.2 in
      let front : take 4 bytes ≡ q.0.0 = ap (take 4) t.0 ∙ take_at q.0.0 q.0.1 4 t.1 in
      let long : 4 ≤ length bytes = omega (arith, ap length t.0, length-append q.0.0 q.0.1, t.1) in
      inr (j.1, (long, λ is. torn (is_plum q.0.0) ((bytes_decides q.0.0 plum).1 (sym front ∙ is)) j.0))
]

start_refused : (bytes : List ℕ) → BeginsOtherwise bytes → start bytes ≡ Err NotPlumtree
unfolding start
start_refused bytes h =
    let fails : is_plum (take 4 bytes) ≡ false = refuted (is_plum (take 4 bytes)) (λ p. h.1 ((bytes_decides (take 4 bytes) plum).0 p)) in
    rw (octets_ok 4 bytes h.0, fails) refl

-- a version other than 2
record OtherFirst (e : HelloError) (bytes : List ℕ) : Type 0 where
  value : ℕ
  rest : List ℕ
  is : e ≡ OtherVersion value
  begins : bytes ≡ value ∷ rest
  other : value ≢ 2

version_err : (bytes : List ℕ) (e : HelloError) → version bytes ≡ Err e → ((e ≡ Short) × (length bytes < 1)) ⊎ OtherFirst e bytes
unfolding version byte
version_err [] e p = let q : e ≡ Short = cc in inl (q, omega arith)
version_err (v ∷ rest) e p =
    let j = judge_err (v == 2) (OtherVersion v) e rest p in
    inr (record { value = v; rest = rest; is = j.1; begins = refl; other = λ is. torn (v == 2) ((Decides-eqb v 2).1 is) j.0 })

version_refused : (v : ℕ) (rest : List ℕ) → v ≢ 2 → version (v ∷ rest) ≡ Err (OtherVersion v)
unfolding version byte
version_refused v rest other =
    let fails : (v == 2) ≡ false = refuted (v == 2) (λ p. other ((Decides-eqb v 2).0 p)) in
    rw fails refl

-- ---- names

-- the errors of a name
abbrev NameErr : HelloError → HelloError → List ℕ → Type 0
NameErr bad e bytes = ((e ≡ Short) × (length bytes < 33)) ⊎ ((e ≡ bad) × BeginsWithNoName bytes)

-- a length that is not 1 to 32
len_wrong : (len : ℕ) (rest : List ℕ) → fits_len len ≡ false → (32 < len) ⊎ ((len ≤ length rest) × ¬ IsNodeName (take len rest))
len_wrong zero rest fails = inr (omega arith, λ h. let some : 0 < length (take 0 rest) = h.not_empty in omega (arith, some))
len_wrong (suc len) rest fails = elim (cases_lt 32 (suc len)) [
  | inl lt ↦ inl lt
  | inr le ↦ absurd (torn (fits_len (suc len)) (len_passes (suc len) (omega arith) le) fails)
]

letters_err : (bad e : HelloError) (len : ℕ) (rest : List ℕ) →
    len ≤ 32 →
    (octets len >>= after_letters bad) rest ≡ Err e →
    ((e ≡ Short) × (length rest < 32)) ⊎ ((e ≡ bad) × ((len ≤ length rest) × ¬ IsNodeName (take len rest)))
letters_err bad e len rest few p = elim (bind_err (octets len rest) (after_letters bad) e p) [
  | inl q ↦ let o = octets_err len rest e q in inl (o.0, omega (arith, o.1))
  | inr q ↦
      let t = octets_takes len rest q.0.0 q.0.1 q.1 in
      let front : take len rest ≡ q.0.0 = ap (take len) t.0 ∙ take_at q.0.0 q.0.1 len t.1 in
      let long : len ≤ length rest = omega (arith, ap length t.0, length-append q.0.0 q.0.1, t.1) in
      elim (judge_then_err (list_all is_name_byte q.0.0) bad e (λ _. done q.0.0) q.0.1 q.2) [
        | inl j ↦ inr (j.1, (long, λ h. torn (list_all is_name_byte q.0.0) (letters_pass q.0.0 (subst IsNodeName front h)) j.0))
        | inr j ↦ absurd (done_no_err q.0.0 q.0.1 e j.1)
      ]
]

name_err : (bad : HelloError) (bytes : List ℕ) (e : HelloError) → name bad bytes ≡ Err e → NameErr bad e bytes
unfolding name byte
name_err bad [] e p = let q : e ≡ Short = cc in inl (q, omega arith)
name_err bad (len ∷ rest) e p = elim (judge_then_err (fits_len len) bad e (λ _. octets len >>= after_letters bad) rest p) [
  | inl j ↦ inr (j.1, record { len = len; rest = rest; begins = refl; wrong = len_wrong len rest j.0 })
  | inr j ↦ elim (letters_err bad e len rest (len_bounds len j.0).1 j.1) [
    | inl s ↦ inl (s.0, omega (arith, s.1))
    | inr w ↦ inr (w.0, record { len = len; rest = rest; begins = refl; wrong = inr w.1 })
  ]
]

-- a name is refused by its length
len_refused : (bad : HelloError) (len : ℕ) (rest : List ℕ) → fits_len len ≡ false → after_len bad len rest ≡ Err bad
len_refused bad len rest fails = rw fails refl

-- a name is refused by its letters
letters_refused : (bad : HelloError) (len : ℕ) (rest : List ℕ) →
    fits_len len ≡ true →
    len ≤ length rest →
    ¬ IsNodeName (take len rest) →
    after_len bad len rest ≡ Err bad
letters_refused bad len rest fits le not-name =
    let bounds = len_bounds len fits in
    let l = length-take-le len rest le in
    let fails : list_all is_name_byte (take len rest) ≡ false =
    refuted (list_all is_name_byte (take len rest)) (λ p. not-name (name_from_pass (take len rest) (omega arith) (omega arith) p)) in
    rw (fits, octets_ok len rest le, fails) refl

len_over : (len : ℕ) → 32 < len → fits_len len ≡ false
len_over len lt = refuted (fits_len len) (λ p. let b = len_bounds len p in omega arith)

name_refused_by : (bad : HelloError) (bytes : List ℕ) → BeginsWithNoName bytes → name bad bytes ≡ Err bad
unfolding name byte
name_refused_by bad bytes h =
    let whole : after_len bad h.len h.rest ≡ Err bad = elim h.wrong [
      | inl lt ↦ len_refused bad h.len h.rest (len_over h.len lt)
      | inr w ↦ elim (decided (fits_len h.len)) [
        | inl fits ↦ letters_refused bad h.len h.rest fits w.0 w.1
        | inr fails ↦ len_refused bad h.len h.rest fails
      ]
    ] in
    rw h.begins whole

-- ---- addresses

port_err : (bytes : List ℕ) (e : HelloError) → port bytes ≡ Err e → (e ≡ Short) × (length bytes < 2)
unfolding port
port_err bytes e p = elim (bind_err (octets 2 bytes) (λ bs. done (from_be_bytes w16 bs)) e p) [
  | inl q ↦ octets_err 2 bytes e q
  | inr q ↦ absurd (done_no_err (from_be_bytes w16 q.0.0) q.0.1 e q.2)
]

octets_port_err : (n : ℕ) (mk : List ℕ → ℕ → Address) (bytes : List ℕ) (e : HelloError) → octets_port n mk bytes ≡ Err e → (e ≡ Short) × (length bytes < n + 2)
octets_port_err n mk bytes e p = elim (bind_err (octets n bytes) (λ o. port >>= λ p. done (mk o p)) e p) [
  | inl q ↦ let o = octets_err n bytes e q in (o.0, omega (arith, o.1))
  | inr q ↦ elim (bind_err (port q.0.1) (λ p. done (mk q.0.0 p)) e q.2) [
    | inl r ↦
        let o = port_err q.0.1 e r in
        let t = octets_takes n bytes q.0.0 q.0.1 q.1 in
        (o.0, omega (arith, o.1, ap length t.0, length-append q.0.0 q.0.1, t.1))
    | inr r ↦ absurd (done_no_err (mk q.0.0 r.0.0) r.0.1 e r.2)
  ]
]

-- a kind that is neither 4 nor 6
record OtherKind (e : HelloError) (bytes : List ℕ) : Type 0 where
  kind : ℕ
  rest : List ℕ
  is : e ≡ BadAddress kind
  begins : bytes ≡ kind ∷ rest
  not_v4 : kind ≢ 4
  not_v6 : kind ≢ 6

chosen_err : (four six : Bool) (kind : ℕ) (bytes : List ℕ) (e : HelloError) →
    (kind ≡ 4 → four ≡ true) →
    (kind ≡ 6 → six ≡ true) →
    chosen four six kind bytes ≡ Err e →
    ((e ≡ Short) × (length bytes < 18)) ⊎ OtherKind e (kind ∷ bytes)
unfolding v4 v6
chosen_err true six kind bytes e is-four is-six p = let o = octets_port_err 4 mk4 bytes e p in inl (o.0, omega (arith, o.1))
chosen_err false true kind bytes e is-four is-six p = let o = octets_port_err 16 mk6 bytes e p in inl (o.0, omega (arith, o.1))
chosen_err false false kind bytes e is-four is-six p =
    let q : e ≡ BadAddress kind = cc in
    inr (record { kind = kind; rest = bytes; is = q; begins = refl; not_v4 = λ k. torn false (is-four k) refl; not_v6 = λ k. torn false (is-six k) refl })

address_err : (bytes : List ℕ) (e : HelloError) → address bytes ≡ Err e → ((e ≡ Short) × (length bytes < 19)) ⊎ OtherKind e bytes
unfolding address byte
address_err [] e p = let q : e ≡ Short = cc in inl (q, omega arith)
address_err (kind ∷ rest) e p = elim (chosen_err (kind == 4) (kind == 6) kind rest e (Decides-eqb kind 4).1 (Decides-eqb kind 6).1 p) [
  | inl s ↦ inl (s.0, omega (arith, s.1))
  | inr o ↦ inr o
]

address_refused : (kind : ℕ) (rest : List ℕ) → kind ≢ 4 → kind ≢ 6 → address (kind ∷ rest) ≡ Err (BadAddress kind)
unfolding address byte
address_refused kind rest four six =
    let fails-four : (kind == 4) ≡ false = refuted (kind == 4) (λ p. four ((Decides-eqb kind 4).0 p)) in
    let fails-six : (kind == 6) ≡ false = refuted (kind == 6) (λ p. six ((Decides-eqb kind 6).0 p)) in
    rw (fails-four, fails-six) refl

-- ---- the whole

-- what an error says of the bytes
abbrev pub Told : HelloError → List ℕ → Type 0
Told Short bytes = length bytes < MAX_HELLO
Told NotPlumtree bytes = BeginsOtherwise bytes
Told (OtherVersion v) bytes = HasOtherVersion v bytes
Told BadLabel bytes = HasBadLabel bytes
Told BadAddressee bytes = HasBadAddressee bytes
Told BadName bytes = HasBadName bytes
Told (BadAddress kind) bytes = HasBadAddress kind bytes

-- of the error that it is
told : (d e : HelloError) (bytes : List ℕ) → e ≡ d → Told d bytes → Told e bytes
told d e bytes is t = subst (λ x. Told x bytes) (sym is) t

-- what stands before the name of the node that dials, and before its address
abbrev before_name : Name → Name → List ℕ → List ℕ
before_name l t rest = plum ++ (2 ∷ (name_text l ++ (name_text t ++ rest)))

abbrev before_address : Name → Name → Name → List ℕ → List ℕ
before_address l t n rest = before_name l t (name_text n ++ rest)

-- how long these are
before_name_len : (l t rest : List ℕ) → length (before_name l t rest) ≡ 7 + length l + length t + length rest
before_name_len l t rest = omega (arith, length-append (name_text l) (name_text t ++ rest), length-append (name_text t) rest)

before_address_len : (l t n rest : List ℕ) → length (before_address l t n rest) ≡ 8 + length l + length t + length n + length rest
before_address_len l t n rest = omega (arith, before_name_len l t (name_text n ++ rest), length-append (name_text n) rest)

after_name_told : (l t n : Name) (bytes rest : List ℕ) (e : HelloError) →
    IsNodeName l →
    IsNodeName t →
    IsNodeName n →
    bytes ≡ before_address l t n rest →
    after_name l t n rest ≡ Err e →
    Told e bytes
after_name_told l t n bytes rest e il it in' is p = elim (bind_err (address rest) (λ a. done (of_parts l t n a)) e p) [
  | inl q ↦ elim (address_err rest e q) [
    | inl s ↦ told Short e bytes s.0 (omega (arith, s.1, il.short, it.short, in'.short, ap length is, before_address_len l t n rest))
    | inr o ↦ told (BadAddress o.kind) e bytes o.is (record {
      label = l;
      to = t;
      name = n;
      rest = o.rest;
      begins = is ∙ ap (before_address l t n) o.begins;
      is_label = il;
      is_to = it;
      is_name = in';
      not_v4 = o.not_v4;
      not_v6 = o.not_v6;
    })
  ]
  | inr q ↦ absurd (done_no_err (of_parts l t n q.0.0) q.0.1 e q.2)
]

after_addressee_told : (l t : Name) (bytes rest : List ℕ) (e : HelloError) →
    IsBytes rest →
    IsNodeName l →
    IsNodeName t →
    bytes ≡ before_name l t rest →
    after_addressee l t rest ≡ Err e →
    Told e bytes
after_addressee_told l t bytes rest e small il it is p = elim (bind_err (name BadName rest) (after_name l t) e p) [
  | inl q ↦ elim (name_err BadName rest e q) [
    | inl s ↦ told Short e bytes s.0 (omega (arith, s.1, il.short, it.short, ap length is, before_name_len l t rest))
    | inr o ↦ told BadName e bytes o.0 (record { label = l; to = t; rest = rest; begins = is; is_label = il; is_to = it; wrong = o.1 })
  ]
  | inr q ↦
      let n = (name_agrees BadName).takes rest q.0.0 q.0.1 small q.1 in
      after_name_told l t q.0.0 bytes q.0.1 e il it n.1 (is ∙ ap (before_name l t) n.0) q.2
]

after_label_told : (l : Name) (bytes rest : List ℕ) (e : HelloError) →
    IsBytes rest →
    IsNodeName l →
    bytes ≡ plum ++ (2 ∷ (name_text l ++ rest)) →
    after_label l rest ≡ Err e →
    Told e bytes
after_label_told l bytes rest e small il is p = elim (bind_err (name BadAddressee rest) (after_addressee l) e p) [
  | inl q ↦ elim (name_err BadAddressee rest e q) [
    | inl s ↦ told Short e bytes s.0 (omega (arith, s.1, il.short, ap length is, length-append (name_text l) rest))
    | inr o ↦ told BadAddressee e bytes o.0 (record { label = l; rest = rest; begins = is; is_label = il; wrong = o.1 })
  ]
  | inr q ↦
      let t = (name_agrees BadAddressee).takes rest q.0.0 q.0.1 small q.1 in
      let after = IsBytes-after (name_text q.0.0) q.0.1 rest t.0 small in
      after_addressee_told l q.0.0 bytes q.0.1 e after il t.1 (is ∙ ap (λ r. plum ++ (2 ∷ (name_text l ++ r))) t.0) q.2
]

after_version_told : (bytes rest : List ℕ) (e : HelloError) → IsBytes rest → bytes ≡ plum ++ (2 ∷ rest) → after_version tt rest ≡ Err e → Told e bytes
after_version_told bytes rest e small is p = elim (bind_err (name BadLabel rest) after_label e p) [
  | inl q ↦ elim (name_err BadLabel rest e q) [
    | inl s ↦ told Short e bytes s.0 (omega (arith, s.1, ap length is))
    | inr o ↦ told BadLabel e bytes o.0 (record { rest = rest; begins = is; wrong = o.1 })
  ]
  | inr q ↦
      let t = (name_agrees BadLabel).takes rest q.0.0 q.0.1 small q.1 in
      after_label_told q.0.0 bytes q.0.1 e (IsBytes-after (name_text q.0.0) q.0.1 rest t.0 small) t.1 (is ∙ ap (λ r. plum ++ (2 ∷ r)) t.0) q.2
]

after_start_told : (bytes rest : List ℕ) (e : HelloError) → IsBytes rest → bytes ≡ plum ++ rest → after_start tt rest ≡ Err e → Told e bytes
after_start_told bytes rest e small is p = elim (bind_err (version rest) after_version e p) [
  | inl q ↦ elim (version_err rest e q) [
    | inl s ↦ told Short e bytes s.0 (omega (arith, s.1, ap length is))
    | inr o ↦ told (OtherVersion o.value) e bytes o.is (record { rest = o.rest; begins = is ∙ ap (λ r. plum ++ r) o.begins; other = o.other })
  ]
  | inr q ↦
      let t = version_agrees.takes rest q.0.0 q.0.1 small q.1 in
      after_version_told bytes q.0.1 e (IsBytes-after (2 ∷ []) q.0.1 rest t.0 small) (is ∙ ap (λ r. plum ++ r) t.0) q.2
]

hello_told : (bytes : List ℕ) (e : HelloError) → IsBytes bytes → hello bytes ≡ Err e → Told e bytes
unfolding hello
hello_told bytes e small p = elim (bind_err (start bytes) after_start e p) [
  | inl q ↦ elim (start_err bytes e q) [
    | inl s ↦ told Short e bytes s.0 (omega (arith, s.1))
    | inr o ↦ told NotPlumtree e bytes o.0 o.1
  ]
  | inr q ↦
      let t = start_agrees.takes bytes q.0.0 q.0.1 small q.1 in
      after_start_told bytes q.0.1 e (IsBytes-after plum q.0.1 bytes t.0 small) t.0 q.2
]

-- ---- and back

past_start : (rest : List ℕ) → hello (plum ++ rest) ≡ after_start tt rest
unfolding hello
past_start rest = again_first start_agrees after_start tt rest tt

past_version : (rest : List ℕ) → hello (plum ++ (2 ∷ rest)) ≡ after_version tt rest
past_version rest = past_start (2 ∷ rest) ∙ again_first version_agrees after_version tt rest tt

past_label : (l rest : List ℕ) → IsNodeName l → hello (plum ++ (2 ∷ (name_text l ++ rest))) ≡ after_label l rest
past_label l rest h = past_version (name_text l ++ rest) ∙ again_first (name_agrees BadLabel) after_label l rest h

past_addressee : (l t rest : List ℕ) → IsNodeName l → IsNodeName t → hello (before_name l t rest) ≡ after_addressee l t rest
past_addressee l t rest h k = past_label l (name_text t ++ rest) h ∙ again_first (name_agrees BadAddressee) (after_addressee l) t rest k

past_name : (l t n rest : List ℕ) → IsNodeName l → IsNodeName t → IsNodeName n → hello (before_address l t n rest) ≡ after_name l t n rest
past_name l t n rest h k m = past_addressee l t (name_text n ++ rest) h k ∙ again_first (name_agrees BadName) (after_name l t) n rest m

other_start : (bytes : List ℕ) → BeginsOtherwise bytes → hello bytes ≡ Err NotPlumtree
unfolding hello
other_start bytes h = err_first start after_start bytes NotPlumtree (start_refused bytes h)

other_version : (v : ℕ) (bytes : List ℕ) → HasOtherVersion v bytes → hello bytes ≡ Err (OtherVersion v)
other_version v bytes h =
    ap hello h.begins ∙ past_start (v ∷ h.rest) ∙ err_first version after_version (v ∷ h.rest) (OtherVersion v) (version_refused v h.rest h.other)

bad_label : (bytes : List ℕ) → HasBadLabel bytes → hello bytes ≡ Err BadLabel
bad_label bytes h = ap hello h.begins ∙ past_version h.rest ∙ err_first (name BadLabel) after_label h.rest BadLabel (name_refused_by BadLabel h.rest h.wrong)

bad_addressee : (bytes : List ℕ) → HasBadAddressee bytes → hello bytes ≡ Err BadAddressee
bad_addressee bytes h =
    ap hello h.begins
    ∙ past_label h.label h.rest h.is_label
    ∙ err_first (name BadAddressee) (after_addressee h.label) h.rest BadAddressee (name_refused_by BadAddressee h.rest h.wrong)

bad_name : (bytes : List ℕ) → HasBadName bytes → hello bytes ≡ Err BadName
bad_name bytes h =
    ap hello h.begins
    ∙ past_addressee h.label h.to h.rest h.is_label h.is_to
    ∙ err_first (name BadName) (after_name h.label h.to) h.rest BadName (name_refused_by BadName h.rest h.wrong)

bad_address : (kind : ℕ) (bytes : List ℕ) → HasBadAddress kind bytes → hello bytes ≡ Err (BadAddress kind)
bad_address kind bytes h =
    ap hello h.begins ∙ past_name h.label h.to h.name (kind ∷ h.rest) h.is_label h.is_to h.is_name
    ∙ err_first address (λ a. done (of_parts h.label h.to h.name a)) (kind ∷ h.rest) (BadAddress kind) (address_refused kind h.rest h.not_v4 h.not_v6)

-- ---- with the length

length_err : (n : ℕ) (r : Result (Hello × List ℕ) HelloError) (e : HelloError) → with_length n r ≡ Err e → r ≡ Err e
length_err n (Ok x) e p = absurd cc
length_err n (Err d) e p = let q : d ≡ e = cc in ap Err q

pub decoded_told :
    (bytes : List ℕ) (result : Result (Hello × ℕ) HelloError) → IsBytes bytes → result ≡ read bytes → (e : HelloError) → result ≡ Err e → Told e bytes
unfolding read
decoded_told bytes result small is e p = hello_told bytes e small (length_err (length bytes) (hello bytes) e (sym is ∙ p))

-- the errors that come where they are told, Short aside
abbrev pub NotShort : HelloError → Type 0
NotShort Short = ⊥
NotShort NotPlumtree = Unit {0}
NotShort (OtherVersion v) = Unit {0}
NotShort BadLabel = Unit {0}
NotShort BadAddressee = Unit {0}
NotShort BadName = Unit {0}
NotShort (BadAddress kind) = Unit {0}

hello_refused : (e : HelloError) (bytes : List ℕ) → NotShort e → Told e bytes → hello bytes ≡ Err e
hello_refused Short bytes h t = absurd h
hello_refused NotPlumtree bytes h t = other_start bytes t
hello_refused (OtherVersion v) bytes h t = other_version v bytes t
hello_refused BadLabel bytes h t = bad_label bytes t
hello_refused BadAddressee bytes h t = bad_addressee bytes t
hello_refused BadName bytes h t = bad_name bytes t
hello_refused (BadAddress kind) bytes h t = bad_address kind bytes t

pub decoded_refused :
    (bytes : List ℕ) (result : Result (Hello × ℕ) HelloError) → result ≡ read bytes → (e : HelloError) → NotShort e → Told e bytes → result ≡ Err e
unfolding read
decoded_refused bytes result is e h t = is ∙ ap (with_length (length bytes)) (hello_refused e bytes h t)
