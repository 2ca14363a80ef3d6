-- A Hello is read as it is written.
use Rattle.std.proofs.Common.{◌≡◌, ℕ, ◌-◌, ◌<◌, ◌≤◌, List, [], ◌∷◌, ◌++◌, length, take, Result, Ok, Err, refl, sym, ap, subst, ◌∙◌, append_assoc, arith}
use Rattle.std.specs.Prelude.{IfOk}
use Rattle.std.proofs.lemmas.List.{length-append, take_at}
use Rattle.node_names.specs.NodeName.{Name}
use Rattle.handshake.specs.declared.address.Address.{Address}
use Rattle.handshake.specs.declared.error.HelloError.{HelloError}
use Rattle.handshake.specs.declared.error.HelloError.TheVariants.{Short, BadLabel, BadAddressee, BadName}
use Rattle.handshake.specs.declared.hello.Hello.{Hello}
use Rattle.handshake.specs.Text.{plum, name_text, address_text, text, IsHello}
use Rattle.handshake.specs.Reading.{◌>>=◌, Reader, done, version, name, address, hello, with_length, read}
use Rattle.handshake.proofs.Agree.{IsBytes, takes_first, again_first, again_next, cut_first, cut_only, done_is}
use Rattle.handshake.proofs.PartsAgree.{start_agrees, version_agrees, name_agrees, address_agrees}

-- the Hello of these parts
abbrev pub of_parts : Name → Name → Name → Address → Hello
of_parts l t n a = record { label = l; to = t; name = n; at = a }

-- what follows the name, the addressee, the label, the version and the start
abbrev pub after_name : Name → Name → Name → Reader Hello
after_name l t n = address >>= λ a. done (of_parts l t n a)

abbrev pub after_addressee : Name → Name → Reader Hello
after_addressee l t = name BadName >>= after_name l t

abbrev pub after_label : Name → Reader Hello
after_label l = name BadAddressee >>= after_addressee l

abbrev pub after_version : Unit {0} → Reader Hello
after_version u = name BadLabel >>= after_label

abbrev pub after_start : Unit {0} → Reader Hello
after_start u = version >>= after_version

-- the text after the addressee, the label, the version and the start
abbrev addressee_then : Hello → List ℕ
addressee_then h = name_text h.name ++ address_text h.at

abbrev label_then : Hello → List ℕ
label_then h = name_text h.to ++ addressee_then h

abbrev version_then : Hello → List ℕ
version_then h = name_text h.label ++ label_then h

-- two texts, and then more
then_more : (bytes a b c rest : List ℕ) → bytes ≡ a ++ b → b ≡ c ++ rest → bytes ≡ (a ++ c) ++ rest
then_more bytes a b c rest p q = p ∙ ap (λ t. a ++ t) q ∙ sym (append_assoc a c rest)

-- the texts of all parts, one after the other
all_parts : (x : Hello) (bytes s v l t n a rest : List ℕ) →
    bytes ≡ plum ++ s →
    s ≡ (2 ∷ []) ++ v →
    v ≡ name_text x.label ++ l →
    l ≡ name_text x.to ++ t →
    t ≡ name_text x.name ++ n →
    n ≡ address_text x.at ++ a →
    a ≡ rest →
    bytes ≡ text x ++ rest
all_parts x bytes s v l t n a rest p q r o m u w =
    let at : n ≡ address_text x.at ++ rest = u ∙ ap (λ z. address_text x.at ++ z) w in
    let names : t ≡ addressee_then x ++ rest = then_more t (name_text x.name) n (address_text x.at) rest m at in
    let addressees : l ≡ label_then x ++ rest = then_more l (name_text x.to) t (addressee_then x) rest o names in
    let labels : v ≡ version_then x ++ rest = then_more v (name_text x.label) l (label_then x) rest r addressees in
    let versions : s ≡ ((2 ∷ []) ++ version_then x) ++ rest = then_more s (2 ∷ []) v (version_then x) rest q labels in
    then_more bytes plum s ((2 ∷ []) ++ version_then x) rest p versions

-- the same of an equal Hello
of_equal : (x h : Hello) (bytes rest : List ℕ) → x ≡ h → bytes ≡ text x ++ rest → IsHello x → (bytes ≡ text h ++ rest) × IsHello h
of_equal x h bytes rest e parts holds = subst (λ y. (bytes ≡ text y ++ rest) × IsHello y) e (parts, holds)

pub hello_takes : (bytes : List ℕ) (h : Hello) (rest : List ℕ) → IsBytes bytes → hello bytes ≡ Ok (h, rest) → (bytes ≡ text h ++ rest) × IsHello h
unfolding hello
hello_takes bytes h rest small e =
    let s = takes_first start_agrees after_start bytes h rest small e in
    let v = takes_first version_agrees after_version s.after h rest s.bytes_after s.then' in
    let l = takes_first (name_agrees BadLabel) after_label v.after h rest v.bytes_after v.then' in
    let t = takes_first (name_agrees BadAddressee) (after_addressee l.value) l.after h rest l.bytes_after l.then' in
    let n = takes_first (name_agrees BadName) (after_name l.value t.value) t.after h rest t.bytes_after t.then' in
    let a = takes_first address_agrees (λ a. done (of_parts l.value t.value n.value a)) n.after h rest n.bytes_after n.then' in
    let d = done_is (of_parts l.value t.value n.value a.value) h a.after rest a.then' in
    let x = of_parts l.value t.value n.value a.value in
    let whole =
    all_parts x bytes s.after v.after l.after t.after n.after a.after rest s.parts v.parts l.parts t.parts n.parts a.parts d.1 in
    let holds : IsHello x = record { label = l.fits; to = t.fits; name = n.fits; at = a.fits } in
    of_equal x h bytes rest d.0 whole holds

pub hello_again : (h : Hello) (rest : List ℕ) → IsHello h → hello (text h ++ rest) ≡ Ok (h, rest)
unfolding hello
hello_again h rest i =
    again_next start_agrees after_start tt ((2 ∷ []) ++ version_then h) rest tt
    ∙ again_next version_agrees after_version tt (version_then h) rest tt
    ∙ again_next (name_agrees BadLabel) after_label h.label (label_then h) rest i.label
    ∙ again_next (name_agrees BadAddressee) (after_addressee h.label) h.to (addressee_then h) rest i.to
    ∙ again_next (name_agrees BadName) (after_name h.label h.to) h.name (address_text h.at) rest i.name
    ∙ again_first address_agrees (λ a. done (of_parts h.label h.to h.name a)) h.at rest i.at

pub hello_cut : (h : Hello) (front more : List ℕ) → IsHello h → text h ≡ front ++ more → 0 < length more → hello front ≡ Err Short
unfolding hello
hello_cut h front more i e some =
    cut_first start_agrees after_start tt ((2 ∷ []) ++ version_then h) front more tt e some
    (λ a p. cut_first version_agrees after_version tt (version_then h) a more tt p some
    (λ b q. cut_first (name_agrees BadLabel) after_label h.label (label_then h) b more i.label q some
    (λ c r. cut_first (name_agrees BadAddressee) (after_addressee h.label) h.to (addressee_then h) c more i.to r some
    (λ d s. cut_first (name_agrees BadName) (after_name h.label h.to) h.name (address_text h.at) d more i.name s some
    (λ g t. cut_only address_agrees (λ a. done (of_parts h.label h.to h.name a)) h.at g more i.at t some)))))

-- ---- with the length

-- what was read is no longer than the bytes
pub rest_fits : (bytes : List ℕ) (h : Hello) (rest : List ℕ) → IsBytes bytes → hello bytes ≡ Ok (h, rest) → length rest ≤ length bytes
rest_fits bytes h rest small e =
    let l = ap length (hello_takes bytes h rest small e).0 in
    omega (arith, l, length-append (text h) rest)

-- what the bytes begin with
abbrev pub Begins : List ℕ → Hello × ℕ → Type 0
Begins bytes x = (take x.1 bytes ≡ text x.0) × (x.1 ≡ length (text x.0)) × IsHello x.0

begins : (bytes : List ℕ) (h : Hello) (rest : List ℕ) → IsBytes bytes → hello bytes ≡ Ok (h, rest) → Begins bytes (h, length bytes - length rest)
begins bytes h rest small e =
    let t = hello_takes bytes h rest small e in
    let n : length bytes - length rest ≡ length (text h) = omega (arith, ap length t.0, length-append (text h) rest) in
    (ap (take (length bytes - length rest)) t.0 ∙ take_at (text h) rest (length bytes - length rest) (sym n), n, t.1)

-- by what reading gave
read_begins : (bytes : List ℕ) (r : Result (Hello × List ℕ) HelloError) → IsBytes bytes → hello bytes ≡ r → IfOk (with_length (length bytes) r) (Begins bytes)
read_begins bytes (Ok x) small e = begins bytes x.0 x.1 small e
read_begins bytes (Err error) small e = tt

pub decoded_ok : (bytes : List ℕ) (result : Result (Hello × ℕ) HelloError) → IsBytes bytes → result ≡ read bytes → IfOk result (Begins bytes)
unfolding read
decoded_ok bytes result small e = subst (λ r. IfOk r (Begins bytes)) (sym e) (read_begins bytes (hello bytes) small refl)

pub decoded_whole : (bytes : List ℕ) (result : Result (Hello × ℕ) HelloError) →
    result ≡ read bytes →
    (h : Hello) (rest : List ℕ) →
    IsHello h →
    bytes ≡ text h ++ rest →
    result ≡ Ok (h, length (text h))
unfolding read
decoded_whole bytes result e h rest i is =
    let n : length bytes - length rest ≡ length (text h) = omega (arith, ap length is, length-append (text h) rest) in
    e ∙ ap (with_length (length bytes)) (ap hello is ∙ hello_again h rest i) ∙ ap (λ k. Ok (h, k)) n

pub decoded_short : (bytes : List ℕ) (result : Result (Hello × ℕ) HelloError) →
    result ≡ read bytes →
    (h : Hello) (more : List ℕ) →
    IsHello h →
    text h ≡ bytes ++ more →
    0 < length more →
    result ≡ Err Short
unfolding read
decoded_short bytes result e h more i is some = e ∙ ap (with_length (length bytes)) (hello_cut h bytes more i is some)
