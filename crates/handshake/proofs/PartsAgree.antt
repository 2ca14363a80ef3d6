-- Each part is read as it is written.
use Rattle.std.proofs.Common.{◌≡◌, ℕ, ◌^◌, ◌<◌, Bool, true, false, List, [], ◌∷◌, ◌++◌, length, Ok, Err, refl, sym, ap, subst, ◌∙◌, append_assoc, arith}
use Rattle.std.specs.Prelude.{nat_le, nat_eq, ◌&&◌, ◌==◌, if◌then◌else◌}
use Rattle.std.specs.Int.{w16, from_be_bytes, to_be_bytes}
use Rattle.std.specs.List.{list_all}
use Rattle.std.specs.Cmp.Lexicographic.{pointwise, bytes_decides}
use Rattle.std.proofs.lemmas.Bool.Decides.{Decides-eqb}
use Rattle.std.proofs.lemmas.List.{length-append}
use Rattle.std.proofs.lemmas.Nat.{be_bytes_2, from_be_bytes-to_be_bytes_2}
use Rattle.node_names.specs.NodeName.{Name, IsNodeName, is_name_byte}
use Rattle.handshake.specs.declared.address.Address.{Address}
use Rattle.handshake.specs.declared.address.Address.TheVariants.{V4, V6}
use Rattle.handshake.specs.declared.error.HelloError.{HelloError}
use Rattle.handshake.specs.declared.error.HelloError.TheVariants.{Short, NotPlumtree, OtherVersion, BadAddress}
use Rattle.handshake.specs.Text.{plum, name_text, address_text, IsAddress}
use Rattle.handshake.specs.Reading.{◌>>=◌, Reader, done, judge, octets, byte, start, version, name, port, v4, v6, address, address_of}
use Rattle.handshake.proofs.Agree.{IsBytes, IsBytes-before, Agrees, bind_ok, takes_first, again_first, again_next}
use Rattle.handshake.proofs.Agree.{cut_first, cut_only, done_is, judged, judged_last, octets_agrees, octets_takes}
use Rattle.handshake.proofs.NameReading.{letters_pass, name_from_pass, len_passes, len_bounds}

-- ---- bytes

byte_takes : (bytes : List ℕ) (n : ℕ) (rest : List ℕ) → IsBytes bytes → byte bytes ≡ Ok (n, rest) → (bytes ≡ (n ∷ []) ++ rest) × Unit {0}
unfolding byte
byte_takes [] n rest h e = absurd cc
byte_takes (b ∷ bytes) n rest h e =
    let d = done_is b n bytes rest e in
    (rw (d.0, d.1) refl, tt)

byte_again : (n : ℕ) (rest : List ℕ) → Unit {0} → byte ((n ∷ []) ++ rest) ≡ Ok (n, rest)
unfolding byte
byte_again n rest h = refl

byte_cut : (n : ℕ) (front more : List ℕ) → Unit {0} → n ∷ [] ≡ front ++ more → 0 < length more → byte front ≡ Err Short
unfolding byte
byte_cut n [] more h e some = refl
byte_cut n (b ∷ front) more h e some =
    let l : 1 ≡ length ((b ∷ front) ++ more) = ap length e in
    absurd (omega (arith, l, length-append (b ∷ front) more))

pub byte_agrees : Agrees byte (λ n. n ∷ []) (λ n. Unit {0})
byte_agrees = record { takes = byte_takes; again = byte_again; cut = byte_cut }

-- ---- the start and the version

-- the test of the start
abbrev pub is_plum : List ℕ → Bool
is_plum front = pointwise nat_eq front plum

start_takes : (bytes : List ℕ) (u : Unit {0}) (rest : List ℕ) → IsBytes bytes → start bytes ≡ Ok (u, rest) → (bytes ≡ plum ++ rest) × Unit {0}
unfolding start
start_takes bytes u rest h e =
    let b = bind_ok (octets 4 bytes) (λ front. judge (is_plum front) NotPlumtree) (u, rest) e in
    let t = octets_takes 4 bytes b.0.0 b.0.1 b.1 in
    let j = judged_last (is_plum b.0.0) NotPlumtree b.0.1 rest b.2 in
    let front-is : b.0.0 ≡ plum = (bytes_decides b.0.0 plum).0 j.0 in
    (t.0 ∙ ap (λ t. t ++ b.0.1) front-is ∙ ap (λ t. plum ++ t) j.1, tt)

start_again : (u : Unit {0}) (rest : List ℕ) → Unit {0} → start (plum ++ rest) ≡ Ok (u, rest)
unfolding start
start_again u rest h = again_first (octets_agrees 4) (λ front. judge (is_plum front) NotPlumtree) plum rest refl

start_cut : (u : Unit {0}) (front more : List ℕ) → Unit {0} → plum ≡ front ++ more → 0 < length more → start front ≡ Err Short
unfolding start
start_cut u front more h e some = cut_only (octets_agrees 4) (λ front. judge (is_plum front) NotPlumtree) plum front more refl e some

pub start_agrees : Agrees start (λ u. plum) (λ u. Unit {0})
start_agrees = record { takes = start_takes; again = start_again; cut = start_cut }

version_takes : (bytes : List ℕ) (u : Unit {0}) (rest : List ℕ) → IsBytes bytes → version bytes ≡ Ok (u, rest) → (bytes ≡ (2 ∷ []) ++ rest) × Unit {0}
unfolding version
version_takes bytes u rest h e =
    let a = takes_first byte_agrees (λ v. judge (v == 2) (OtherVersion v)) bytes u rest h e in
    let j = judged_last (a.value == 2) (OtherVersion a.value) a.after rest a.then' in
    let is : a.value ≡ 2 = (Decides-eqb a.value 2).0 j.0 in
    (a.parts ∙ ap (λ n. n ∷ a.after) is ∙ ap (λ t. 2 ∷ t) j.1, tt)

version_again : (u : Unit {0}) (rest : List ℕ) → Unit {0} → version ((2 ∷ []) ++ rest) ≡ Ok (u, rest)
unfolding version
version_again u rest h = again_first byte_agrees (λ v. judge (v == 2) (OtherVersion v)) 2 rest tt

version_cut : (u : Unit {0}) (front more : List ℕ) → Unit {0} → 2 ∷ [] ≡ front ++ more → 0 < length more → version front ≡ Err Short
unfolding version
version_cut u front more h e some = cut_only byte_agrees (λ v. judge (v == 2) (OtherVersion v)) 2 front more tt e some

pub version_agrees : Agrees version (λ u. 2 ∷ []) (λ u. Unit {0})
version_agrees = record { takes = version_takes; again = version_again; cut = version_cut }

-- ---- names

-- the test of a length
abbrev pub fits_len : ℕ → Bool
fits_len len = nat_le 1 len && nat_le len 32

-- what follows the bytes of a name
abbrev pub after_letters : HelloError → Name → Reader Name
after_letters bad letters = judge (list_all is_name_byte letters) bad >>= λ _. done letters

-- what follows the length of a name
abbrev pub after_len : HelloError → ℕ → Reader Name
after_len bad len = judge (fits_len len) bad >>= λ _. octets len >>= after_letters bad

name_parts : (bytes after letters after' n rest : List ℕ) (len : ℕ) →
    bytes ≡ (len ∷ []) ++ after →
    after ≡ letters ++ after' →
    length letters ≡ len →
    letters ≡ n →
    after' ≡ rest
    → fits_len len ≡ true → list_all is_name_byte letters ≡ true → (bytes ≡ name_text n ++ rest) × IsNodeName n
name_parts bytes after letters after' n rest len p q l is is' j k =
    let front : len ≡ length n = sym l ∙ ap length is in
    let tail : after ≡ n ++ rest = q ∙ ap (λ t. t ++ after') is ∙ ap (λ t. n ++ t) is' in
    let bounds = len_bounds len j in
    (p ∙ ap (λ t. len ∷ t) tail ∙ ap (λ m. m ∷ (n ++ rest)) front, subst IsNodeName is (name_from_pass letters (omega arith) (omega arith) k))

name_takes : (bad : HelloError) (bytes n rest : List ℕ) → IsBytes bytes → name bad bytes ≡ Ok (n, rest) → (bytes ≡ name_text n ++ rest) × IsNodeName n
unfolding name
name_takes bad bytes n rest h e =
    let a = takes_first byte_agrees (after_len bad) bytes n rest h e in
    let j = judged (fits_len a.value) bad (λ _. octets a.value >>= after_letters bad) a.after (n, rest) a.then' in
    let b = bind_ok (octets a.value a.after) (after_letters bad) (n, rest) j.1 in
    let k = judged (list_all is_name_byte b.0.0) bad (λ _. done b.0.0) b.0.1 (n, rest) b.2 in
    let d = done_is b.0.0 n b.0.1 rest k.1 in
    let t = octets_takes a.value a.after b.0.0 b.0.1 b.1 in
    name_parts bytes a.after b.0.0 b.0.1 n rest a.value a.parts t.0 t.1 d.0 d.1 j.0 k.0

-- what follows the length of a name, read again
after_len_again : (bad : HelloError) (n rest : List ℕ) → IsNodeName n → after_len bad (length n) (n ++ rest) ≡ Ok (n, rest)
after_len_again bad n rest h =
    let fits = len_passes (length n) (omega (arith, h.not_empty)) h.short in
    let letters : after_letters bad n rest ≡ Ok (n, rest) = rw (letters_pass n h) refl in
    rw fits (again_first (octets_agrees (length n)) (after_letters bad) n rest refl ∙ letters)

name_again : (bad : HelloError) (n rest : List ℕ) → IsNodeName n → name bad (name_text n ++ rest) ≡ Ok (n, rest)
unfolding name
name_again bad n rest h = again_first byte_agrees (after_len bad) (length n) (n ++ rest) tt ∙ after_len_again bad n rest h

after_len_cut : (bad : HelloError) (n front more : List ℕ) → IsNodeName n → n ≡ front ++ more → 0 < length more → after_len bad (length n) front ≡ Err Short
after_len_cut bad n front more h e some =
    let fits = len_passes (length n) (omega (arith, h.not_empty)) h.short in
    rw fits (cut_only (octets_agrees (length n)) (after_letters bad) n front more refl e some)

name_cut : (bad : HelloError) (n front more : List ℕ) → IsNodeName n → name_text n ≡ front ++ more → 0 < length more → name bad front ≡ Err Short
unfolding name
name_cut bad n front more h e some =
    cut_first byte_agrees (after_len bad) (length n) n front more tt e some (λ rest is. after_len_cut bad n rest more h is some)

pub name_agrees : (bad : HelloError) → Agrees (name bad) name_text IsNodeName
name_agrees bad = record { takes = name_takes bad; again = name_again bad; cut = name_cut bad }

-- ---- ports and addresses

port_takes : (bytes : List ℕ) (n : ℕ) (rest : List ℕ) → IsBytes bytes → port bytes ≡ Ok (n, rest) → (bytes ≡ to_be_bytes w16 n ++ rest) × (n < 2 ^ 16)
unfolding port
port_takes bytes n rest h e =
    let a = takes_first (octets_agrees 2) (λ bs. done (from_be_bytes w16 bs)) bytes n rest h e in
    let d = done_is (from_be_bytes w16 a.value) n a.after rest a.then' in
    let small = IsBytes-before a.value a.after bytes a.parts h in
    let back : a.value ≡ to_be_bytes w16 n = sym (be_bytes_2 a.value n a.fits small (sym d.0)) in
    let below : from_be_bytes w16 a.value < 2 ^ 16 = omega (arith, small 0, small 1) in
    (a.parts ∙ ap (λ t. t ++ a.after) back ∙ ap (λ t. to_be_bytes w16 n ++ t) d.1, subst (λ k. k < 2 ^ 16) d.0 below)

port_again : (n : ℕ) (rest : List ℕ) → n < 2 ^ 16 → port (to_be_bytes w16 n ++ rest) ≡ Ok (n, rest)
unfolding port
port_again n rest lt =
    again_first (octets_agrees 2) (λ bs. done (from_be_bytes w16 bs)) (to_be_bytes w16 n) rest refl ∙ ap (λ k. Ok (k, rest)) (from_be_bytes-to_be_bytes_2 n lt)

port_cut : (n : ℕ) (front more : List ℕ) → n < 2 ^ 16 → to_be_bytes w16 n ≡ front ++ more → 0 < length more → port front ≡ Err Short
unfolding port
port_cut n front more lt e some = cut_only (octets_agrees 2) (λ bs. done (from_be_bytes w16 bs)) (to_be_bytes w16 n) front more refl e some

pub port_agrees : Agrees port (to_be_bytes w16) (λ n. n < 2 ^ 16)
port_agrees = record { takes = port_takes; again = port_again; cut = port_cut }

-- octets and a port, as one value
abbrev pub octets_port : ℕ → (List ℕ → ℕ → Address) → Reader Address
octets_port n mk = octets n >>= λ o. port >>= λ p. done (mk o p)

-- octets and a port that were read
record Taken (n : ℕ) (mk : List ℕ → ℕ → Address) (bytes : List ℕ) (x : Address) (rest : List ℕ) : Type 0 where
  octets : List ℕ
  port : ℕ
  is : mk octets port ≡ x
  parts : bytes ≡ (octets ++ to_be_bytes w16 port) ++ rest
  len : length octets ≡ n
  fits : port < 2 ^ 16

octets_port_takes : (n : ℕ) (mk : List ℕ → ℕ → Address) (bytes : List ℕ) (x : Address) (rest : List ℕ) →
    IsBytes bytes →
    octets_port n mk bytes ≡ Ok (x, rest) →
    Taken n mk bytes x rest
octets_port_takes n mk bytes x rest h e =
    let a = takes_first (octets_agrees n) (λ o. port >>= λ p. done (mk o p)) bytes x rest h e in
    let b = takes_first port_agrees (λ p. done (mk a.value p)) a.after x rest a.bytes_after a.then' in
    let d = done_is (mk a.value b.value) x b.after rest b.then' in
    record {
      octets = a.value;
      port = b.value;
      is = d.0;
      parts =
          a.parts ∙ ap (λ t. a.value ++ t) (b.parts ∙ ap (λ t. to_be_bytes w16 b.value ++ t) d.1) ∙ sym (append_assoc a.value (to_be_bytes w16 b.value) rest);
      len = a.fits;
      fits = b.fits;
    }

octets_port_again : (n : ℕ) (mk : List ℕ → ℕ → Address) (o : List ℕ) (p : ℕ) (rest : List ℕ) →
    length o ≡ n →
    p < 2 ^ 16 →
    octets_port n mk ((o ++ to_be_bytes w16 p) ++ rest) ≡ Ok (mk o p, rest)
octets_port_again n mk o p rest l lt =
    again_next (octets_agrees n) (λ o. port >>= λ p. done (mk o p)) o (to_be_bytes w16 p) rest l ∙ again_first port_agrees (λ p. done (mk o p)) p rest lt

octets_port_cut : (n : ℕ) (mk : List ℕ → ℕ → Address) (o : List ℕ) (p : ℕ) (front more : List ℕ) →
    length o ≡ n →
    p < 2 ^ 16 →
    o ++ to_be_bytes w16 p ≡ front ++ more →
    0 < length more →
    octets_port n mk front ≡ Err Short
octets_port_cut n mk o p front more l lt e some =
    cut_first (octets_agrees n) (λ o. port >>= λ p. done (mk o p)) o (to_be_bytes w16 p) front more l e some
    (λ rest is. cut_only port_agrees (λ p. done (mk o p)) p rest more lt is some)

abbrev pub mk4 : List ℕ → ℕ → Address
mk4 o p = V4 o p

abbrev pub mk6 : List ℕ → ℕ → Address
mk6 o p = V6 o p

-- an address by the tests of its kind
abbrev pub chosen : Bool → Bool → ℕ → Reader Address
chosen four six kind bytes = if four then v4 bytes else if six then v6 bytes else Err (BadAddress kind)

chosen_takes : (four six : Bool) (kind : ℕ) (bytes : List ℕ) (x : Address) (rest : List ℕ) →
    (four ≡ true → kind ≡ 4) →
    (six ≡ true → kind ≡ 6) →
    IsBytes bytes →
    chosen four six kind bytes ≡ Ok (x, rest)
    → (kind ∷ bytes ≡ address_text x ++ rest) × IsAddress x
unfolding v4 v6
chosen_takes true six kind bytes x rest is-four is-six h e =
    let t = octets_port_takes 4 mk4 bytes x rest h e in
    let parts : kind ∷ bytes ≡ address_text (mk4 t.octets t.port) ++ rest = ap (λ k. k ∷ bytes) (is-four refl) ∙ ap (λ r. 4 ∷ r) t.parts in
    subst (λ y. (kind ∷ bytes ≡ address_text y ++ rest) × IsAddress y) t.is (parts, (t.len, t.fits))
chosen_takes false true kind bytes x rest is-four is-six h e =
    let t = octets_port_takes 16 mk6 bytes x rest h e in
    let parts : kind ∷ bytes ≡ address_text (mk6 t.octets t.port) ++ rest = ap (λ k. k ∷ bytes) (is-six refl) ∙ ap (λ r. 6 ∷ r) t.parts in
    subst (λ y. (kind ∷ bytes ≡ address_text y ++ rest) × IsAddress y) t.is (parts, (t.len, t.fits))
chosen_takes false false kind bytes x rest is-four is-six h e = absurd cc

address_takes : (bytes : List ℕ) (x : Address) (rest : List ℕ) → IsBytes bytes → address bytes ≡ Ok (x, rest) → (bytes ≡ address_text x ++ rest) × IsAddress x
unfolding address
address_takes bytes x rest h e =
    let a = takes_first byte_agrees address_of bytes x rest h e in
    let k = chosen_takes (a.value == 4) (a.value == 6) a.value a.after x rest (Decides-eqb a.value 4).0 (Decides-eqb a.value 6).0 a.bytes_after a.then' in
    (a.parts ∙ k.0, k.1)

address_again : (x : Address) (rest : List ℕ) → IsAddress x → address (address_text x ++ rest) ≡ Ok (x, rest)
unfolding address v4 v6
address_again (V4 o p) rest h = again_first byte_agrees address_of 4 ((o ++ to_be_bytes w16 p) ++ rest) tt ∙ octets_port_again 4 mk4 o p rest h.0 h.1
address_again (V6 o p) rest h = again_first byte_agrees address_of 6 ((o ++ to_be_bytes w16 p) ++ rest) tt ∙ octets_port_again 16 mk6 o p rest h.0 h.1

address_cut : (x : Address) (front more : List ℕ) → IsAddress x → address_text x ≡ front ++ more → 0 < length more → address front ≡ Err Short
unfolding address v4 v6
address_cut (V4 o p) front more h e some =
    cut_first byte_agrees address_of 4 (o ++ to_be_bytes w16 p) front more tt e some (λ rest is. octets_port_cut 4 mk4 o p rest more h.0 h.1 is some)
address_cut (V6 o p) front more h e some =
    cut_first byte_agrees address_of 6 (o ++ to_be_bytes w16 p) front more tt e some (λ rest is. octets_port_cut 16 mk6 o p rest more h.0 h.1 is some)

pub address_agrees : Agrees address address_text IsAddress
address_agrees = record { takes = address_takes; again = address_again; cut = address_cut }
