-- Each field is read as it is spelled.
use Rattle.std.proofs.Common.{◌≡◌, ℕ, zero, suc, ◌^◌, ◌<◌, Bool, true, false, List, [], ◌∷◌, ◌++◌, length, Ok, refl, sym, ap, subst, ◌∙◌, arith}
use Rattle.std.specs.Prelude.{nat_lt, nat_le, ◌&&◌, ◌==◌, if◌then◌else◌}
use Rattle.std.specs.Int.{Width, w16, w32, w64, byte_len, from_be_bytes, to_be_bytes}
use Rattle.std.specs.List.{list_all}
use Rattle.std.proofs.lemmas.Bool.Decides.{nat_tests}
use Rattle.std.proofs.lemmas.Nat.{be_bytes_2, be_bytes_4, be_bytes_8, from_be_bytes-to_be_bytes_2, from_be_bytes-to_be_bytes_4, from_be_bytes-to_be_bytes_8}
use Rattle.node_names.specs.NodeName.{Name, IsNodeName, is_name_byte}
use Rattle.node_names.specs.declared.ids.Origin.{Origin}
use Rattle.node_names.specs.declared.ids.MsgId.{MsgId}
use Rattle.frames.specs.declared.fault.FrameFault.TheVariants.{BadField, BadName}
use Rattle.frames.specs.Field.{name_octets, origin_octets, id_octets, announcement_octets, IsNumber, IsOrigin, IsId, IsAnnouncement}
use Rattle.frames.specs.Reading.{◌>>=◌, done, judge, octets, word, byte, flag, name, number, origin, id, announcement}
use Rattle.frames.proofs.Agree.{IsBytes, IsBytes-before, Agrees, bind_ok, takes_first, again_first, parts_done}
use Rattle.frames.proofs.Agree.{done_is, both_take, both_again, judged, octets_takes, octets_again}
use Rattle.frames.proofs.NameReading.{letters_pass, name_from_pass, len_passes, len_bounds}

-- ---- numbers

-- a width, as numbers below a limit are spelled in it
record IsWide (w : Width) (limit : ℕ) : Type 0 where
  len : (n : ℕ) → length (to_be_bytes w n) ≡ byte_len w
  back : (bytes : List ℕ) → length bytes ≡ byte_len w → IsBytes bytes → to_be_bytes w (from_be_bytes w bytes) ≡ bytes
  again : (n : ℕ) → n < limit → from_be_bytes w (to_be_bytes w n) ≡ n
  below : (bytes : List ℕ) → IsBytes bytes → from_be_bytes w bytes < limit

wide16 : IsWide w16 (2 ^ 16)
wide16 = record {
  len = λ n. refl;
  back = λ bytes len fits. be_bytes_2 bytes _ len fits refl;
  again = λ n lt. from_be_bytes-to_be_bytes_2 n lt;
  below = λ bytes fits. omega (arith, fits 0, fits 1);
}

wide32 : IsWide w32 (2 ^ 32)
wide32 = record {
  len = λ n. refl;
  back = λ bytes len fits. be_bytes_4 bytes _ len fits refl;
  again = λ n lt. from_be_bytes-to_be_bytes_4 n lt;
  below = λ bytes fits. omega (arith, fits 0, fits 1, fits 2, fits 3);
}

wide64 : IsWide w64 (2 ^ 64)
wide64 = record {
  len = λ n. refl;
  back = λ bytes len fits. be_bytes_8 bytes _ len fits refl;
  again = λ n lt. from_be_bytes-to_be_bytes_8 n lt;
  below = λ bytes fits. omega (arith, fits 0, fits 1, fits 2, fits 3, fits 4, fits 5, fits 6, fits 7);
}

word_parts : (w : Width) (limit : ℕ) →
    IsWide w limit →
    (bytes front after rest : List ℕ) (n : ℕ) →
    IsBytes bytes →
    bytes ≡ front ++ after →
    length front ≡ byte_len w →
    from_be_bytes w front ≡ n →
    after ≡ rest →
    (bytes ≡ to_be_bytes w n ++ rest) × (n < limit)
word_parts w limit wide bytes front after rest n h p l is is' =
    let small = IsBytes-before front after bytes p h in
    let back : front ≡ to_be_bytes w n = sym (wide.back front l small) ∙ ap (to_be_bytes w) is in
    (p ∙ ap (λ t. t ++ after) back ∙ ap (λ t. to_be_bytes w n ++ t) is', subst (λ k. k < limit) is (wide.below front small))

word_takes : (w : Width) (limit : ℕ) →
    IsWide w limit →
    (bytes : List ℕ) (n : ℕ) (rest : List ℕ) →
    IsBytes bytes →
    word w bytes ≡ Ok (n, rest) →
    (bytes ≡ to_be_bytes w n ++ rest) × (n < limit)
unfolding word
word_takes w limit wide bytes n rest h e =
    let b = bind_ok (octets (byte_len w) bytes) (λ bs. done (from_be_bytes w bs)) (n, rest) e in
    let t = octets_takes (byte_len w) bytes b.0.0 b.0.1 b.1 in
    let d = done_is (from_be_bytes w b.0.0) n b.0.1 rest b.2 in
    word_parts w limit wide bytes b.0.0 b.0.1 rest n h t.0 t.1 d.0 d.1

word_again : (w : Width) (limit : ℕ) → IsWide w limit → (n : ℕ) (rest : List ℕ) → n < limit → word w (to_be_bytes w n ++ rest) ≡ Ok (n, rest)
unfolding word
word_again w limit wide n rest lt =
    let front : octets (byte_len w) (to_be_bytes w n ++ rest) ≡ Ok (to_be_bytes w n, rest) =
    subst (λ k. octets k (to_be_bytes w n ++ rest) ≡ Ok (to_be_bytes w n, rest)) (wide.len n) (octets_again (to_be_bytes w n) rest) in
    rw (front, wide.again n lt) refl

word_agrees : (w : Width) (limit : ℕ) → IsWide w limit → Agrees (word w) (to_be_bytes w) (λ n. n < limit)
word_agrees w limit wide = record { takes = word_takes w limit wide; again = word_again w limit wide }

pub word16_agrees : Agrees (word w16) (to_be_bytes w16) (λ n. n < 2 ^ 16)
word16_agrees = word_agrees w16 (2 ^ 16) wide16

pub word32_agrees : Agrees (word w32) (to_be_bytes w32) (λ n. n < 2 ^ 32)
word32_agrees = word_agrees w32 (2 ^ 32) wide32

pub word64_agrees : Agrees (word w64) (to_be_bytes w64) (λ n. n < 2 ^ 64)
word64_agrees = word_agrees w64 (2 ^ 64) wide64

-- ---- bytes and flags

IsBytes-head : (b : ℕ) (bytes : List ℕ) → IsBytes (b ∷ bytes) → b < 256
IsBytes-head b bytes h = h 0

byte_takes : (bytes : List ℕ) (n : ℕ) (rest : List ℕ) → IsBytes bytes → byte bytes ≡ Ok (n, rest) → (bytes ≡ (n ∷ []) ++ rest) × (n < 256)
unfolding byte
byte_takes [] n rest h e = absurd cc
byte_takes (b ∷ bytes) n rest h e =
    let d = done_is b n bytes rest e in
    (rw (d.0, d.1) refl, rw (← d.0) (IsBytes-head b bytes h))

byte_again : (n : ℕ) (rest : List ℕ) → n < 256 → byte ((n ∷ []) ++ rest) ≡ Ok (n, rest)
unfolding byte
byte_again n rest h = refl

pub byte_agrees : Agrees byte (λ n. n ∷ []) (λ n. n < 256)
byte_agrees = record { takes = byte_takes; again = byte_again }

-- the byte of a flag
abbrev flag_byte : Bool → ℕ
flag_byte b = if b then 1 else 0

flag_byte-is : (n : ℕ) → nat_le n 1 ≡ true → flag_byte (n == 1) ≡ n
flag_byte-is zero h = refl
flag_byte-is (suc zero) h = refl
flag_byte-is (suc (suc n)) h = absurd (grind (arith, nat_tests))

flag_takes : (bytes : List ℕ) (b : Bool) (rest : List ℕ) → IsBytes bytes → flag bytes ≡ Ok (b, rest) → (bytes ≡ (flag_byte b ∷ []) ++ rest) × Unit {0}
unfolding flag
flag_takes bytes b rest h e =
    let a = takes_first byte_agrees (λ v. judge (nat_le v 1) BadField >>= λ _. done (v == 1)) bytes b rest h e in
    let j = judged (nat_le a.value 1) BadField (λ _. done (a.value == 1)) a.after (b, rest) a.then' in
    let d = done_is (a.value == 1) b a.after rest j.1 in
    let b-is : flag_byte b ≡ a.value = ap flag_byte (sym d.0) ∙ flag_byte-is a.value j.0 in
    (parts_done bytes (flag_byte b ∷ []) a.after rest (a.parts ∙ ap (λ n. (n ∷ []) ++ a.after) (sym b-is)) d.1, tt)

flag_again : (b : Bool) (rest : List ℕ) → Unit {0} → flag ((flag_byte b ∷ []) ++ rest) ≡ Ok (b, rest)
unfolding flag byte
flag_again true rest h = refl
flag_again false rest h = refl

pub flag_agrees : Agrees flag (λ b. flag_byte b ∷ []) (λ _. Unit {0})
flag_agrees = record { takes = flag_takes; again = flag_again }

-- ---- names, numbers, origins and ids

name_parts : (bytes after letters after' n rest : List ℕ) (len : ℕ) →
    bytes ≡ (len ∷ []) ++ after →
    after ≡ letters ++ after' →
    length letters ≡ len →
    letters ≡ n →
    after' ≡ rest
    → (nat_le 1 len && nat_le len 32) ≡ true → list_all is_name_byte letters ≡ true → (bytes ≡ name_octets n ++ rest) × IsNodeName n
name_parts bytes after letters after' n rest len p q l is is' j k =
    let front : len ≡ length n = sym l ∙ ap length is in
    let tail : after ≡ n ++ rest = q ∙ ap (λ t. t ++ after') is ∙ ap (λ t. n ++ t) is' in
    let bounds = len_bounds len j in
    (p ∙ ap (λ t. len ∷ t) tail ∙ ap (λ m. m ∷ (n ++ rest)) front, subst IsNodeName is (name_from_pass letters (omega arith) (omega arith) k))

name_takes : (bytes n rest : List ℕ) → IsBytes bytes → name bytes ≡ Ok (n, rest) → (bytes ≡ name_octets n ++ rest) × IsNodeName n
unfolding name
name_takes bytes n rest h e =
    let f =
    λ (len : ℕ). judge (nat_le 1 len && nat_le len 32) BadName >>= λ _. octets len >>= λ (letters : List ℕ).
    judge (list_all is_name_byte letters) BadName >>= λ _. done letters in
    let a = takes_first byte_agrees f bytes n rest h e in
    let j =
    judged (nat_le 1 a.value && nat_le a.value 32) BadName
    (λ _. octets a.value >>= λ (letters : List ℕ). judge (list_all is_name_byte letters) BadName >>= λ _. done letters) a.after (n, rest) a.then' in
    let b = bind_ok (octets a.value a.after) (λ letters. judge (list_all is_name_byte letters) BadName >>= λ _. done letters) (n, rest) j.1 in
    let k = judged (list_all is_name_byte b.0.0) BadName (λ _. done b.0.0) b.0.1 (n, rest) b.2 in
    let d = done_is b.0.0 n b.0.1 rest k.1 in
    let t = octets_takes a.value a.after b.0.0 b.0.1 b.1 in
    name_parts bytes a.after b.0.0 b.0.1 n rest a.value a.parts t.0 t.1 d.0 d.1 j.0 k.0

name_again : (n rest : List ℕ) → IsNodeName n → name (name_octets n ++ rest) ≡ Ok (n, rest)
unfolding name byte
name_again n rest h = rw (len_passes (length n) (omega (arith, h.not_empty)) h.short, octets_again n rest, letters_pass n h) refl

pub name_agrees : Agrees name name_octets IsNodeName
name_agrees = record { takes = name_takes; again = name_again }

abbrev positive : ℕ → Bool
positive n = nat_lt 0 n

is_positive : (n : ℕ) → positive n ≡ true → 0 < n
is_positive n h = grind (arith, nat_tests)

positive_is : (n : ℕ) → 0 < n → positive n ≡ true
positive_is n h = grind (arith, nat_tests)

number_takes : (bytes : List ℕ) (n : ℕ) (rest : List ℕ) → IsBytes bytes → number bytes ≡ Ok (n, rest) → (bytes ≡ to_be_bytes w64 n ++ rest) × IsNumber n
unfolding number
number_takes bytes n rest h e =
    let a = takes_first word64_agrees (λ v. judge (positive v) BadField >>= λ _. done v) bytes n rest h e in
    let j = judged (positive a.value) BadField (λ _. done a.value) a.after (n, rest) a.then' in
    let d = done_is a.value n a.after rest j.1 in
    let some : 0 < a.value = is_positive a.value j.0 in
    subst (λ v. (bytes ≡ to_be_bytes w64 v ++ rest) × IsNumber v) d.0
    (parts_done bytes (to_be_bytes w64 a.value) a.after rest a.parts d.1, record { positive = some; short = a.fits })

number_again : (n : ℕ) (rest : List ℕ) → IsNumber n → number (to_be_bytes w64 n ++ rest) ≡ Ok (n, rest)
unfolding number
number_again n rest h = again_first word64_agrees (λ v. judge (positive v) BadField >>= λ _. done v) n rest h.short ∙ rw (positive_is n h.positive) refl

pub number_agrees : Agrees number (to_be_bytes w64) IsNumber
number_agrees = record { takes = number_takes; again = number_again }

abbrev origin_of : Name → ℕ → Origin
origin_of n i = record { name = n; incarnation = record { 0 = i } }

origin_takes : (bytes : List ℕ) (o : Origin) (rest : List ℕ) → IsBytes bytes → origin bytes ≡ Ok (o, rest) → (bytes ≡ origin_octets o ++ rest) × IsOrigin o
unfolding origin
origin_takes bytes o rest h e =
    let p = both_take name_agrees word64_agrees origin_of bytes o rest h e in
    subst (λ v. (bytes ≡ origin_octets v ++ rest) × IsOrigin v) p.made (p.parts, record { name = p.fits; incarnation = p.fits' })

origin_again : (o : Origin) (rest : List ℕ) → IsOrigin o → origin (origin_octets o ++ rest) ≡ Ok (o, rest)
unfolding origin
origin_again o rest h = both_again name_agrees word64_agrees origin_of o.name o.incarnation.0 rest h.name h.incarnation

pub origin_agrees : Agrees origin origin_octets IsOrigin
origin_agrees = record { takes = origin_takes; again = origin_again }

abbrev id_of : Origin → ℕ → MsgId
id_of o n = record { origin = o; seq = n }

id_takes : (bytes : List ℕ) (i : MsgId) (rest : List ℕ) → IsBytes bytes → id bytes ≡ Ok (i, rest) → (bytes ≡ id_octets i ++ rest) × IsId i
unfolding id
id_takes bytes i rest h e =
    let p = both_take origin_agrees number_agrees id_of bytes i rest h e in
    subst (λ v. (bytes ≡ id_octets v ++ rest) × IsId v) p.made (p.parts, record { origin = p.fits; seq = p.fits' })

id_again : (i : MsgId) (rest : List ℕ) → IsId i → id (id_octets i ++ rest) ≡ Ok (i, rest)
unfolding id
id_again i rest h = both_again origin_agrees number_agrees id_of i.origin i.seq rest h.origin h.seq

pub id_agrees : Agrees id id_octets IsId
id_agrees = record { takes = id_takes; again = id_again }

abbrev announcement_of : MsgId → ℕ → MsgId × ℕ
announcement_of i r = (i, r)

announcement_takes : (bytes : List ℕ) (a : MsgId × ℕ) (rest : List ℕ) →
    IsBytes bytes →
    announcement bytes ≡ Ok (a, rest) →
    (bytes ≡ announcement_octets a ++ rest) × IsAnnouncement a
unfolding announcement
announcement_takes bytes a rest h e =
    let p = both_take id_agrees word32_agrees announcement_of bytes a rest h e in
    subst (λ v. (bytes ≡ announcement_octets v ++ rest) × IsAnnouncement v) p.made (p.parts, record { id = p.fits; round = p.fits' })

announcement_again : (a : MsgId × ℕ) (rest : List ℕ) → IsAnnouncement a → announcement (announcement_octets a ++ rest) ≡ Ok (a, rest)
unfolding announcement
announcement_again a rest h = both_again id_agrees word32_agrees announcement_of a.0 a.1 rest h.id h.round

pub announcement_agrees : Agrees announcement announcement_octets IsAnnouncement
announcement_agrees = record { takes = announcement_takes; again = announcement_again }
