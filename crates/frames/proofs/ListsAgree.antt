-- Each list is read as it is spelled.
use Rattle.std.proofs.Common.{◌≡◌, ℕ, zero, suc, ◌≤◌, true, List, [], ◌∷◌, ◌++◌, length, Ok, refl, sym, ap, subst, ◌∙◌, arith}
use Rattle.std.specs.Prelude.{nat_le, ◌&&◌}
use Rattle.std.specs.Int.{w16, w32, to_be_bytes}
use Rattle.std.specs.List.{flat_map, AllByRecursion}
use Rattle.std.proofs.lemmas.Bool.Decides.{nat_tests}
use Rattle.std.proofs.lemmas.List.Concat.{flat_map-cons}
use Rattle.node_names.specs.NodeName.{Name, IsNodeName}
use Rattle.node_names.specs.declared.ids.MsgId.{MsgId}
use Rattle.protocol.specs.declared.TheConstants.{MAX_PAYLOAD}
use Rattle.frames.specs.declared.TheConstants.{MAX_NAMES, MAX_ANNOUNCEMENTS}
use Rattle.frames.specs.declared.fault.FrameFault.TheVariants.{BadField, BadCount}
use Rattle.frames.specs.Field.{name_octets, announcement_octets, IsAnnouncement, octets, Holds}
use Rattle.frames.specs.Field.Field.{names as names_field, payload as payload_field, announcements as announcements_field}
use Rattle.frames.specs.Reading.{Reader, ◌>>=◌, done, judge, word, name, times, names, payload, announcement, announcements}
use Rattle.frames.specs.Reading as read
use Rattle.frames.proofs.Agree.{IsBytes, Agrees, bind_ok, takes_first, again_next, parts_then, parts_done, done_is, judged, octets_takes, octets_again}
use Rattle.frames.proofs.FieldsAgree.{byte_agrees, word16_agrees, word32_agrees, name_agrees, announcement_agrees}

-- ---- several items, each read by the same reader

-- what was taken, item by item
record Taken {X : Type 0} (text : X → List ℕ) (Fits : X → Type 0) (n : ℕ) (bytes : List ℕ) (xs : List X) (rest : List ℕ) : Type 0 where
  parts : bytes ≡ flat_map text xs ++ rest
  count : length xs ≡ n
  fits : AllByRecursion Fits xs

module _ {X : Type 0} {r : Reader X} {text : X → List ℕ} {Fits : X → Type 0} (a : Agrees r text Fits) where
  times_take : (n : ℕ) (bytes : List ℕ) (xs : List X) (rest : List ℕ) → IsBytes bytes → times n r bytes ≡ Ok (xs, rest) → Taken text Fits n bytes xs rest
  unfolding times
  times_take zero bytes xs rest h e =
      let d = done_is [] xs bytes rest e in
      subst (λ ys. Taken text Fits 0 bytes ys rest) d.0 (record { parts = d.1; count = refl; fits = tt })
  times_take (suc n) bytes xs rest h e =
      let p = takes_first a (λ first. times n r >>= λ others. done (first ∷ others)) bytes xs rest h e in
      let q = bind_ok (times n r p.after) (λ others. done (p.value ∷ others)) (xs, rest) p.then' in
      let d = done_is (p.value ∷ q.0.0) xs q.0.1 rest q.2 in
      let t = times_take n p.after q.0.0 q.0.1 p.bytes_after q.1 in
      let parts : bytes ≡ flat_map text (p.value ∷ q.0.0) ++ rest =
      parts_then bytes (text p.value) p.after (flat_map text q.0.0) rest p.parts (parts_done p.after (flat_map text q.0.0) q.0.1 rest t.parts d.1)
      ∙ ap (λ b. b ++ rest) (sym (flat_map-cons text p.value q.0.0)) in
      subst (λ ys. Taken text Fits (suc n) bytes ys rest) d.0 (record { parts = parts; count = ap suc t.count; fits = (p.fits, t.fits) })

  times_again : (xs : List X) (rest : List ℕ) → AllByRecursion Fits xs → times (length xs) r (flat_map text xs ++ rest) ≡ Ok (xs, rest)
  unfolding times
  times_again [] rest h = refl
  times_again (x ∷ xs) rest h =
      ap (λ b. times (suc (length xs)) r (b ++ rest)) (flat_map-cons text x xs)
      ∙ again_next a (λ first. times (length xs) r >>= λ others. done (first ∷ others)) x (flat_map text xs) rest h.0
      ∙ rw (times_again xs rest h.1) refl

-- ---- names

names_parts : (bytes after rest : List ℕ) (ns : List Name) (n : ℕ) →
    bytes ≡ (n ∷ []) ++ after →
    nat_le n MAX_NAMES ≡ true →
    Taken name_octets IsNodeName n after ns rest
    → (bytes ≡ octets (names_field ns) ++ rest) × Holds (names_field ns)
names_parts bytes after rest ns n p j t =
    (p ∙ ap (λ b. n ∷ b) t.parts ∙ ap (λ m. m ∷ (flat_map name_octets ns ++ rest)) (sym t.count), (few, t.fits))
  where
    few : length ns ≤ MAX_NAMES
    few = grind (arith, nat_tests)

names_takes : (bytes : List ℕ) (ns : List Name) (rest : List ℕ) →
    IsBytes bytes →
    names bytes ≡ Ok (ns, rest) →
    (bytes ≡ octets (names_field ns) ++ rest) × Holds (names_field ns)
unfolding names
names_takes bytes ns rest h e =
    let a = takes_first byte_agrees (λ count. judge (nat_le count MAX_NAMES) BadCount >>= λ _. times count name) bytes ns rest h e in
    let j = judged (nat_le a.value MAX_NAMES) BadCount (λ _. times a.value name) a.after (ns, rest) a.then' in
    names_parts bytes a.after rest ns a.value a.parts j.0 (times_take name_agrees a.value a.after ns rest a.bytes_after j.1)

few_pass : (n : ℕ) → n ≤ MAX_NAMES → nat_le n MAX_NAMES ≡ true
few_pass n h = grind (arith, nat_tests)

names_again : (ns : List Name) (rest : List ℕ) → Holds (names_field ns) → names (octets (names_field ns) ++ rest) ≡ Ok (ns, rest)
unfolding names read.byte
names_again ns rest h = rw (few_pass (length ns) h.0, times_again name_agrees ns rest h.1) refl

pub names_agrees : Agrees names (λ ns. octets (names_field ns)) (λ ns. Holds (names_field ns))
names_agrees = record { takes = names_takes; again = names_again }

-- ---- a payload

payload_parts : (bytes after rest p : List ℕ) (n : ℕ) → bytes ≡ to_be_bytes w32 n ++ after → nat_le n MAX_PAYLOAD ≡ true → after ≡ p ++ rest → length p ≡ n
    → (bytes ≡ octets (payload_field p) ++ rest) × Holds (payload_field p)
payload_parts bytes after rest p n parts j q l =
    let whole : bytes ≡ (to_be_bytes w32 n ++ p) ++ rest = parts_then bytes (to_be_bytes w32 n) after p rest parts q in
    let short : n ≤ MAX_PAYLOAD = grind (arith, nat_tests) in
    (subst (λ k. bytes ≡ (to_be_bytes w32 k ++ p) ++ rest) (sym l) whole, omega (arith, l, short))

payload_takes : (bytes p rest : List ℕ) → IsBytes bytes → payload bytes ≡ Ok (p, rest) → (bytes ≡ octets (payload_field p) ++ rest) × Holds (payload_field p)
unfolding payload
payload_takes bytes p rest h e =
    let a = takes_first word32_agrees (λ len. judge (nat_le len MAX_PAYLOAD) BadField >>= λ _. read.octets len) bytes p rest h e in
    let j = judged (nat_le a.value MAX_PAYLOAD) BadField (λ _. read.octets a.value) a.after (p, rest) a.then' in
    let t = octets_takes a.value a.after p rest j.1 in
    payload_parts bytes a.after rest p a.value a.parts j.0 t.0 t.1

short_passes : (n : ℕ) → n ≤ MAX_PAYLOAD → nat_le n MAX_PAYLOAD ≡ true
short_passes n h = grind (arith, nat_tests)

payload_again : (p rest : List ℕ) → Holds (payload_field p) → payload (octets (payload_field p) ++ rest) ≡ Ok (p, rest)
unfolding payload
payload_again p rest h =
    again_next word32_agrees (λ len. judge (nat_le len MAX_PAYLOAD) BadField >>= λ _. read.octets len) (length p) p rest (omega arith)
    ∙ rw (short_passes (length p) h) (octets_again p rest)

pub payload_agrees : Agrees payload (λ p. octets (payload_field p)) (λ p. Holds (payload_field p))
payload_agrees = record { takes = payload_takes; again = payload_again }

-- ---- announcements

announcements_parts : (bytes after rest : List ℕ) (entries : List (MsgId × ℕ)) (n : ℕ) →
    bytes ≡ to_be_bytes w16 n ++ after →
    (nat_le 1 n && nat_le n MAX_ANNOUNCEMENTS) ≡ true
    → Taken announcement_octets IsAnnouncement n after entries rest
    → (bytes ≡ octets (announcements_field entries) ++ rest) × Holds (announcements_field entries)
announcements_parts bytes after rest entries n p j t =
    let whole : bytes ≡ (to_be_bytes w16 n ++ flat_map announcement_octets entries) ++ rest =
    parts_then bytes (to_be_bytes w16 n) after (flat_map announcement_octets entries) rest p t.parts in
    let some : 1 ≤ n = grind (arith, nat_tests) in
    let few : n ≤ MAX_ANNOUNCEMENTS = grind (arith, nat_tests) in (
      subst (λ k. bytes ≡ (to_be_bytes w16 k ++ flat_map announcement_octets entries) ++ rest) (sym t.count) whole,
      (omega (arith, t.count, some), omega (arith, t.count, few), t.fits),
    )

announcements_takes : (bytes : List ℕ) (entries : List (MsgId × ℕ)) (rest : List ℕ) → IsBytes bytes → announcements bytes ≡ Ok (entries, rest)
    → (bytes ≡ octets (announcements_field entries) ++ rest) × Holds (announcements_field entries)
unfolding announcements
announcements_takes bytes entries rest h e =
    let a =
    takes_first word16_agrees
    (λ count. judge (nat_le 1 count && nat_le count MAX_ANNOUNCEMENTS) BadCount >>= λ _. times count announcement) bytes entries rest h e in
    let j = judged (nat_le 1 a.value && nat_le a.value MAX_ANNOUNCEMENTS) BadCount (λ _. times a.value announcement) a.after (entries, rest) a.then' in
    announcements_parts bytes a.after rest entries a.value a.parts j.0 (times_take announcement_agrees a.value a.after entries rest a.bytes_after j.1)

some_pass : (n : ℕ) → 1 ≤ n → n ≤ MAX_ANNOUNCEMENTS → (nat_le 1 n && nat_le n MAX_ANNOUNCEMENTS) ≡ true
some_pass n some few = grind (arith, nat_tests)

announcements_again : (entries : List (MsgId × ℕ)) (rest : List ℕ) →
    Holds (announcements_field entries) →
    announcements (octets (announcements_field entries) ++ rest) ≡ Ok (entries, rest)
unfolding announcements
announcements_again entries rest h =
    again_next word16_agrees (λ count. judge (nat_le 1 count && nat_le count MAX_ANNOUNCEMENTS) BadCount >>= λ _. times count announcement)
    (length entries) (flat_map announcement_octets entries) rest (omega (arith, h.1))
    ∙ rw (some_pass (length entries) h.0 h.1) (times_again announcement_agrees entries rest h.2)

pub announcements_agrees : Agrees announcements (λ entries. octets (announcements_field entries)) (λ entries. Holds (announcements_field entries))
announcements_agrees = record { takes = announcements_takes; again = announcements_again }
