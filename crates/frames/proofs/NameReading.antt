-- Reading a name, by whether its bytes name a node.
use Rattle.std.proofs.Common.{◌≡◌, ◌⊎◌, inl, inr, ℕ, ◌≤◌, Bool, true, false, List, length, take, drop, Ok, Err, refl, ap, arith, cond}
use Rattle.std.specs.Prelude.{◌&&◌, nat_lt, nat_le}
use Rattle.std.specs.List.{list_all}
use Rattle.std.proofs.lemmas.Bool.{ltb-false}
use Rattle.std.proofs.lemmas.Bool.Decides.{nat_tests}
use Rattle.std.proofs.lemmas.List.{length-take}
use Rattle.std.proofs.lemmas.List.Sums.{AllPass-from_list_all, list_all-from_AllPass}
use Rattle.node_names.specs.NodeName.{IsNodeName, is_name_byte}
use Rattle.frames.specs.declared.fault.FrameFault.{FrameFault}
use Rattle.frames.specs.declared.fault.FrameFault.TheVariants.{BadField, BadName}
use Rattle.frames.specs.Reading.{byte, octets, name}

-- a test holds or it does not
decided : (b : Bool) → (b ≡ true) ⊎ (b ≡ false)
decided true = inl refl
decided false = inr refl

-- the bytes of a name pass the test
pub letters_pass : (letters : List ℕ) → IsNodeName letters → list_all is_name_byte letters ≡ true
letters_pass letters h = list_all-from_AllPass is_name_byte letters h.alphabet

-- 1 to 32 bytes that all pass the test are a name
pub name_from_pass : (letters : List ℕ) → 1 ≤ length letters → length letters ≤ 32 → list_all is_name_byte letters ≡ true → IsNodeName letters
name_from_pass letters some few pass = record {
  not_empty = omega arith;
  short = few;
  alphabet = AllPass-from_list_all is_name_byte letters pass;
}

-- a length of 1 to 32 passes the test
pub len_passes : (len : ℕ) → 1 ≤ len → len ≤ 32 → (nat_le 1 len && nat_le len 32) ≡ true
len_passes len some few = grind (arith, nat_tests)

-- a length that passes the test is 1 to 32
pub len_bounds : (len : ℕ) → (nat_le 1 len && nat_le len 32) ≡ true → (1 ≤ len) × (len ≤ 32)
len_bounds len h = (grind (arith, nat_tests), grind (arith, nat_tests))

-- a test that did not fail
guard_ok : {A : Type 0} (b : Bool) (d : FrameFault) (x y : A) → cond b (Err d) (Ok x) ≡ Ok y → (b ≡ false) × (x ≡ y)
guard_ok true d x y e = absurd cc
guard_ok false d x y e = (refl, cc)

-- octets reads len bytes
pub octets_length : (len : ℕ) (bytes letters rest : List ℕ) → octets len bytes ≡ Ok (letters, rest) → length letters ≡ len
octets_length len bytes letters rest e =
    let g = guard_ok (nat_lt (length bytes) len) BadField (take len bytes, drop len bytes) (letters, rest) e in
    let long : len ≤ length bytes = ltb-false _ _ g.0 in
    let front : take len bytes ≡ letters = ap (λ (p : List ℕ × List ℕ). p.0) g.1 in
    rw (← front) (omega (arith, length-take len bytes))

-- a name is read where its length and its bytes are those of a name
pub name_read : (old after letters rest : List ℕ) (len : ℕ) →
    byte old ≡ Ok (len, after) →
    1 ≤ len →
    len ≤ 32 →
    octets len after ≡ Ok (letters, rest) →
    IsNodeName letters →
    name old ≡ Ok (letters, rest)
unfolding name
name_read old after letters rest len b some few o h = rw (b, len_passes len some few, o, letters_pass letters h) refl

-- a name is refused if its length is right but its bytes are not those of a name
pub name_refused : (old after letters rest : List ℕ) (len : ℕ) →
    byte old ≡ Ok (len, after) →
    1 ≤ len →
    len ≤ 32 →
    octets len after ≡ Ok (letters, rest) →
    (IsNodeName letters → ⊥) →
    name old ≡ Err BadName
unfolding name
name_refused old after letters rest len b some few o h =
    let l = octets_length len after letters rest o in
    elim (decided (list_all is_name_byte letters)) [
      | inl pass ↦ absurd (h (name_from_pass letters (omega arith) (omega arith) pass))
      | inr fail ↦ rw (b, len_passes len some few, o, fail) refl
    ]
