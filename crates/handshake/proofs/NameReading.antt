-- Reading a name, by whether its bytes name a node.
use Rattle.std.proofs.Common.{◌≡◌, ◌⊎◌, inl, inr, ℕ, ◌≤◌, Bool, true, false, List, length, Ok, Err, refl, arith}
use Rattle.std.specs.Prelude.{◌&&◌, nat_le}
use Rattle.std.specs.List.{list_all}
use Rattle.std.proofs.lemmas.Bool.Decides.{nat_tests}
use Rattle.std.proofs.lemmas.List.Sums.{AllPass-from_list_all, list_all-from_AllPass}
use Rattle.node_names.specs.NodeName.{IsNodeName, is_name_byte}
use Rattle.handshake.specs.declared.error.HelloError.{HelloError}
use Rattle.handshake.specs.Reading.{byte, octets, name}
use Rattle.handshake.proofs.Agree.{octets_takes}

-- a test holds or it does not
pub decided : (b : Bool) → (b ≡ true) ⊎ (b ≡ false)
decided true = inl refl
decided false = inr refl

-- the bytes of a name pass the test
pub letters_pass : (letters : List ℕ) → IsNodeName letters → list_all is_name_byte letters ≡ true
letters_pass letters h = list_all-from_AllPass is_name_byte letters h.alphabet

-- 1 to 32 bytes that all pass the test are a name
pub name_from_pass : (letters : List ℕ) → 1 ≤ length letters → length letters ≤ 32 → list_all is_name_byte letters ≡ true → IsNodeName letters
name_from_pass letters some few pass = record {
  not_empty = omega arith;
  short = few;
  alphabet = AllPass-from_list_all is_name_byte letters pass;
}

-- a length of 1 to 32 passes the test
pub len_passes : (len : ℕ) → 1 ≤ len → len ≤ 32 → (nat_le 1 len && nat_le len 32) ≡ true
len_passes len some few = grind (arith, nat_tests)

-- a length that passes the test is 1 to 32
pub len_bounds : (len : ℕ) → (nat_le 1 len && nat_le len 32) ≡ true → (1 ≤ len) × (len ≤ 32)
len_bounds len h = (grind (arith, nat_tests), grind (arith, nat_tests))

-- a name is read where its length and its bytes are those of a name
pub name_read : (bad : HelloError) (old after letters rest : List ℕ) (len : ℕ) →
    byte old ≡ Ok (len, after) →
    1 ≤ len →
    len ≤ 32 →
    octets len after ≡ Ok (letters, rest) →
    IsNodeName letters →
    name bad old ≡ Ok (letters, rest)
unfolding name
name_read bad old after letters rest len b some few o h = rw (b, len_passes len some few, o, letters_pass letters h) refl

-- a name is refused if its length is right but its bytes are not those of a name
pub name_refused : (bad : HelloError) (old after letters rest : List ℕ) (len : ℕ) →
    byte old ≡ Ok (len, after) →
    1 ≤ len →
    len ≤ 32 →
    octets len after ≡ Ok (letters, rest) →
    (IsNodeName letters → ⊥) →
    name bad old ≡ Err bad
unfolding name
name_refused bad old after letters rest len b some few o h =
    let l = (octets_takes len after letters rest o).1 in
    elim (decided (list_all is_name_byte letters)) [
      | inl pass ↦ absurd (h (name_from_pass letters (omega arith) (omega arith) pass))
      | inr fail ↦ rw (b, len_passes len some few, o, fail) refl
    ]
