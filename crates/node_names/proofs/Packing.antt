-- How 32 bytes hold a name.
use Rattle.std.proofs.Common.{◌≡◌, ℕ, ◌+◌, ◌-◌, ◌<◌, ◌≤◌, [], ◌∷◌, List, ◌++◌, length, take, drop, replicate, refl, subst, sym, ap, ◌∙◌, arith}
use Rattle.std.proofs.Common.{◌⊎◌, inl, inr, if◌then◌else◌, nat_eq, nat_lt, leb, true, false}
use Rattle.std.specs.Prelude.{IsTrue, slice_index}
use Rattle.std.specs.Cmp.Lexicographic.{pointwise, bytes_decides}
use Rattle.std.proofs.Math.Seq.{take-append_seam, get_or-append_seam}
use Rattle.std.proofs.Math.ListN.{get_or-append}
use Rattle.std.proofs.lemmas.List.{get_or-append_right, get_or-drop}
use Rattle.std.proofs.lemmas.Bool.Decides.{nat_tests, leb_tells, same_from_decides, Decides-like}
use Rattle.node_names.specs.NodeName.{IsNodeName, is_name_byte, packed, held_length, held_name, HoldsName}

-- 31 zeros and the length of a name
abbrev tail : ℕ → List ℕ
tail n = replicate 31 0 ++ n ∷ []

-- a byte of a name is greater than the length of a shorter name
name_byte-wide : (b : ℕ) → IsTrue (is_name_byte b) → 32 ≤ b
name_byte-wide b h = grind (arith, nat_tests)

tail-last : (n : ℕ) → slice_index (tail n) 31 ≡ n
tail-last n = get_or-append_seam (replicate 31 0) n [] 0

-- the last of the 32 bytes of a shorter name is its length
last-short : (name : List ℕ) → length name < 32 → slice_index (packed name) 31 ≡ length name
unfolding packed
last-short name lt =
    get_or-append_right name (drop (length name) (tail (length name))) (length name) 31 0 refl (grind arith)
    ∙ get_or-drop (length name) (tail (length name)) (31 - length name) 0
    ∙ ap (slice_index (tail (length name))) (let e : length name + (31 - length name) ≡ 31 = grind arith in e)
    ∙ tail-last (length name)

shown-short : (last n : ℕ) → last ≡ n → n < 32 → (if nat_lt last 32 then last else 32) ≡ n
shown-short last n e lt = grind (arith, nat_tests)

shown-whole : (last n : ℕ) → 32 ≤ last → n ≡ 32 → (if nat_lt last 32 then last else 32) ≡ n
shown-whole last n le e = grind (arith, nat_tests)

-- the last of the 32 bytes of a name of 32 bytes is its own
last-whole : (name : List ℕ) → IsNodeName name → length name ≡ 32 → 32 ≤ slice_index (packed name) 31
unfolding packed
last-whole name h e =
    subst (λ b. 32 ≤ b) (sym (get_or-append name (drop (length name) (tail (length name))) 0 31 (grind arith)))
    (name_byte-wide _ (h.alphabet 31 0 (grind arith)))

shown : (name : List ℕ) → IsNodeName name → ((leb 32 (length name) ≡ true) × (32 ≤ length name)) ⊎ ((leb 32 (length name) ≡ false) × (length name < 32))
    → held_length (packed name) ≡ length name
unfolding held_length
shown name h (inl (_, le)) = let e : length name ≡ 32 = grind (arith, h.short, le) in shown-whole _ _ (last-whole name h e) e
shown name h (inr (_, lt)) = shown-short _ _ (last-short name lt) lt

-- the length of the name that is read from its 32 bytes
length-packed : (name : List ℕ) → IsNodeName name → held_length (packed name) ≡ length name
length-packed name h = shown name h (leb_tells 32 (length name))

-- the name that is read from its 32 bytes
held-packed : (name : List ℕ) → IsNodeName name → held_name (packed name) ≡ name
unfolding packed held_name
held-packed name h =
    ap (λ n. take n (packed name)) (length-packed name h) ∙ take-append_seam name (drop (length name) (tail (length name)))

-- the 32 bytes of a name hold it
HoldsName-packed : (name : List ℕ) → IsNodeName name → HoldsName (packed name)
HoldsName-packed name h = record {
  name = subst IsNodeName (sym (held-packed name h)) h;
  whole = ap packed (held-packed name h);
}

-- the same 32 bytes hold the same name, and others another
pub same-packed : (a b : List ℕ) → HoldsName a → HoldsName b → pointwise nat_eq a b ≡ pointwise nat_eq (held_name a) (held_name b)
same-packed a b ha hb =
    same_from_decides _ _ (bytes_decides a b)
    (Decides-like _ (λ e. sym ha.whole ∙ ap packed e ∙ hb.whole) (λ e. ap held_name e) (bytes_decides (held_name a) (held_name b)))

-- what was written over the front of a length behind 31 zeros holds the name
pub HoldsName-written : (name front : List ℕ) → IsNodeName name → front ≡ name → HoldsName (front ++ drop (length name) (replicate 31 0 ++ length name ∷ []))
unfolding packed
HoldsName-written name front h e = subst (λ f. HoldsName (f ++ drop (length name) (tail (length name)))) (sym e) (HoldsName-packed name h)

-- and it is read from there
pub held-written : (name front : List ℕ) → IsNodeName name → front ≡ name → held_name (front ++ drop (length name) (replicate 31 0 ++ length name ∷ [])) ≡ name
unfolding packed
held-written name front h e = subst (λ f. held_name (f ++ drop (length name) (tail (length name))) ≡ name) (sym e) (held-packed name h)
