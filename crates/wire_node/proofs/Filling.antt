-- Bytes that are put behind what was left, and taken back.
use Rattle.std.proofs.Common.{◌≡◌, ◌+◌, ℕ, List, ◌++◌, length, take, drop, ap, sym, ◌∙◌, append_assoc, arith}
use Rattle.std.proofs.lemmas.List.{drop-take, take-append-drop, take-take, take_at}

take_sum : (a b : ℕ) (bytes : List ℕ) → take a bytes ++ take b (drop a bytes) ≡ take (a + b) bytes
take_sum a b bytes =
    ap (λ (t : List ℕ). t ++ take b (drop a bytes)) (sym (take-take a (a + b) bytes (omega arith)))
    ∙ ap (λ (t : List ℕ). take a (take (a + b) bytes) ++ t) (sym (drop-take a b bytes))
    ∙ take-append-drop a (take (a + b) bytes)

-- the first bytes, and then others
pub filled_twice : (left bytes one two : List ℕ) (a b : ℕ) → one ≡ left ++ take a bytes → two ≡ one ++ take b (drop a bytes) → two ≡ left ++ take (a + b) bytes
filled_twice left bytes one two a b e f =
    f
    ∙ ap (λ (t : List ℕ). t ++ take b (drop a bytes)) e
    ∙ append_assoc left (take a bytes) (take b (drop a bytes))
    ∙ ap (λ (t : List ℕ). left ++ t) (take_sum a b bytes)

-- what was put behind goes
pub cut_back : {X : Type 0} (left more now : List X) (len : ℕ) → now ≡ left ++ more → len ≡ length left → take len now ≡ left
cut_back left more now len e size = ap (take len) e ∙ take_at left more len (sym size)
