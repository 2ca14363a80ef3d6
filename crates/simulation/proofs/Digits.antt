-- Hexadecimal digits that are written to the front of a buffer.
use Rattle.std.proofs.Common.{◌≡◌, ℕ, ◌+◌, ◌*◌, ◌/◌, ◌%◌, ◌<◌, ◌≤◌, List, [], ◌∷◌, ◌++◌, length, take, drop, slice_index, slice_set, refl, arith}
use Rattle.std.specs.Prelude.{IsAscii}
use Rattle.std.proofs.lemmas.List.{append_assoc, append-nil, drop_all, drop_more, take_more_set, length-set}
use Rattle.std.proofs.lemmas.Str.Ascii.{IsAscii-cons, IsAscii-nil}
use Rattle.std.proofs.lemmas.Str.{IsAscii-append}
use Rattle.simulation.specs.Lines.{hex_digit, hexadecimal}

-- two writes in a row, seen from the front
take-two_writes : (xs : List ℕ) (o x y : ℕ) → o + 1 < length xs → take (o + 2) (slice_set (slice_set xs o x) (o + 1) y) ≡ take o xs ++ (x ∷ y ∷ [])
take-two_writes xs o x y fits =
    let len : length (slice_set xs o x) ≡ length xs = length-set xs o x in
    let two : o + 2 ≡ o + 1 + 1 = omega arith in
    let second = take_more_set (slice_set xs o x) (o + 1) y (omega (arith, len)) in
    let first = take_more_set xs o x (omega arith) in
    rw (two, second, first) (append_assoc (take o xs) (x ∷ []) (y ∷ []))

-- the digits of what is left, from one byte on
hexadecimal-drop : (bs : List ℕ) (i : ℕ) →
    i < length bs →
    hexadecimal (drop i bs) ≡ hex_digit (slice_index bs i / 16) ∷ hex_digit (slice_index bs i % 16) ∷ hexadecimal (drop (i + 1) bs)
hexadecimal-drop bs i h = rw (drop_more bs i 0 h) refl

-- the digits of one byte more are written
pub digits_step : (bs out : List ℕ) (i x y : ℕ) → i < length bs → 2 * i + 1 < length out
    → x ≡ hex_digit (slice_index bs i / 16) → y ≡ hex_digit (slice_index bs i % 16)
    → take (2 * i) out ++ hexadecimal (drop i bs) ≡ hexadecimal bs
    → take (2 * (i + 1)) (slice_set (slice_set out (2 * i) x) (2 * i + 1) y) ++ hexadecimal (drop (i + 1) bs) ≡ hexadecimal bs
digits_step bs out i x y h fits ex ey inv =
    let two : 2 * (i + 1) ≡ 2 * i + 2 = omega arith in
    let front = take-two_writes out (2 * i) x y fits in
    let rest = hexadecimal-drop bs i h in
    rw (two, front, append_assoc, ex, ey) (rw rest at inv)

-- and they are ASCII
pub digits_ascii_step : (out : List ℕ) (i x y : ℕ) → 2 * i + 1 < length out → x < 128 → y < 128
    → IsAscii (take (2 * i) out) → IsAscii (take (2 * (i + 1)) (slice_set (slice_set out (2 * i) x) (2 * i + 1) y))
digits_ascii_step out i x y fits hx hy inv =
    let two : 2 * (i + 1) ≡ 2 * i + 2 = omega arith in
    let front = take-two_writes out (2 * i) x y fits in
    rw (two, front) (IsAscii-append (take (2 * i) out) (x ∷ y ∷ []) inv (IsAscii-cons x (y ∷ []) hx (IsAscii-cons y [] hy IsAscii-nil)))

-- the digits of every byte are written
pub digits_done : (bs out : List ℕ) (i : ℕ) → length bs ≤ i → take (2 * i) out ++ hexadecimal (drop i bs) ≡ hexadecimal bs → take (2 * i) out ≡ hexadecimal bs
digits_done bs out i h inv =
    let d = drop_all i bs h in
    rw (d, append-nil) at inv

hexadecimal-append : (bs cs : List ℕ) → hexadecimal (bs ++ cs) ≡ hexadecimal bs ++ hexadecimal cs
hexadecimal-append [] cs = refl
hexadecimal-append (b ∷ bs) cs = rw (hexadecimal-append bs cs) refl

-- the digits of one chunk more are appended
pub chunk_step : (old new whole left chunk rest : List ℕ) →
    new ≡ old ++ hexadecimal chunk →
    left ≡ chunk ++ rest →
    old ++ hexadecimal left ≡ whole →
    new ++ hexadecimal rest ≡ whole
chunk_step old new whole left chunk rest appended parts inv = rw (appended, append_assoc) (rw (parts, hexadecimal-append) at inv)
