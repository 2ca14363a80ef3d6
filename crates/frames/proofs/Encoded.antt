-- A length, and the body behind it.
use Rattle.std.proofs.Common.{◌≡◌, ℕ, ◌-◌, ◌^◌, ◌<◌, ◌≤◌, List, ◌++◌, length, take, drop, ap, subst, ◌∙◌, arith}
use Rattle.std.specs.Int.{w32, to_be_bytes}
use Rattle.std.proofs.lemmas.List.{length-append, length-drop, take_at, drop_at}
use Rattle.frames.specs.Frame.{Frame}
use Rattle.frames.specs.Grammar.{IsSpelling, layout, spelled}
use Rattle.frames.specs.Writing.{PutsAll}
use Rattle.frames.proofs.Sizes.{layout_size}

-- the room for the length, and the body, have a length that fits
pub body_fits : (f : Frame) (front items : List ℕ) → length front ≡ 4 → PutsAll (layout f) front items → (4 ≤ length items) × (length items < 2 ^ 32)
body_fits f front items l p =
    let size = layout_size f p.hold in (
      omega (arith, ap length p.bytes, length-append front (spelled (layout f)), l),
      omega (arith, ap length p.bytes, length-append front (spelled (layout f)), l, size),
    )

-- with the length in its room they spell the frame
pub spells : (f : Frame) (front items out : List ℕ) →
    length front ≡ 4 →
    PutsAll (layout f) front items →
    out ≡ to_be_bytes w32 (length items - 4) ++ drop 4 items →
    IsSpelling f out
spells f front items out l p e =
    let size : length items - 4 ≡ length (spelled (layout f)) = omega (arith, ap length p.bytes, length-append front (spelled (layout f)), l) in
    let rest : drop 4 items ≡ spelled (layout f) = ap (drop 4) p.bytes ∙ drop_at front (spelled (layout f)) 4 l in
    record {
      fields = p.hold;
      short = layout_size f p.hold;
      parts = e ∙ ap (λ n. to_be_bytes w32 n ++ drop 4 items) size ∙ ap (λ t. to_be_bytes w32 (length (spelled (layout f))) ++ t) rest;
    }

-- a slice that was written over the whole of a vector
pub over_whole : (old new slice out : List ℕ) (len : ℕ) →
    len ≡ length old →
    slice ≡ old →
    4 ≤ length old →
    new ≡ to_be_bytes w32 (length slice - 4) ++ drop 4 slice →
    out ≡ take len (new ++ drop (length new) old)
    → out ≡ to_be_bytes w32 (length old - 4) ++ drop 4 old
over_whole old new slice out len l e long n o =
    let n' : new ≡ to_be_bytes w32 (length old - 4) ++ drop 4 old = subst (λ t. new ≡ to_be_bytes w32 (length t - 4) ++ drop 4 t) e n in
    let same : length new ≡ len = omega (arith, ap length n', length-append (to_be_bytes w32 (length old - 4)) (drop 4 old), length-drop 4 old) in
    o ∙ take_at new (drop (length new) old) len same ∙ n'
