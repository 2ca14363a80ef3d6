-- Frames that are cut one after the other.
use Rattle.std.proofs.Common.{◌≡◌, ℕ, ◌+◌, ◌*◌, ◌<◌, ◌≤◌, List, [], ◌∷◌, ◌++◌, length, take, true, false, Option}
use Rattle.std.proofs.Common.{Some, None, Result, Ok, Err, refl, sym, ap, subst, ◌∙◌, append_assoc, arith}
use Rattle.std.specs.Prelude.{OnOk, OnErr, is_err}
use Rattle.std.specs.Int.{w32, to_be_bytes}
use Rattle.std.specs.Io.KnownBytes.{Consumes, Keeps}
use Rattle.std.proofs.KnownBytes.{Consumes-nil, Consumes-trans, Consumes-kept}
use Rattle.std.proofs.lemmas.List.{length-append, length-take, append-nil}
use Rattle.frames.specs.Cutting.{Begins, Cuts, IsNext}
use Rattle.frames.specs.Frame.{Frame}
use Rattle.frames.specs.Grammar.{layout, spelled}
use Rattle.links.specs.declared.ends.LinkEnd.{LinkEnd}
use Rattle.links.specs.declared.ends.LinkEnd.TheVariants.{ReadFault, Ended, OutOfMemory}
use Rattle.links.specs.Pumping.{ComesOfGiving, Gives, IsPartial, Pumps}

-- a frame takes bytes
pub cuts_shorter : (f : Frame) (old new : List ℕ) → Cuts f old new → length new < length old
cuts_shorter f old new c =
    omega (
      arith,
      ap length c.parts,
      length-append c.spelling new,
      ap length c.spelled.parts,
      length-append (to_be_bytes w32 (length (spelled (layout f)))) (spelled (layout f)),
    )

-- one more frame
pub begins_more : (fs : List Frame) (f : Frame) (stream rest after : List ℕ) → Begins fs stream rest → Cuts f rest after → Begins (fs ++ f ∷ []) stream after
begins_more [] f stream rest after b c = (after, subst (λ s. Cuts f s after) (sym b) c, refl)
begins_more (g ∷ fs) f stream rest after b c = (b.0, b.1, begins_more fs f b.0 rest after b.2 c)

-- frames and then others
pub begins_then : (fs gs : List Frame) (stream rest after : List ℕ) → Begins fs stream rest → Begins gs rest after → Begins (fs ++ gs) stream after
begins_then [] gs stream rest after b c = subst (λ s. Begins gs s after) (sym b) c
begins_then (f ∷ fs) gs stream rest after b c = (b.0, b.1, begins_then fs gs b.0 rest after b.2 c)

-- more bytes behind the stream
pub begins_behind : (fs : List Frame) (stream rest more : List ℕ) → Begins fs stream rest → Begins fs (stream ++ more) (rest ++ more)
begins_behind [] stream rest more b = ap (λ s. s ++ more) b
begins_behind (f ∷ fs) stream rest more b =
    let c = b.1 in (
      b.0 ++ more,
      record { spelling = c.spelling; spelled = c.spelled; parts = ap (λ s. s ++ more) c.parts ∙ append_assoc c.spelling b.0 more },
      begins_behind fs b.0 rest more b.2,
    )

-- a frame that is the next
pub next_cuts : (o : Option Frame) (f : Frame) (old new : List ℕ) → IsNext (Ok o) old new → o ≡ Some f → Cuts f old new
next_cuts o f old new h is = subst (λ p. IsNext (Ok p) old new) is h

-- giving frames does not end with ReadFault
pub no_read_fault : (e : LinkEnd) → ComesOfGiving e → e ≡ ReadFault → ⊥
no_read_fault e h is = subst ComesOfGiving is h

-- nor with Ended
pub no_end : (e : LinkEnd) (left : ℕ) → ComesOfGiving e → e ≡ Ended left → ⊥
no_end e left h is = subst ComesOfGiving is h

-- what was given before anything was read
pub pumps_first : (e : LinkEnd) (turns : ℕ) (cutter cutter' : List ℕ) (taken taken' : List Frame) (known : Option (List ℕ)) →
    (o : Option LinkEnd) →
    o ≡ Some e →
    Gives o cutter cutter' taken taken' →
    Pumps e turns cutter cutter' taken taken' known known
pumps_first e turns cutter cutter' taken taken' known o is given = let g = subst (λ p. Gives p cutter cutter' taken taken') is given in record {
  frames = g.frames;
  bytes = [];
  rest = g.rest;
  sunk = g.sunk;
  consumed = Consumes-nil known;
  few = omega arith;
  stream = subst (λ s. Begins g.frames s g.rest) (sym (append-nil cutter)) g.stream;
  ends = g.stops.1;
}

-- the frames of the bytes before and of a piece more
pub stream_on : (cutter bytes piece mid mid' rest : List ℕ) (frames more : List Frame) →
    Begins frames (cutter ++ bytes) mid →
    mid' ≡ mid ++ piece →
    Begins more mid' rest →
    Begins (frames ++ more) (cutter ++ (bytes ++ piece)) rest
stream_on cutter bytes piece mid mid' rest frames more b m g =
    subst (λ s. Begins (frames ++ more) s rest) (append_assoc cutter bytes piece)
    (begins_then frames more ((cutter ++ bytes) ++ piece) (mid ++ piece) rest
    (begins_behind frames (cutter ++ bytes) mid piece b) (subst (λ s. Begins more s rest) m g))

-- what was given of the bytes before and of a piece more
pub pumps_on : (e : LinkEnd) (cutter mid mid' cutter' : List ℕ) (taken taken1 taken' : List Frame)
    (known known1 known' : Option (List ℕ)) (frames : List Frame) (bytes piece : List ℕ)
    → taken1 ≡ taken ++ frames → Consumes known known1 bytes → Begins frames (cutter ++ bytes) mid → Consumes known1 known' piece → mid' ≡ mid ++ piece
    → (o : Option LinkEnd)
    → o ≡ Some e
    → Gives o mid' cutter' taken1 taken'
    → (turns : ℕ)
    → length (bytes ++ piece) ≤ 4096 * turns
    → Pumps e turns cutter cutter' taken taken' known known'
pumps_on e cutter mid mid' cutter' taken taken1 taken' known known1 known' frames bytes piece t c b c' m o is given turns few =
    let g = subst (λ p. Gives p mid' cutter' taken1 taken') is given in record {
      frames = frames ++ g.frames;
      bytes = bytes ++ piece;
      rest = g.rest;
      sunk = g.sunk ∙ ap (λ s. s ++ g.frames) t ∙ append_assoc taken frames g.frames;
      consumed = Consumes-trans known known1 known' bytes piece c c';
      few = few;
      stream = stream_on cutter bytes piece mid mid' g.rest frames g.frames b m g.stream;
      ends = g.stops.1;
    }

-- what was read and could not be kept
pub pumps_lost : (cutter mid cutter' : List ℕ) (taken taken1 : List Frame) (known known1 known' : Option (List ℕ)) (frames : List Frame) (bytes piece : List ℕ)
    → taken1 ≡ taken ++ frames → Consumes known known1 bytes → Begins frames (cutter ++ bytes) mid → Consumes known1 known' piece → cutter' ≡ mid
    → (turns : ℕ) → length (bytes ++ piece) ≤ 4096 * turns → Pumps OutOfMemory turns cutter cutter' taken taken1 known known'
pumps_lost cutter mid cutter' taken taken1 known known1 known' frames bytes piece t c b c' m turns few = record {
  frames = frames;
  bytes = bytes ++ piece;
  rest = mid ++ piece;
  sunk = t;
  consumed = Consumes-trans known known1 known' bytes piece c c';
  few = few;
  stream = subst (λ s. Begins frames s (mid ++ piece)) (append_assoc cutter bytes piece) (begins_behind frames (cutter ++ bytes) mid piece b);
  ends = (piece, ap (λ s. s ++ piece) (sym m));
}

pub on_err : {X E : Type 0} (P : Type 0) (r : Result X E) → is_err r ≡ true → OnErr r P → P
on_err P (Ok x) e h = absurd cc
on_err P (Err x) e h = h

pub on_ok : {X E : Type 0} (P : Type 0) (r : Result X E) → is_err r ≡ false → OnOk r P → P
on_ok P (Ok x) e h = h
on_ok P (Err x) e h = absurd cc

-- a read gives no more than it has room for
pub piece_few : (n : ℕ) (buf : List ℕ) → length buf ≡ 4096 → length (take n buf) ≤ 4096
piece_few n buf size = omega (arith, length-take n buf, size)

-- with one more read
pub read_few : (bytes piece : List ℕ) (made turns : ℕ) →
    length bytes ≤ 4096 * made →
    length piece ≤ 4096 →
    made < turns →
    length (bytes ++ piece) ≤ 4096 * turns
read_few bytes piece made turns few size more = omega (arith, length-append bytes piece, few, size, more)

-- what was pumped so far in these turns, where no whole frame is left
abbrev pub IsPumped : (turns : ℕ) (cutter cutter' : List ℕ) (taken taken' : List Frame) (known known' : Option (List ℕ)) → Type 0
IsPumped turns cutter cutter' taken taken' known known' =
    (frames : List Frame)
    × (bytes : List ℕ)
    × (taken' ≡ taken ++ frames)
    × Consumes known known' bytes
    × Begins frames (cutter ++ bytes) cutter'
    × IsPartial cutter'
    × (length bytes ≤ 4096 * turns)

-- one more piece
pub pumped_on : (made : ℕ) (cutter mid mid' cutter' : List ℕ) (taken taken1 taken' : List Frame) (known known1 known' : Option (List ℕ)) (piece : List ℕ)
    → IsPumped made cutter mid taken taken1 known known1
    → Consumes known1 known' piece
    → mid' ≡ mid ++ piece
    → Gives None mid' cutter' taken1 taken'
    → length piece ≤ 4096
    → IsPumped (made + 1) cutter cutter' taken taken' known known'
pumped_on made cutter mid mid' cutter' taken taken1 taken' known known1 known' piece p c m g few =
    let on = g.goes_on refl in (
      p.0 ++ g.frames,
      p.1 ++ piece,
      g.sunk ∙ ap (λ s. s ++ g.frames) p.2 ∙ append_assoc taken p.0 g.frames,
      Consumes-trans known known1 known' p.1 piece p.3 c,
      subst (λ s. Begins (p.0 ++ g.frames) (cutter ++ (p.1 ++ piece)) s) (sym on.1) (stream_on cutter p.1 piece mid mid' g.rest p.0 g.frames p.4 m g.stream),
      subst IsPartial (sym on.1) on.0,
      omega (arith, length-append p.1 piece, p.6, few),
    )

-- a read that gave nothing
pub pumped_still : (made : ℕ) (cutter mid : List ℕ) (taken taken1 : List Frame) (known known1 known' : Option (List ℕ)) →
    IsPumped made cutter mid taken taken1 known known1 →
    Keeps known1 known' →
    IsPumped (made + 1) cutter mid taken taken1 known known'
pumped_still made cutter mid taken taken1 known known1 known' p k = (p.0, p.1, p.2, Consumes-kept known known1 known' p.1 p.3 k, p.4, p.5, omega (arith, p.6))
