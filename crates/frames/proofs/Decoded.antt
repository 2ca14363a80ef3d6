-- What the decoder answers, by what reading gives.
use Rattle.std.proofs.Common.{◌≡◌, inl, inr, ℕ, ◌≤◌, List, [], ◌++◌, length, take, Result, Ok, Err, refl, sym, ap, ◌∙◌}
use Rattle.std.specs.Prelude.{IfOk, MatchResult}
use Rattle.node_names.specs.declared.ids.Origin.{Origin}
use Rattle.frames.specs.declared.fault.FrameFault.{FrameFault}
use Rattle.frames.specs.declared.fault.FrameFault.TheVariants.{OutOfMemory}
use Rattle.frames.specs.declared.body.Kind.{Kind}
use Rattle.frames.specs.Answer.{Makes}
use Rattle.frames.specs.Body.{Body}
use Rattle.frames.specs.Frame.{Frame, IsFrame}
use Rattle.frames.specs.Grammar.{IsSpelling}
use Rattle.frames.specs.Reading.{version, kind, origin, number, fields, alone, frame, read}
use Rattle.frames.proofs.Agree.{IsBytes}
use Rattle.frames.proofs.FrameAgrees.{frame_takes, layout_within, read_takes, read_again}

-- the parts of a frame that was read are within their limits
pub parts_within : (bytes a b c d : List ℕ) (w : ℕ) (k : Kind) (o : Origin) (n : ℕ) (v : Body) →
    IsBytes bytes →
    version bytes ≡ Ok (w, a) →
    kind w a ≡ Ok (k, b) →
    origin b ≡ Ok (o, c) →
    number c ≡ Ok (n, d)
    → alone (fields k) d ≡ Ok (v, []) → IsFrame (record { sender = o; number = n; body = v })
unfolding frame
parts_within bytes a b c d w k o n v h p q r s t =
    let f : Frame = record { sender = o; number = n; body = v } in
    let whole : frame bytes ≡ Ok (f, []) = rw (p, q, r, s, t) refl in
    layout_within f (frame_takes bytes f [] h whole).fits

-- what was decoded is spelled so
pub decoded_found : (result : Result (Frame × ℕ) FrameFault) (bytes : List ℕ) →
    IsBytes bytes →
    Makes (λ x. x) result (read bytes) →
    IfOk result (λ x. IsSpelling x.0 (take x.1 bytes) × (x.1 ≤ length bytes))
decoded_found (Ok x) bytes h e = read_takes bytes x.0 x.1 h e
decoded_found (Err fault) bytes h e = tt

abbrev answer : Frame × ℕ → Result (Frame × ℕ) FrameFault
answer x = Ok x

pair_is : (x y : Frame × ℕ) → answer x ≡ answer y → x ≡ y
pair_is x y e = cc

-- what is spelled so is decoded
pub decoded_only : (result : Result (Frame × ℕ) FrameFault) (bytes : List ℕ) →
    Makes (λ x. x) result (read bytes) →
    (f : Frame) (spelling rest : List ℕ) →
    IsSpelling f spelling →
    bytes ≡ spelling ++ rest
    → MatchResult result (λ x. (x.0 ≡ f) × (x.1 ≡ length spelling)) (λ fault. fault ≡ OutOfMemory)
decoded_only (Ok x) bytes e f spelling rest s is =
    let p = pair_is x (f, length spelling) (sym e ∙ ap read is ∙ read_again f spelling rest s) in
    (ap (λ (q : Frame × ℕ). q.0) p, ap (λ (q : Frame × ℕ). q.1) p)
decoded_only (Err fault) bytes (inl e) f spelling rest s is =
    let both : answer (f, length spelling) ≡ Err fault = sym (read_again f spelling rest s) ∙ ap read (sym is) ∙ e in
    absurd cc
decoded_only (Err fault) bytes (inr e) f spelling rest s is = e.0
