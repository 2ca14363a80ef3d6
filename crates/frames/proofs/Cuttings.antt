-- A stream has one list of frames, however it is cut.
use Rattle.std.proofs.Common.{◌≡◌, ℕ, List, [], ◌∷◌, ◌++◌, length, drop, Result, Ok, Err, refl, sym, ap, subst, ◌∙◌, append_assoc}
use Rattle.std.proofs.lemmas.List.{append-nil, drop_at}
use Rattle.frames.specs.declared.fault.FrameFault.{FrameFault}
use Rattle.frames.specs.Cutting.{Cuts, Begins, Call, Calls, IsDone, fed_by, given_by}
use Rattle.frames.specs.Cutting.Call.{fed, gave}
use Rattle.frames.specs.Frame.{Frame}
use Rattle.frames.specs.Reading.{read}
use Rattle.frames.proofs.FrameAgrees.{read_again}
use Rattle.frames.proofs.Streams.{prefix_free}

-- more bytes behind a frame
cuts_behind : (f : Frame) (old new more : List ℕ) → Cuts f old new → Cuts f (old ++ more) (new ++ more)
cuts_behind f old new more c = record {
  spelling = c.spelling;
  spelled = c.spelled;
  parts = ap (λ s. s ++ more) c.parts ∙ append_assoc c.spelling new more;
}

-- what was given, and what is left, is what was fed behind the bytes before
pub given_begin : (calls : List Call) (old new : List ℕ) → Calls calls old new → Begins (given_by calls) (old ++ fed_by calls) new
given_begin [] old new c = append-nil old ∙ c
given_begin (fed piece ∷ calls) old new c =
    subst (λ s. Begins (given_by calls) s new) (append_assoc old piece (fed_by calls)) (given_begin calls (old ++ piece) new c)
given_begin (gave f ∷ calls) old new c =
    (c.0 ++ fed_by calls, cuts_behind f old c.0 (fed_by calls) c.1, given_begin calls c.0 new c.2)

abbrev answer : Frame × ℕ → Result (Frame × ℕ) FrameFault
answer x = Ok x

not_both : (x : Frame × ℕ) (fault : FrameFault) → answer x ≡ Err fault → ⊥
not_both x fault e = absurd cc

-- bytes that are done do not begin with a frame
none_begins : (f : Frame) (stream after : List ℕ) → Cuts f stream after → IsDone stream → ⊥
none_begins f stream after c d =
    not_both (f, length c.spelling) d.0 (sym (read_again f c.spelling after c.spelled) ∙ ap read (sym c.parts) ∙ d.1)

-- one frame begins a stream, and one rest follows it
one_cut : (f g : Frame) (stream a b : List ℕ) → Cuts f stream a → Cuts g stream b → (f ≡ g) × (a ≡ b)
one_cut f g stream a b c d =
    let p = prefix_free f g c.spelling d.spelling a b c.spelled d.spelled (sym c.parts ∙ d.parts) in
    let rest : drop (length c.spelling) (c.spelling ++ a) ≡ drop (length c.spelling) (d.spelling ++ b) =
    ap (drop (length c.spelling)) (sym c.parts ∙ d.parts) in
    (p.1, sym (drop_at c.spelling a (length c.spelling) refl) ∙ rest ∙ drop_at d.spelling b (length c.spelling) (ap length (sym p.0)))

-- one list of frames begins a stream, up to what no frame begins
pub one_list : (fs gs : List Frame) (stream a b : List ℕ) → Begins fs stream a → Begins gs stream b → IsDone a → IsDone b → (fs ≡ gs) × (a ≡ b)
one_list [] [] stream a b p q d e = (refl, sym p ∙ q)
one_list [] (g ∷ gs) stream a b p q d e = absurd (none_begins g stream q.0 q.1 (subst IsDone (sym p) d))
one_list (f ∷ fs) [] stream a b p q d e = absurd (none_begins f stream p.0 p.1 (subst IsDone (sym q) e))
one_list (f ∷ fs) (g ∷ gs) stream a b p q d e =
    let one = one_cut f g stream p.0 q.0 p.1 q.1 in
    let more = one_list fs gs p.0 a b p.2 (subst (λ s. Begins gs s b) (sym one.1) q.2) d e in
    (rw (one.0, more.0) refl, more.1)

-- two cuttings of one stream
pub one_stream :
    (cs ds : List Call) (a b : List ℕ) → Calls cs [] a → Calls ds [] b → fed_by cs ≡ fed_by ds → IsDone a → IsDone b → (given_by cs ≡ given_by ds) × (a ≡ b)
one_stream cs ds a b p q s d e =
    one_list (given_by cs) (given_by ds) (fed_by cs) a b (given_begin cs [] a p) (subst (λ t. Begins (given_by ds) t b) (sym s) (given_begin ds [] b q)) d e
