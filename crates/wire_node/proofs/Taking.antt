-- Frames that are taken one after the other.
use Rattle.std.proofs.Common.{◌≡◌, inl, inr, ◌<◌, ◌+◌, ℕ, List, [], ◌∷◌, ◌++◌, length, map, take, drop}
use Rattle.std.proofs.Common.{Option, Some, None, refl, ap, sym, subst, ◌∙◌, append_assoc, arith}
use Rattle.std.specs.Int.{w32, to_be_bytes}
use Rattle.std.specs.Prelude.{IfNone, IfSome}
use Rattle.std.proofs.lemmas.List.{append-nil, drop-drop, drop_all, length-append, map-append, take-append-drop}
use Rattle.node_names.specs.NodeName.{Name}
use Rattle.node_names.specs.declared.dice.Dice.{Dice}
use Rattle.frames.specs.Answer.{IsFaultOf}
use Rattle.frames.specs.Cutting.{Begins, Cuts}
use Rattle.frames.specs.Frame.{Frame}
use Rattle.frames.specs.Grammar.{IsSpelling, layout, spelled}
use Rattle.frames.specs.Reading.{read}
use Rattle.frames.specs.declared.fault.FrameFault.TheVariants.{OutOfMemory, Short}
use Rattle.wire_node.specs.Moving.{Engine, Move, Moves, MovesAll, arrival}
use Rattle.wire_node.specs.Receiving.{AreDealt, Draws, IsPartial, Taken, Takes, after_one, frames_of, peer_of}

-- a frame takes bytes
pub spelling_long : (f : Frame) (bytes : List ℕ) → IsSpelling f bytes → 3 < length bytes
spelling_long f bytes s = omega (arith, ap length s.parts, length-append (to_be_bytes w32 (length (spelled (layout f)))) (spelled (layout f)))

-- frames and then others
pub begins_then : (fs gs : List Frame) (stream rest after : List ℕ) → Begins fs stream rest → Begins gs rest after → Begins (fs ++ gs) stream after
begins_then [] gs stream rest after b c = subst (λ s. Begins gs s after) (sym b) c
begins_then (f ∷ fs) gs stream rest after b c = (b.0, b.1, begins_then fs gs b.0 rest after b.2 c)

-- steps and then others
pub moves_then : (old : Engine) (ss ts : List Move) (mid new : Engine) → MovesAll old ss mid → MovesAll mid ts new → MovesAll old (ss ++ ts) new
moves_then old [] ts mid new a b = subst (λ m. MovesAll m ts new) (sym a) b
moves_then old (s ∷ ss) ts mid new a b = (a.0, a.1, moves_then a.0 ss ts mid new a.2 b)

-- one step
pub moves_one : (old : Engine) (m : Move) (new : Engine) → Moves old m.0 m.1 new → MovesAll old (m ∷ []) new
moves_one old m new a = (new, a, refl)

-- the peer stays once it is known
peer_then : (p : Option Name) (fs gs : List Taken) → peer_of p (fs ++ gs) ≡ peer_of (peer_of p fs) gs
peer_then (Some p) fs gs = refl
peer_then None [] gs = refl
peer_then None (f ∷ fs) gs = refl

peer_none : (p : Option Name) → p ≡ peer_of p []
peer_none (Some p) = refl
peer_none None = refl

-- dice and then others
dealt_then : (fs gs : List Taken) (d e f : Draws) → AreDealt fs d e → AreDealt gs e f → AreDealt (fs ++ gs) d f
dealt_then [] gs d e f a b = subst (λ x. AreDealt gs x f) (sym a) b
dealt_then (t ∷ ts) gs d e f a b = (a.0, dealt_then ts gs (after_one d) e f a.1 b)

-- no frame
pub takes_none : (old : Engine) (p : Option Name) (bytes : List ℕ) (d : Draws) → Takes old p bytes d old p bytes d
takes_none old p bytes d = record { taken = []; stream = refl; moves = refl; its_peer = peer_none p; dealt = refl }

-- frames and then others
pub takes_then : (old : Engine) (p : Option Name) (bytes : List ℕ) (d : Draws) (mid : Engine)
    (q : Option Name) (rest : List ℕ) (e : Draws) (new : Engine) (r : Option Name) (after : List ℕ) (f : Draws)
    → Takes old p bytes d mid q rest e → Takes mid q rest e new r after f → Takes old p bytes d new r after f
takes_then old p bytes d mid q rest e new r after f a b = record {
  taken = a.taken ++ b.taken;
  stream =
      subst (λ fs. Begins fs bytes after) (sym (map-append (λ (t : Taken). t.0) a.taken b.taken))
      (begins_then (frames_of a.taken) (frames_of b.taken) bytes rest after a.stream b.stream);
  moves =
      subst (λ ss. MovesAll old ss new) (sym (map-append arrival a.taken b.taken))
      (moves_then old (map arrival a.taken) (map arrival b.taken) mid new a.moves b.moves);
  its_peer = b.its_peer ∙ ap (λ x. peer_of x b.taken) a.its_peer ∙ sym (peer_then p a.taken b.taken);
  dealt = dealt_then a.taken b.taken d e f a.dealt b.dealt;
}

-- one frame
pub takes_one : (old : Engine) (p : Option Name) (bytes : List ℕ) (d : Draws) (new : Engine) (q : Option Name) (rest : List ℕ) (e : Draws) (f : Frame)
    → Cuts f bytes rest → (dice : Dice) × Moves old (arrival (f, dice)).0 dice new × (q ≡ peer_of p ((f, dice) ∷ [])) × (dice ≡ d 0) → e ≡ after_one d
    → Takes old p bytes d new q rest e
takes_one old p bytes d new q rest e f c a drawn = record {
  taken = (f, a.0) ∷ [];
  stream = (rest, c, refl);
  moves = moves_one old (arrival (f, a.0)) new a.1;
  its_peer = a.2;
  dealt = (a.3, sym drawn);
}

-- a frame at a place
pub cuts_at : (f : Frame) (bytes : List ℕ) (at len : ℕ) → IsSpelling f (take len (drop at bytes)) → Cuts f (drop at bytes) (drop (at + len) bytes)
cuts_at f bytes at len s = record {
  spelling = take len (drop at bytes);
  spelled = s;
  parts = sym (take-append-drop len (drop at bytes)) ∙ ap (λ t. take len (drop at bytes) ++ t) (drop-drop len at bytes);
}

-- a frame at the front of what is left, with more behind it
pub cuts_before : (f : Frame) (left more : List ℕ) (len : ℕ) → IsSpelling f (take len left) → Cuts f (left ++ more) (drop len left ++ more)
cuts_before f left more len s = record {
  spelling = take len left;
  spelled = s;
  parts = ap (λ t. t ++ more) (sym (take-append-drop len left)) ∙ append_assoc (take len left) (drop len left) more;
}

-- a fault that is Short is that of reading
pub short_read : (bytes : List ℕ) → IsFaultOf Short (read bytes) → IsPartial bytes
short_read bytes (inl e) = e
short_read bytes (inr e) = let apart : Short ≡ OutOfMemory = e.0 in absurd cc

pub some_at : {A : Type 0} (P : A → Type 0) (o : Option A) (x : A) → o ≡ Some x → IfSome o P → P x
some_at P o x is h = subst (λ p. IfSome p P) is h

pub none_at : {A : Type 0} (P : Type 0) (o : Option A) → o ≡ None → IfNone o P → P
none_at P o is h = subst (λ p. IfNone p P) is h

-- ---- a frame that was cut

-- it is completed with the first of the bytes
pub completed : (f : Frame) (left bytes whole now : List ℕ) (count len : ℕ) →
    whole ≡ left ++ take count bytes →
    IsSpelling f (take len whole) →
    now ≡ drop len whole →
    Cuts f (left ++ bytes) (now ++ drop count bytes)
completed f left bytes whole now count len e s n =
    let parts : whole ++ drop count bytes ≡ left ++ bytes =
    ap (λ (t : List ℕ). t ++ drop count bytes) e
    ∙ append_assoc left (take count bytes) (drop count bytes)
    ∙ ap (λ (t : List ℕ). left ++ t) (take-append-drop count bytes) in
    subst (λ (t : List ℕ). Cuts f t (now ++ drop count bytes)) parts
    (subst (λ (t : List ℕ). Cuts f (whole ++ drop count bytes) (t ++ drop count bytes)) (sym n) (cuts_before f whole (drop count bytes) len s))

module _ (mid new : Engine) (p q : Option Name) (left now bytes rest : List ℕ) (at : ℕ) (from : rest ≡ drop at bytes) (d e : Draws) where
  -- and others follow from its place on
  pub resumed : (count : ℕ) →
      Takes mid p (left ++ rest) d new q (now ++ drop count rest) e →
      Takes mid p (left ++ drop at bytes) d new q (now ++ drop (at + count) bytes) e
  resumed count t =
      subst (λ (b : List ℕ). Takes mid p (left ++ drop at bytes) d new q (now ++ b) e) (drop-drop count at bytes)
      (subst (λ (b : List ℕ). Takes mid p (left ++ b) d new q (now ++ drop count b) e) from t)

  -- all that came is kept
  pub kept_all : Takes mid p (left ++ rest) d new q now e → Takes mid p (left ++ drop at bytes) d new q (now ++ drop (length bytes) bytes) e
  kept_all t =
      subst (λ (b : List ℕ). Takes mid p (left ++ drop at bytes) d new q b e)
      (sym (append-nil now) ∙ ap (λ (b : List ℕ). now ++ b) (sym (drop_all (length bytes) bytes (omega arith))))
      (subst (λ (b : List ℕ). Takes mid p (left ++ b) d new q now e) from t)

  -- nothing was left of a frame
  pub from_none : (count : ℕ) →
      left ≡ [] →
      Takes mid p rest d new q (drop count rest) e →
      Takes mid p (left ++ drop at bytes) d new q (left ++ drop (at + count) bytes) e
  from_none count none t =
      subst (λ (l : List ℕ). Takes mid p (l ++ drop at bytes) d new q (l ++ drop (at + count) bytes) e) (sym none)
      (subst (λ (b : List ℕ). Takes mid p (drop at bytes) d new q b e) (drop-drop count at bytes)
      (subst (λ (b : List ℕ). Takes mid p b d new q (drop count b) e) from t))

  -- nothing was left of a frame, and what is no whole frame yet is kept
  pub from_none_kept : (count : ℕ) (last : List ℕ) →
      left ≡ [] →
      last ≡ drop (at + count) bytes →
      now ≡ left ++ last →
      Takes mid p rest d new q (drop count rest) e
      → Takes mid p (left ++ drop at bytes) d new q (now ++ drop (length bytes) bytes) e
  from_none_kept count last none its kept t =
      let all : now ++ drop (length bytes) bytes ≡ left ++ drop (at + count) bytes =
      ap (λ (b : List ℕ). now ++ b) (drop_all (length bytes) bytes (omega arith)) ∙ append-nil now ∙ kept ∙ ap (λ (b : List ℕ). left ++ b) its in
      subst (λ (b : List ℕ). Takes mid p (left ++ drop at bytes) d new q b e) (sym all) (from_none count none t)
