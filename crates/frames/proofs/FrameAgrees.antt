-- A frame is read as it is spelled.
use Rattle.std.proofs.Common.{◌≡◌, ℕ, ◌+◌, ◌<◌, ◌≤◌, Bool, true, false, cond, List, [], ◌∷◌, ◌++◌, length}
use Rattle.std.proofs.Common.{take, drop, Result, Ok, Err, refl, sym, ap, subst, ◌∙◌, append_assoc, arith}
use Rattle.std.specs.Prelude.{IsTrue, nat_lt, nat_le}
use Rattle.std.specs.Int.{w32, w64, to_be_bytes, from_be_bytes}
use Rattle.std.specs.List.{AllByRecursion}
use Rattle.std.proofs.lemmas.Bool.{ltb-false, le-ltb}
use Rattle.std.proofs.lemmas.Bool.Decides.{nat_tests}
use Rattle.std.proofs.lemmas.List.{append-nil, take_at, drop_at, take-append-drop, length-append, length-take}
use Rattle.std.proofs.lemmas.Nat.{be_bytes_4, from_be_bytes-to_be_bytes_4}
use Rattle.node_names.specs.declared.ids.Origin.{Origin}
use Rattle.node_names.specs.declared.ids.MsgId.{MsgId}
use Rattle.protocol.specs.declared.TheConstants.{MAX_PAYLOAD}
use Rattle.frames.specs.declared.TheConstants.{MAX_ANNOUNCEMENTS, MAX_BODY, MAX_NAMES}
use Rattle.frames.specs.declared.body.BodyOf.TheVariants as body
use Rattle.frames.specs.declared.fault.FrameFault.{FrameFault}
use Rattle.frames.specs.declared.fault.FrameFault.TheVariants.{Short, TooLong}
use Rattle.frames.specs.declared.body.Kind.{Kind}
use Rattle.frames.specs.declared.body.Kind.TheVariants.{Join, ForwardJoin, Neighbor, NeighborReply, Disconnect}
use Rattle.frames.specs.declared.body.Kind.TheVariants.{Shuffle, ShuffleReply, Gossip, IHave, Graft, Prune, GraftPeer}
use Rattle.frames.specs.Body.{Body}
use Rattle.frames.specs.Field.{Holds, origin_octets, IsNumber, IsOrigin, IsAnnouncement}
use Rattle.frames.specs.Frame.{Frame, IsFrame, has_good_fields, has_good_counts, are_numbered}
use Rattle.frames.specs.Grammar.{fields_of, layout, spelled, IsSpelling}
use Rattle.frames.specs.Kind.{kind_of, number_of, version_of}
use Rattle.frames.specs.Reading.{Reader, ◌>>=◌, done, kind, origin, number, fields, end, alone, frame, with_length, body_of, read}
use Rattle.frames.proofs.Agree.{IsBytes, IsBytes-after, IsBytes-before, bind_ok, takes_first, again_first, done_is}
use Rattle.frames.proofs.FieldsAgree.{origin_agrees, number_agrees}
use Rattle.frames.proofs.RowsAgree.{Row, fields_take, fields_again, version_agrees, version_again_of, kind_agrees}

ends_is : {X : Type 0} (y x : X) (after rest : List ℕ) → (end >>= λ _. done y) after ≡ Ok (x, rest) → (y ≡ x) × (after ≡ []) × (rest ≡ [])
unfolding end
ends_is y x [] rest e = let d = done_is y x [] rest e in (d.0, refl, sym d.1)
ends_is y x (c ∷ after) rest e = absurd cc

-- what is read alone is read, and nothing is left
alone_is : {X : Type 0} (r : Reader X) (bytes : List ℕ) (x : X) (rest : List ℕ) → alone r bytes ≡ Ok (x, rest) → (r bytes ≡ Ok (x, [])) × (rest ≡ [])
unfolding alone
alone_is {X = X} r bytes x rest e =
    let b = bind_ok (r bytes) (λ y. end >>= λ _. done y) (x, rest) e in
    let d = ends_is b.0.0 x b.0.1 rest b.2 in
    (b.1 ∙ ap (λ (z : X). Ok (z, b.0.1)) d.0 ∙ ap (λ (t : List ℕ). Ok (x, t)) d.1, d.2)

alone_again : {X : Type 0} (r : Reader X) (bytes : List ℕ) (x : X) → r bytes ≡ Ok (x, []) → alone r bytes ≡ Ok (x, [])
unfolding alone end
alone_again r bytes x e = rw e refl

-- the bytes are the whole body of a frame
pub record IsWhole (bytes : List ℕ) (f : Frame) (rest : List ℕ) : Type 0 where
  pub parts : bytes ≡ spelled (layout f)
  pub fits : AllByRecursion Holds (layout f)
  pub nothing : rest ≡ []

number_small : (k : Kind) → number_of k < 256
number_small Join = omega arith
number_small ForwardJoin = omega arith
number_small Neighbor = omega arith
number_small NeighborReply = omega arith
number_small Disconnect = omega arith
number_small Shuffle = omega arith
number_small ShuffleReply = omega arith
number_small Gossip = omega arith
number_small IHave = omega arith
number_small Graft = omega arith
number_small Prune = omega arith
number_small GraftPeer = omega arith

version_small : (k : Kind) → version_of k < 256
version_small Join = omega arith
version_small ForwardJoin = omega arith
version_small Neighbor = omega arith
version_small NeighborReply = omega arith
version_small Disconnect = omega arith
version_small Shuffle = omega arith
version_small ShuffleReply = omega arith
version_small Gossip = omega arith
version_small IHave = omega arith
version_small Graft = omega arith
version_small Prune = omega arith
version_small GraftPeer = omega arith

abbrev frame_of : Origin → ℕ → Body → Frame
frame_of o n b = record { sender = o; number = n; body = b }

frame_parts : (bytes a b c d : List ℕ) (w : ℕ) (k : Kind) (o : Origin) (n : ℕ) (v : Body) →
    bytes ≡ (w ∷ []) ++ a →
    version_of k ≡ w →
    a ≡ (number_of k ∷ []) ++ b →
    b ≡ origin_octets o ++ c →
    c ≡ to_be_bytes w64 n ++ d
    → Row k d v [] → IsOrigin o → IsNumber n → IsWhole bytes (frame_of o n v) []
frame_parts bytes a b c d w k o n v p of q r s row oh nh = record {
  parts =
      p
      ∙ ap (λ j. j ∷ a) (sym of ∙ ap version_of (sym row.kind))
      ∙ ap (λ t. version_of (kind_of v) ∷ t) (q ∙ ap (λ j. number_of j ∷ b) (sym row.kind) ∙ ap (λ t. number_of (kind_of v) ∷ t)
      (r ∙ ap (λ t. origin_octets o ++ t) (s ∙ ap (λ t. to_be_bytes w64 n ++ t) (row.parts ∙ append-nil (spelled (fields_of v))))));
  fits = (version_small (kind_of v), (number_small (kind_of v), (oh, (nh, row.fits))));
  nothing = refl;
}

whole_of : (bytes t rest : List ℕ) (g f : Frame) → IsWhole bytes g [] → g ≡ f → t ≡ [] → t ≡ rest → IsWhole bytes f rest
whole_of bytes t rest g f w e p q = subst (λ s. IsWhole bytes f s) (sym p ∙ q) (subst (λ h. IsWhole bytes h []) e w)

pub frame_takes : (bytes : List ℕ) (f : Frame) (rest : List ℕ) → IsBytes bytes → frame bytes ≡ Ok (f, rest) → IsWhole bytes f rest
unfolding frame
frame_takes bytes f rest h e =
    let p =
    takes_first version_agrees (λ w. kind w >>= λ k. origin >>= λ o. number >>= λ n. alone (fields k) >>= λ v. done (frame_of o n v)) bytes f rest h e in
    let q =
    takes_first (kind_agrees p.value)
    (λ k. origin >>= λ o. number >>= λ n. alone (fields k) >>= λ v. done (frame_of o n v)) p.after f rest p.bytes_after p.then' in
    let r = takes_first origin_agrees (λ o. number >>= λ n. alone (fields q.value) >>= λ v. done (frame_of o n v)) q.after f rest q.bytes_after q.then' in
    let s = takes_first number_agrees (λ n. alone (fields q.value) >>= λ v. done (frame_of r.value n v)) r.after f rest r.bytes_after r.then' in
    let b = bind_ok (alone (fields q.value) s.after) (λ v. done (frame_of r.value s.value v)) (f, rest) s.then' in
    let a = alone_is (fields q.value) s.after b.0.0 b.0.1 b.1 in
    let d = done_is (frame_of r.value s.value b.0.0) f b.0.1 rest b.2 in
    let row = fields_take q.value s.after b.0.0 [] s.bytes_after a.0 in
    let whole =
    frame_parts bytes p.after q.after r.after s.after p.value q.value r.value s.value b.0.0 p.parts q.fits q.parts r.parts s.parts row r.fits s.fits in
    whole_of bytes b.0.1 rest (frame_of r.value s.value b.0.0) f whole d.0 a.1 d.1

pub frame_again : (f : Frame) → AllByRecursion Holds (layout f) → frame (spelled (layout f)) ≡ Ok (f, [])
unfolding frame
frame_again f h =
    let rows : fields (kind_of f.body) (spelled (fields_of f.body)) ≡ Ok (f.body, []) =
    ap (fields (kind_of f.body)) (sym (append-nil (spelled (fields_of f.body)))) ∙ fields_again f.body [] h.1.1.1.1 in
    again_first version_agrees
    (λ w. kind w >>= λ k. origin >>= λ o. number >>= λ n. alone (fields k) >>= λ v. done (frame_of o n v))
    (version_of (kind_of f.body))
    ((number_of (kind_of f.body) ∷ []) ++ (origin_octets f.sender ++ (to_be_bytes w64 f.number ++ spelled (fields_of f.body))))
    (version_again_of (kind_of f.body))
    ∙ again_first (kind_agrees (version_of (kind_of f.body))) (λ k. origin >>= λ o. number >>= λ n. alone (fields k) >>= λ v. done (frame_of o n v))
    (kind_of f.body) (origin_octets f.sender ++ (to_be_bytes w64 f.number ++ spelled (fields_of f.body))) refl
    ∙ again_first origin_agrees (λ o. number >>= λ n. alone (fields (kind_of f.body)) >>= λ v. done (frame_of o n v)) f.sender
    (to_be_bytes w64 f.number ++ spelled (fields_of f.body)) h.1.1.0
    ∙ again_first number_agrees (λ n. alone (fields (kind_of f.body)) >>= λ v. done (frame_of f.sender n v)) f.number (spelled (fields_of f.body)) h.1.1.1.0
    ∙ rw (alone_again (fields (kind_of f.body)) (spelled (fields_of f.body)) f.body rows) refl

-- ---- what is read is within its limits

positive : (n : ℕ) → 0 < n → nat_lt 0 n ≡ true
positive n h = grind (arith, nat_tests)

at_most : (n m : ℕ) → n ≤ m → nat_le n m ≡ true
at_most n m h = grind (arith, nat_tests)

numbered_all : (entries : List (MsgId × ℕ)) → AllByRecursion IsAnnouncement entries → IsTrue (are_numbered entries)
numbered_all [] h = refl
numbered_all (e ∷ es) h =
    let here : nat_lt 0 e.0.seq ≡ true = positive e.0.seq h.0.id.seq.positive in
    rw here (numbered_all es h.1)

pub fields_good : (b : Body) → AllByRecursion Holds (fields_of b) → IsTrue (has_good_fields b)
fields_good body.Join h = refl
fields_good (body.ForwardJoin new ttl) h = refl
fields_good (body.Neighbor high) h = refl
fields_good (body.NeighborReply accepted) h = refl
fields_good body.Disconnect h = refl
fields_good (body.Shuffle from ttl ns) h = refl
fields_good (body.ShuffleReply ns) h = refl
fields_good (body.Gossip i round bs) h = rw (positive i.seq h.0.seq.positive, at_most (length bs) MAX_PAYLOAD h.1.1.0) refl
fields_good (body.IHave entries) h = numbered_all entries h.0.2
fields_good (body.Graft i round) h = positive i.seq h.0.seq.positive
fields_good body.Prune h = refl
fields_good body.GraftPeer h = refl

pub counts_good : (b : Body) → AllByRecursion Holds (fields_of b) → IsTrue (has_good_counts b)
counts_good body.Join h = refl
counts_good (body.ForwardJoin new ttl) h = refl
counts_good (body.Neighbor high) h = refl
counts_good (body.NeighborReply accepted) h = refl
counts_good body.Disconnect h = refl
counts_good (body.Shuffle from ttl ns) h = at_most (length ns) MAX_NAMES h.1.1.0.0
counts_good (body.ShuffleReply ns) h = at_most (length ns) MAX_NAMES h.0.0
counts_good (body.Gossip i round bs) h = refl
counts_good (body.IHave entries) h = rw (positive (length entries) (omega (arith, h.0)), at_most (length entries) MAX_ANNOUNCEMENTS h.0.1) refl
counts_good (body.Graft i round) h = refl
counts_good body.Prune h = refl
counts_good body.GraftPeer h = refl

pub layout_within : (f : Frame) → AllByRecursion Holds (layout f) → IsFrame f
layout_within f h = record {
  numbered = h.1.1.1.0.positive;
  fields = fields_good f.body h.1.1.1.1;
  counts = counts_good f.body h.1.1.1.1;
}

-- ---- a whole frame, behind its length

guard_then : {A : Type 0} (b : Bool) (d : FrameFault) (r : Result A FrameFault) (y : A) → cond b (Err d) r ≡ Ok y → (b ≡ false) × (r ≡ Ok y)
guard_then true d r y e = absurd cc
guard_then false d r y e = (refl, e)

abbrev answer : Frame × ℕ → Result (Frame × ℕ) FrameFault
answer x = Ok x

pair_is : (x y : Frame × ℕ) → answer x ≡ answer y → x ≡ y
pair_is x y e = cc

length_is : (m n : ℕ) (f : Frame) (r : Result (Frame × List ℕ) FrameFault) → with_length m r ≡ Ok (f, n) → (rest : List ℕ) × (r ≡ Ok (f, rest)) × (m ≡ n)
length_is m n f (Ok x) e =
    let p = pair_is (x.0, m) (f, n) e in (x.1, ap (λ (g : Frame). Ok (g, x.1)) (ap (λ (q : Frame × ℕ). q.0) p), ap (λ (q : Frame × ℕ). q.1) p)
length_is m n f (Err d) e = absurd cc

spelling_from : (bytes word after : List ℕ) (len : ℕ) (f : Frame) (rest : List ℕ) →
    bytes ≡ word ++ after →
    length word ≡ 4 →
    to_be_bytes w32 len ≡ word →
    len ≤ length after →
    len ≤ MAX_BODY
    → IsWhole (take len after) f rest → IsSpelling f (take (4 + len) bytes) × (4 + len ≤ length bytes)
spelling_from bytes word after len f rest p l w enough few whole =
    let front = take len after in
    let size : length front ≡ len = omega (arith, length-take len after) in
    let both : length (word ++ front) ≡ 4 + len = omega (arith, length-append word front) in
    let cut : bytes ≡ (word ++ front) ++ drop len after =
    p ∙ ap (λ t. word ++ t) (sym (take-append-drop len after)) ∙ sym (append_assoc word front (drop len after)) in
    let taken : take (4 + len) bytes ≡ word ++ front = ap (take (4 + len)) cut ∙ take_at (word ++ front) (drop len after) (4 + len) both in
    let sized : length (spelled (layout f)) ≡ len = ap length (sym whole.parts) ∙ size in
    let parts : word ++ front ≡ to_be_bytes w32 (length (spelled (layout f))) ++ spelled (layout f) =
    ap (λ t. t ++ front) (sym w)
    ∙ ap (λ k. to_be_bytes w32 k ++ front) (sym sized)
    ∙ ap (λ t. to_be_bytes w32 (length (spelled (layout f))) ++ t) whole.parts in
    (record { fields = whole.fits; short = omega (arith, sized, few); parts = taken ∙ parts }, omega (arith, ap length p, length-append word after, l, enough))

-- what a body of a length that was read comes from
record Bodied (len : ℕ) (after : List ℕ) (f : Frame) (n : ℕ) : Type 0 where
  rest : List ℕ
  few : len ≤ MAX_BODY
  enough : len ≤ length after
  whole : frame (take len after) ≡ Ok (f, rest)
  size : 4 + len ≡ n

body_takes : (len : ℕ) (after : List ℕ) (f : Frame) (n : ℕ) → body_of len after ≡ Ok (f, n) → Bodied len after f n
unfolding body_of
body_takes len after f n e =
    let g = guard_then (nat_lt MAX_BODY len) TooLong _ (f, n) e in
    let h = guard_then (nat_lt (length after) len) Short _ (f, n) g.1 in
    let w = length_is (4 + len) n f (frame (take len after)) h.1 in
    record { rest = w.0; few = ltb-false _ _ g.0; enough = ltb-false _ _ h.0; whole = w.1; size = w.2 }

pub read_takes : (bytes : List ℕ) (f : Frame) (n : ℕ) → IsBytes bytes → read bytes ≡ Ok (f, n) → IsSpelling f (take n bytes) × (n ≤ length bytes)
unfolding read
read_takes bytes f n h e =
    let g = guard_then (nat_lt (length bytes) 4) Short (body_of (from_be_bytes w32 (take 4 bytes)) (drop 4 bytes)) (f, n) e in
    let long : 4 ≤ length bytes = ltb-false _ _ g.0 in
    let b = body_takes (from_be_bytes w32 (take 4 bytes)) (drop 4 bytes) f n g.1 in
    let cut : bytes ≡ take 4 bytes ++ drop 4 bytes = sym (take-append-drop 4 bytes) in
    let l : length (take 4 bytes) ≡ 4 = omega (arith, length-take 4 bytes) in
    let small = IsBytes-before (take 4 bytes) (drop 4 bytes) bytes cut h in
    let after = IsBytes-after (take 4 bytes) (drop 4 bytes) bytes cut h in
    let front =
    IsBytes-before (take (from_be_bytes w32 (take 4 bytes)) (drop 4 bytes)) (drop (from_be_bytes w32 (take 4 bytes)) (drop 4 bytes))
    (drop 4 bytes) (sym (take-append-drop (from_be_bytes w32 (take 4 bytes)) (drop 4 bytes))) after in
    let whole = frame_takes (take (from_be_bytes w32 (take 4 bytes)) (drop 4 bytes)) f b.rest front b.whole in
    subst (λ k. IsSpelling f (take k bytes) × (k ≤ length bytes)) b.size
    (spelling_from bytes (take 4 bytes) (drop 4 bytes) (from_be_bytes w32 (take 4 bytes)) f b.rest cut l
    (be_bytes_4 (take 4 bytes) _ l small refl) b.enough b.few whole)

body_again : (f : Frame) (rest : List ℕ) →
    AllByRecursion Holds (layout f) →
    length (spelled (layout f)) ≤ MAX_BODY →
    body_of (length (spelled (layout f))) (spelled (layout f) ++ rest) ≡ Ok (f, 4 + length (spelled (layout f)))
unfolding body_of
body_again f rest h few =
    let long : nat_lt MAX_BODY (length (spelled (layout f))) ≡ false = le-ltb _ _ few in
    let enough : nat_lt (length (spelled (layout f) ++ rest)) (length (spelled (layout f))) ≡ false =
    le-ltb _ _ (omega (arith, length-append (spelled (layout f)) rest)) in
    rw (long, enough, take_at (spelled (layout f)) rest (length (spelled (layout f))) refl, frame_again f h) refl

read_of : (bytes word after : List ℕ) (len : ℕ) → bytes ≡ word ++ after → length word ≡ 4 → from_be_bytes w32 word ≡ len → read bytes ≡ body_of len after
unfolding read
read_of bytes word after len p l is =
    let long : nat_lt (length bytes) 4 ≡ false = le-ltb _ _ (omega (arith, ap length p, length-append word after)) in
    let front : take 4 bytes ≡ word = ap (take 4) p ∙ take_at word after 4 l in
    let back : drop 4 bytes ≡ after = ap (drop 4) p ∙ drop_at word after 4 l in
    rw long (ap (λ t. body_of (from_be_bytes w32 t) (drop 4 bytes)) front ∙ ap (λ k. body_of k (drop 4 bytes)) is ∙ ap (body_of len) back)

pub read_again : (f : Frame) (spelling rest : List ℕ) → IsSpelling f spelling → read (spelling ++ rest) ≡ Ok (f, length spelling)
read_again f spelling rest s =
    let b = spelled (layout f) in
    let word = to_be_bytes w32 (length (spelled (layout f))) in
    let parts : spelling ++ rest ≡ to_be_bytes w32 (length (spelled (layout f))) ++ (spelled (layout f) ++ rest) =
    ap (λ t. t ++ rest) s.parts ∙ append_assoc (to_be_bytes w32 (length (spelled (layout f)))) (spelled (layout f)) rest in
    let again : from_be_bytes w32 (to_be_bytes w32 (length (spelled (layout f)))) ≡ length (spelled (layout f)) =
    from_be_bytes-to_be_bytes_4 (length (spelled (layout f))) (omega (arith, s.short)) in
    let size : 4 + length (spelled (layout f)) ≡ length spelling =
    sym (ap length s.parts ∙ length-append (to_be_bytes w32 (length (spelled (layout f)))) (spelled (layout f))) in
    read_of (spelling ++ rest) (to_be_bytes w32 (length (spelled (layout f)))) (spelled (layout f) ++ rest) (length (spelled (layout f))) parts refl again
    ∙ body_again f rest s.fields s.short ∙ ap (λ k. Ok (f, k)) size
