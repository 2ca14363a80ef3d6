-- The text of a connection is read as it was written.
use Rattle.std.proofs.Common.{◌≡◌, ℕ, zero, suc, ◌-◌, ◌<◌, ◌≤◌, Bool, true, false, eqb, ltb, List, []}
use Rattle.std.proofs.Common.{◌∷◌, ◌++◌, length, drop, map, Some, None, Ok, refl, sym, ap, ◌∙◌, arith}
use Rattle.std.specs.Prelude.{◌||◌, All}
use Rattle.std.specs.Int.{to_be_bytes, w16}
use Rattle.std.specs.List.{flat_map}
use Rattle.std.proofs.Math.Dec.{eqb-suc-zero}
use Rattle.std.proofs.lemmas.Bool.{le-ltb, lt-ltb}
use Rattle.std.proofs.lemmas.List.{drop_all, length-append}
use Rattle.handshake.specs.declared.TheConstants.{MAX_HELLO, MAX_INTRODUCTION}
use Rattle.handshake.specs.declared.address.Address.{Address}
use Rattle.handshake.specs.declared.address.Address.TheVariants.{V4, V6}
use Rattle.handshake.specs.declared.hello.Hello.{Hello}
use Rattle.handshake.specs.declared.introduction.Introduction.{Introduction}
use Rattle.handshake.specs.declared.place.Place.TheVariants.{Boundary}
use Rattle.handshake.specs.declared.record.Record.{Record}
use Rattle.handshake.specs.declared.record.Record.TheVariants as Told
use Rattle.handshake.specs.Connection.{IsFrame, IsPart, Part, connection_text, connection_yields, framed, introduced, opened, part_text, part_yields}
use Rattle.handshake.specs.Inbound.{and_then, answered, frame_byte, gave, run, start, with_yields}
use Rattle.handshake.specs.Judging.{judged, kind_of, max_text, read_record, told}
use Rattle.handshake.specs.Place as place
use Rattle.handshake.specs.Records.{IsIntroduction, hello_record, introduction_record, introduction_text}
use Rattle.handshake.specs.State.{State}
use Rattle.handshake.specs.Text.{IsAddress, IsHello, address_text, name_text, text}
use Rattle.handshake.proofs.Judged.{read_record_again}
use Rattle.handshake.proofs.Runs.{first_of, frames_run, none_before, record_runs, run-append}
use Rattle.handshake.proofs.Strides.{body_after, body_frames}

-- ---- a record that is no frame

-- the bytes so far of a record
abbrev pub at : Bool → List ℕ → State
at is_open kept = record { is_open = is_open; place = Boundary; kept = kept }

-- a length that a text may have
right_len : (max len : ℕ) → 0 < len → len ≤ max → (eqb len 0 || ltb max len) ≡ false
right_len max zero some few = absurd (omega arith)
right_len max (suc n) some few =
    let not_zero = eqb-suc-zero n in
    let fits : ltb max (suc n) ≡ false = le-ltb _ _ few in
    rw (not_zero, fits) refl

first_more : (is_open : Bool) → judged is_open (kind_of is_open ∷ []) ≡ Ok None
first_more false = refl
first_more true = refl

second_more : (is_open : Bool) (len : ℕ) → 0 < len → len ≤ max_text is_open → judged is_open (kind_of is_open ∷ len ∷ []) ≡ Ok None
second_more false len some few =
    let right = right_len MAX_HELLO len some few in
    let short : ltb 0 len ≡ true = lt-ltb _ _ some in
    rw (right, short) refl
second_more true len some few =
    let right = right_len MAX_INTRODUCTION len some few in
    let short : ltb 0 len ≡ true = lt-ltb _ _ some in
    rw (right, short) refl

all_given : (is_open : Bool) (len : ℕ) (bytes : List ℕ) (r : Record) →
    length bytes ≡ len →
    0 < len →
    len ≤ max_text is_open →
    read_record is_open bytes ≡ Ok r →
    judged is_open (kind_of is_open ∷ len ∷ bytes) ≡ Ok (Some r)
all_given false len bytes r is some few reads =
    let right = right_len MAX_HELLO len some few in
    let whole : ltb (length bytes) len ≡ false = le-ltb _ _ (omega arith) in
    rw (right, whole) (ap told reads)
all_given true len bytes r is some few reads =
    let right = right_len MAX_INTRODUCTION len some few in
    let whole : ltb (length bytes) len ≡ false = le-ltb _ _ (omega arith) in
    rw (right, whole) (ap told reads)

-- the first byte begins no frame, and later ones are no longer at a boundary
first_other : (is_open : Bool) → first_of (at is_open []) (kind_of is_open) ≡ false
first_other false = refl
first_other true = refl

second_other : (is_open : Bool) (kind b : ℕ) → first_of (at is_open (kind ∷ [])) b ≡ false
second_other false kind b = refl
second_other true kind b = refl

third_other : (is_open : Bool) (kind len b : ℕ) → first_of (at is_open (kind ∷ len ∷ [])) b ≡ false
third_other false kind len b = refl
third_other true kind len b = refl

-- where more bytes have to come, they are read from there
pub goes_on_from : (s next : State) (bytes rest : List ℕ) → run s bytes ≡ Ok (next, []) → run s (bytes ++ rest) ≡ run next rest
goes_on_from s next bytes rest e = run-append s bytes rest ∙ ap (λ r. and_then r (λ t. run t rest)) e ∙ none_before (run next rest)

pub kind_read : (is_open : Bool) → run (at is_open []) (kind_of is_open ∷ []) ≡ Ok (at is_open (kind_of is_open ∷ []), [])
kind_read is_open =
    let s : State = at is_open [] in
    record_runs s (kind_of is_open) [] (first_other is_open) refl (omega arith) ∙ ap (answered s (kind_of is_open ∷ [])) (first_more is_open)

len_read : (is_open : Bool) (len : ℕ) →
    0 < len →
    len ≤ max_text is_open →
    run (at is_open (kind_of is_open ∷ [])) (len ∷ []) ≡ Ok (at is_open (kind_of is_open ∷ len ∷ []), [])
len_read is_open len some few =
    let s : State = at is_open (kind_of is_open ∷ []) in
    record_runs s len [] (second_other is_open (kind_of is_open) len) (first_more is_open) (omega arith)
    ∙ ap (answered s (kind_of is_open ∷ len ∷ [])) (second_more is_open len some few)

text_read : (is_open : Bool) (len : ℕ) (bytes : List ℕ) (r : Record) →
    length bytes ≡ len →
    0 < len →
    len ≤ max_text is_open →
    read_record is_open bytes ≡ Ok r →
    run (at is_open (kind_of is_open ∷ len ∷ [])) bytes ≡ Ok (opened, gave r ∷ [])
text_read is_open len [] r is some few reads = absurd (omega arith)
text_read is_open len (b ∷ bytes) r is some few reads =
    let s : State = at is_open (kind_of is_open ∷ len ∷ []) in
    record_runs s b bytes (third_other is_open (kind_of is_open) len b) (second_more is_open len some few) (omega (arith, is))
    ∙ ap (answered s (kind_of is_open ∷ len ∷ b ∷ bytes)) (all_given is_open len (b ∷ bytes) r is some few reads)

record_read : (is_open : Bool) (bytes : List ℕ) (r : Record) → 0 < length bytes → length bytes ≤ max_text is_open → read_record is_open bytes ≡ Ok r
    → run (at is_open []) (kind_of is_open ∷ length bytes ∷ bytes) ≡ Ok (opened, gave r ∷ [])
record_read is_open bytes r some few reads =
    let kind = kind_of is_open in
    goes_on_from (at is_open []) (at is_open (kind ∷ [])) (kind ∷ []) (length bytes ∷ bytes) (kind_read is_open)
    ∙ goes_on_from (at is_open (kind ∷ [])) (at is_open (kind ∷ length bytes ∷ [])) (length bytes ∷ []) bytes (len_read is_open (length bytes) some few)
    ∙ text_read is_open (length bytes) bytes r refl some few reads

-- ---- the lengths of texts

address_fits : (a : Address) → IsAddress a → length (address_text a) ≤ 19
address_fits (V4 octets port) h = omega (arith, h.0, length-append octets (to_be_bytes w16 port))
address_fits (V6 octets port) h = omega (arith, h.0, length-append octets (to_be_bytes w16 port))

hello_fits : (h : Hello) → IsHello h → length (text h) ≤ MAX_HELLO
hello_fits h i =
    let label = i.label.short in
    let to = i.to.short in
    let name = i.name.short in
    let last = length-append (name_text h.name) (address_text h.at) in
    let more = length-append (name_text h.to) (name_text h.name ++ address_text h.at) in
    let all = length-append (name_text h.label) (name_text h.to ++ (name_text h.name ++ address_text h.at)) in
    omega (arith, address_fits h.at i.at, last, more, all, label, to, name)

introduction_fits : (i : Introduction) → IsIntroduction i → length (introduction_text i) ≤ MAX_INTRODUCTION
introduction_fits i h = omega (arith, address_fits i.at h.at, length-append (length i.name ∷ i.name) (address_text i.at), h.name.short)

hello_read : (h : Hello) → IsHello h → run start (hello_record h) ≡ Ok (opened, gave (Told.Hello h) ∷ [])
hello_read h i = record_read false (text h) (Told.Hello h) (omega arith) (hello_fits h i) (read_record_again false (Told.Hello h) i)

introduction_read : (i : Introduction) → IsIntroduction i → run opened (introduction_record i) ≡ Ok (opened, gave (Told.Introduction i) ∷ [])
introduction_read i h =
    record_read true (introduction_text i) (Told.Introduction i) (omega arith) (introduction_fits i h) (read_record_again true (Told.Introduction i) h)

-- ---- frames

-- a whole body ends at a boundary
whole_body : (n : ℕ) (body : List ℕ) → n ≡ length body → place.after (place.body n) body ≡ Boundary
whole_body n body is =
    let none : n - n ≡ 0 = omega arith in
    body_after n n body (omega arith) (omega arith)
    ∙ ap (λ k. place.after (place.body k) (drop n body)) none
    ∙ ap (place.after Boundary) (drop_all n body (omega arith))

whole_count : (n : ℕ) (body : List ℕ) → n ≡ length body → place.frames (place.body n) body ≡ length body
whole_count n body is =
    let none : n - n ≡ 0 = omega arith in
    let left : place.frames (place.body (n - n)) (drop n body) ≡ 0 =
    ap (λ k. place.frames (place.body k) (drop n body)) none ∙ ap (place.frames Boundary) (drop_all n body (omega arith)) in
    omega (arith, body_frames n n body (omega arith) (omega arith), left)

frame_ends : (bytes : List ℕ) → IsFrame bytes → place.after Boundary bytes ≡ Boundary
frame_ends bytes f = ap (place.after Boundary) f.parts ∙ whole_body _ f.body f.len

frame_counts : (bytes : List ℕ) → IsFrame bytes → place.frames Boundary bytes ≡ length bytes
frame_counts bytes f =
    let body = whole_count _ f.body f.len in
    ap (place.frames Boundary) f.parts ∙ ap (λ n. suc (suc (suc (suc n)))) body ∙ ap length (sym f.parts)

frame_read : (bytes : List ℕ) → IsFrame bytes → run opened bytes ≡ Ok (opened, map frame_byte bytes)
frame_read bytes f =
    frames_run opened bytes (frame_counts bytes f) ∙ ap (λ p. Ok (record opened { place = p }, map frame_byte bytes)) (frame_ends bytes f)

-- ---- and all of them

part_read : (part : Part) → IsPart part → run opened (part_text part) ≡ Ok (opened, part_yields part)
part_read (introduced i) h = introduction_read i h
part_read (framed bytes) f = frame_read bytes f

parts_read : (parts : List Part) → All IsPart parts → run opened (flat_map part_text parts) ≡ Ok (opened, flat_map part_yields parts)
parts_read [] all = refl
parts_read (part ∷ parts) all =
    let rest : List ℕ = flat_map part_text parts in
    run-append opened (part_text part) rest
    ∙ ap (λ r. and_then r (λ t. run t rest)) (part_read part (all 0 part (omega arith)))
    ∙ ap (with_yields (part_yields part)) (parts_read parts (λ k d lt. all (suc k) d (omega arith)))

pub connection_read : (h : Hello) (parts : List Part) →
    IsHello h →
    All IsPart parts →
    run start (connection_text h parts) ≡ Ok (opened, connection_yields h parts)
connection_read h parts i all =
    let rest : List ℕ = flat_map part_text parts in
    run-append start (hello_record h) rest
    ∙ ap (λ r. and_then r (λ t. run t rest)) (hello_read h i)
    ∙ ap (with_yields (gave (Told.Hello h) ∷ [])) (parts_read parts all)
