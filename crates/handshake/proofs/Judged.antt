-- A record that was judged whole has exactly its bytes, and those bytes are judged to be it.
use Rattle.std.proofs.Common.{◌≡◌, ℕ, zero, suc, ◌<◌, ◌≤◌, Bool, true, false, cond, eqb, ltb, List, [], ◌∷◌, ◌++◌}
use Rattle.std.proofs.Common.{length, take, Option, Some, None, Result, Ok, Err, refl, sym, ap, subst, ◌∙◌, arith}
use Rattle.std.specs.Prelude.{◌||◌, IfOk}
use Rattle.std.proofs.lemmas.Bool.{ltb-false, ltb-true}
use Rattle.std.proofs.lemmas.Bool.Decides.{Decides-eqb}
use Rattle.std.proofs.lemmas.List.{append-nil, length-append, length-take, take_all}
use Rattle.handshake.specs.declared.error.HandshakeError.{HandshakeError}
use Rattle.handshake.specs.declared.error.HandshakeError.TheVariants as Fault
use Rattle.handshake.specs.declared.error.HelloError.{HelloError}
use Rattle.handshake.specs.declared.hello.Hello.{Hello}
use Rattle.handshake.specs.declared.introduction.Introduction.{Introduction}
use Rattle.handshake.specs.declared.record.Record.{Record}
use Rattle.handshake.specs.declared.record.Record.TheVariants as Told
use Rattle.handshake.specs.Judging.{hello_told, introduction_told, judged, judged_rest, kind_of, lacking, max_text, read_hello}
use Rattle.handshake.specs.Judging.{read_introduction, read_record, told, unknown, whole_hello, whole_introduction}
use Rattle.handshake.specs.Reading.{introduction, read}
use Rattle.handshake.specs.Records.{IsIntroduction, IsRecord, introduction_text, record_text}
use Rattle.handshake.specs.Text.{IsHello, text}
use Rattle.handshake.proofs.Agree.{IsBytes, IsBytes-after}
use Rattle.handshake.proofs.HelloAgrees.{Begins, decoded_ok, decoded_whole}
use Rattle.handshake.proofs.IntroductionAgrees.{introduction_again, introduction_takes}
use Rattle.handshake.proofs.Runs.{more_of}

-- ---- texts

-- a value that was not refused
not_refused : {X : Type 0} (good : Bool) (x y : X) (error : HandshakeError) → cond good (Ok x) (Err error) ≡ Ok y → (good ≡ true) × (x ≡ y)
not_refused true x y error e = (refl, cc)
not_refused false x y error e = absurd cc

whole_hello_is : (len : ℕ) (q : Result (Hello × ℕ) HelloError) (h : Hello) → whole_hello len q ≡ Ok h → q ≡ Ok (h, len)
whole_hello_is len (Ok x) h e =
    let t = not_refused (eqb x.1 len) x.0 h (Fault.BadLength len) e in
    let same : x.1 ≡ len = (Decides-eqb x.1 len).0 t.0 in
    λ i. Ok (t.1 i, same i)
whole_hello_is len (Err error) h e = absurd cc

read_hello_is : (bytes : List ℕ) (h : Hello) → IsBytes bytes → read_hello bytes ≡ Ok h → (bytes ≡ text h) × IsHello h
read_hello_is bytes h small e =
    let is = whole_hello_is (length bytes) (read bytes) h e in
    let begins : Begins bytes (h, length bytes) = subst (λ q. IfOk q (Begins bytes)) is (decoded_ok bytes (read bytes) small refl) in
    (sym (take_all (length bytes) bytes (omega arith)) ∙ begins.0, begins.2)

read_hello_again : (h : Hello) → IsHello h → read_hello (text h) ≡ Ok h
read_hello_again h i =
    let is = decoded_whole (text h) (read (text h)) refl h [] i (sym (append-nil (text h))) in
    let same : eqb (length (text h)) (length (text h)) ≡ true = (Decides-eqb (length (text h)) (length (text h))).1 refl in
    ap (whole_hello (length (text h))) is ∙ rw same refl

empty_rest : (rest : List ℕ) → eqb (length rest) 0 ≡ true → rest ≡ []
empty_rest [] e = refl
empty_rest (b ∷ rest) e = let l : length (b ∷ rest) ≡ 0 = (Decides-eqb (length (b ∷ rest)) 0).0 e in absurd (omega (arith, l))

whole_introduction_is : (q : Result (Introduction × List ℕ) HelloError) (i : Introduction) → whole_introduction q ≡ Ok i → q ≡ Ok (i, [])
whole_introduction_is (Ok x) i e =
    let t = not_refused (eqb (length x.1) 0) x.0 i Fault.BadIntroduction e in
    let none = empty_rest x.1 t.0 in
    λ j. Ok (t.1 j, none j)
whole_introduction_is (Err error) i e = absurd cc

read_introduction_is : (bytes : List ℕ) (i : Introduction) → IsBytes bytes → read_introduction bytes ≡ Ok i → (bytes ≡ introduction_text i) × IsIntroduction i
read_introduction_is bytes i small e =
    let t = introduction_takes bytes i [] small (whole_introduction_is (introduction bytes) i e) in
    (t.0 ∙ append-nil (introduction_text i), t.1)

read_introduction_again : (i : Introduction) → IsIntroduction i → read_introduction (introduction_text i) ≡ Ok i
read_introduction_again i h =
    let is : introduction (introduction_text i) ≡ Ok (i, []) = ap introduction (sym (append-nil (introduction_text i))) ∙ introduction_again i [] h in
    ap whole_introduction is

-- ---- records

-- the text of a record, behind its kind and its length
abbrev pub text_of : Record → List ℕ
text_of (Told.Hello h) = text h
text_of (Told.Introduction i) = introduction_text i

hello_told_is : (q : Result Hello HandshakeError) (r : Record) → hello_told q ≡ Ok r → (h : Hello) × (q ≡ Ok h) × (Told.Hello h ≡ r)
hello_told_is (Ok h) r e = (h, refl, cc)
hello_told_is (Err error) r e = absurd cc

introduction_told_is : (q : Result Introduction HandshakeError) (r : Record) →
    introduction_told q ≡ Ok r →
    (i : Introduction) × (q ≡ Ok i) × (Told.Introduction i ≡ r)
introduction_told_is (Ok i) r e = (i, refl, cc)
introduction_told_is (Err error) r e = absurd cc

-- a record of these bytes
abbrev Spells : Bool → List ℕ → Record → Type 0
Spells is_open bytes r = (kind_of is_open ∷ length bytes ∷ bytes ≡ record_text r) × IsRecord is_open r

read_record_is : (is_open : Bool) (bytes : List ℕ) (r : Record) → IsBytes bytes → read_record is_open bytes ≡ Ok r → Spells is_open bytes r
read_record_is false bytes r small e =
    let t = hello_told_is (read_hello bytes) r e in
    let h = read_hello_is bytes t.0 small t.1 in
    subst (Spells false bytes) t.2 (ap (λ b. 1 ∷ length b ∷ b) h.0, h.1)
read_record_is true bytes r small e =
    let t = introduction_told_is (read_introduction bytes) r e in
    let i = read_introduction_is bytes t.0 small t.1 in
    subst (Spells true bytes) t.2 (ap (λ b. 2 ∷ length b ∷ b) i.0, i.1)

pub read_record_again : (is_open : Bool) (r : Record) → IsRecord is_open r → read_record is_open (text_of r) ≡ Ok r
read_record_again false (Told.Hello h) i = ap hello_told (read_hello_again h i)
read_record_again false (Told.Introduction i) h = absurd h
read_record_again true (Told.Hello h) i = absurd i
read_record_again true (Told.Introduction i) h = ap introduction_told (read_introduction_again i h)

-- ---- the bytes of a record

-- no bytes stand behind the text
abbrev pub Within : List ℕ → Type 0
Within [] = Unit {0}
Within (kind ∷ []) = Unit {0}
Within (kind ∷ len ∷ bytes) = length bytes ≤ len

within_one : (n : ℕ) (bytes : List ℕ) → n ≤ 1 → Within (take n bytes)
within_one zero bytes few = tt
within_one (suc n) [] few = tt
within_one (suc zero) (b ∷ bytes) few = tt
within_one (suc (suc n)) (b ∷ bytes) few = absurd (omega arith)

within_two : (kind n : ℕ) (bytes : List ℕ) → n ≤ 1 → Within (kind ∷ take n bytes)
within_two kind zero bytes few = tt
within_two kind (suc n) [] few = tt
within_two kind (suc zero) (b ∷ bytes) few = omega arith
within_two kind (suc (suc n)) (b ∷ bytes) few = absurd (omega arith)

pub within_taken : (is_open : Bool) (kept bytes : List ℕ) (n : ℕ) → judged is_open kept ≡ Ok None → n ≤ lacking kept → Within (kept ++ take n bytes)
within_taken is_open [] bytes n e few = within_one n bytes few
within_taken is_open (kind ∷ []) bytes n e few = within_two kind n bytes few
within_taken is_open (kind ∷ len ∷ text) bytes n e few =
    let short : length text < len = ltb-true (length text) len (more_of is_open kind len text e).not_whole in
    omega (arith, length-append text (take n bytes), length-take n bytes)

-- bytes that are judged to be a record
given_text : (wrong short : Bool) (error : HandshakeError) (q : Result Record HandshakeError) (r : Record) →
    cond wrong (Err error) (cond short (Ok None) (told q)) ≡ Ok (Some r) →
    (short ≡ false) × (q ≡ Ok r)
given_text true short error q r e = absurd cc
given_text false true error q r e = absurd cc
given_text false false error (Ok x) r e = let same : x ≡ r = cc in (refl, ap Ok same)
given_text false false error (Err d) r e = absurd cc

given_rest : (right : Bool) (error : HandshakeError) (q : Result (Option Record) HandshakeError) (r : Record) →
    cond right q (Err error) ≡ Ok (Some r) →
    (right ≡ true) × (q ≡ Ok (Some r))
given_rest true error q r e = (refl, e)
given_rest false error q r e = absurd cc

judged_is : (is_open : Bool) (kind len : ℕ) (bytes : List ℕ) (r : Record) →
    IsBytes bytes →
    length bytes ≤ len →
    judged is_open (kind ∷ len ∷ bytes) ≡ Ok (Some r) →
    (kind ∷ len ∷ bytes ≡ record_text r) × IsRecord is_open r
judged_is is_open kind len bytes r small within e =
    let rest = given_rest (eqb kind (kind_of is_open)) (unknown is_open kind) (judged_rest is_open (len ∷ bytes)) r e in
    let whole = given_text (eqb len 0 || ltb (max_text is_open) len) (ltb (length bytes) len) (Fault.BadLength len) (read_record is_open bytes) r rest.1 in
    let same-kind : kind ≡ kind_of is_open = (Decides-eqb kind (kind_of is_open)).0 rest.0 in
    let long : len ≤ length bytes = ltb-false (length bytes) len whole.0 in
    let same-len : len ≡ length bytes = omega arith in
    let t = read_record_is is_open bytes r small whole.1 in
    ((λ i. same-kind i ∷ same-len i ∷ bytes) ∙ t.0, t.1)

pub given_is : (is_open : Bool) (kept : List ℕ) (r : Record) →
    IsBytes kept →
    Within kept →
    judged is_open kept ≡ Ok (Some r) →
    (kept ≡ record_text r) × IsRecord is_open r
given_is is_open [] r small within e = absurd cc
given_is is_open (kind ∷ []) r small within e =
    let none = (given_rest (eqb kind (kind_of is_open)) (unknown is_open kind) (Ok None) r e).1 in
    absurd cc
given_is is_open (kind ∷ len ∷ bytes) r small within e =
    judged_is is_open kind len bytes r (IsBytes-after (kind ∷ len ∷ []) bytes (kind ∷ len ∷ bytes) refl small) within e
