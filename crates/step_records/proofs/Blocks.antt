-- The bytes of a block that is read.
use Rattle.std.proofs.Common.{◌≡◌, ◌∙◌, ◌+◌, ◌<◌, ◌≤◌, ℕ, List, ◌++◌, ap, append_assoc, arith, drop, get_or, inl, inr, length, refl, subst, sym, take}
use Rattle.std.proofs.lemmas.Bool.{cases_lt}
use Rattle.std.proofs.lemmas.List.{drop-drop, length-append, length-drop}
use Rattle.std.specs.Prelude.{IfSome, Option, Some, true}
use Rattle.protocol.specs.Stimulus.{Stimulus}
use Rattle.frames.specs.Frame.{Frame}
use Rattle.step_records.specs.Bodies.{IsBodyOf}
use Rattle.step_records.specs.Reading.{Reading, ReadsEntry, counted}
use Rattle.step_records.specs.declared.TheConstants.{MAX_BODY}
use Rattle.std.specs.Int.{w32, from_be_bytes, to_be_bytes}
use Rattle.std.proofs.lemmas.List.{get_or-take, get_or_past, length-take, take-append-drop}
use Rattle.std.proofs.lemmas.Nat.{be_bytes_4}
use Rattle.step_records.specs.Block.{block, check_after, word_of}

-- what holds of a value that is there
pub some_part : {X : Type 0} (found : Option X) (x : X) (P : X → Type 0) → found ≡ Some x → IfSome found P → P x
some_part found x P is p = subst (λ o. IfSome o P) is p

-- what was dropped in three parts
dropped : (a b c : ℕ) (bytes : List ℕ) → drop c (drop b (drop a bytes)) ≡ drop (a + b + c) bytes
dropped a b c bytes =
    let sum : a + (b + c) ≡ a + b + c = omega arith in
    drop-drop c b (drop a bytes) ∙ drop-drop (b + c) a bytes ∙ ap (λ n. drop n bytes) sum

-- a length, as many bytes and their check are a block
pub text_of_block : (before bytes body check : List ℕ) (len : ℕ) →
    ((i : ℕ) → get_or bytes i 0 < 256) →
    4 ≤ length bytes →
    len ≡ from_be_bytes w32 (take 4 bytes) →
    len ≤ length (drop 4 bytes) →
    body ≡ take len (drop 4 bytes) →
    check ≡ check_after before (take 4 bytes) body →
    take 8 (drop len (drop 4 bytes)) ≡ check →
    bytes ≡ block before body ++ drop (4 + len + 8) bytes
text_of_block before bytes body check len fits four stated within is made stands =
    let size : length body ≡ len = ap length is ∙ (omega (arith, length-take len (drop 4 bytes))) in
    let w : to_be_bytes w32 len ≡ take 4 bytes =
    be_bytes_4 (take 4 bytes) len (omega (arith, length-take 4 bytes)) (word_fits bytes fits) stated in
    let word : word_of body ≡ take 4 bytes = ap (to_be_bytes w32) size ∙ w in
    let own : check ≡ check_after before (word_of body) body = made ∙ ap (λ (t : List ℕ). check_after before t body) (sym word) in
    let behind : drop len (drop 4 bytes) ≡ check ++ drop (4 + len + 8) bytes =
    sym (take-append-drop 8 (drop len (drop 4 bytes))) ∙ ap (λ (t : List ℕ). t ++ drop 8 (drop len (drop 4 bytes))) stands
    ∙ ap (λ (t : List ℕ). check ++ t) (dropped 4 len 8 bytes) in
    let rest : drop 4 bytes ≡ body ++ (check ++ drop (4 + len + 8) bytes) =
    sym (take-append-drop len (drop 4 bytes)) ∙ ap (λ (t : List ℕ). t ++ drop len (drop 4 bytes)) (sym is) ∙ ap (λ (t : List ℕ). body ++ t) behind in
    let whole : bytes ≡ word_of body ++ (body ++ (check ++ drop (4 + len + 8) bytes)) =
    sym (take-append-drop 4 bytes) ∙ ap (λ (t : List ℕ). t ++ drop 4 bytes) (sym word) ∙ ap (λ (t : List ℕ). word_of body ++ t) rest in
    whole ∙ ap (λ (t : List ℕ). word_of body ++ (body ++ (t ++ drop (4 + len + 8) bytes))) own
    ∙ ap (λ (t : List ℕ). word_of body ++ t) (sym (append_assoc body (check_after before (word_of body) body) (drop (4 + len + 8) bytes)))
    ∙ sym (append_assoc (word_of body) (body ++ check_after before (word_of body) body) (drop (4 + len + 8) bytes))
  where
    word_fits : (bytes : List ℕ) → ((i : ℕ) → get_or bytes i 0 < 256) → (i : ℕ) → get_or (take 4 bytes) i 0 < 256
    word_fits bytes fits i =
        elim (cases_lt i 4) [
          | inl lt ↦ rw (get_or-take 4 bytes i 0 lt) (fits i)
          | inr le ↦ (let past : length (take 4 bytes) ≤ i = omega (arith, length-take 4 bytes) in rw (get_or_past (take 4 bytes) i 0 past) (omega arith))
        ]

-- the length of what stands before the rest
pub size_of_text : (bytes text : List ℕ) (len : ℕ) → len ≤ length bytes → bytes ≡ text ++ drop len bytes → len ≡ length text
size_of_text bytes text len within is = omega (arith, ap length is, length-append text (drop len bytes), length-drop len bytes)

-- a reader behind a block that tells a stimulus
pub entry_read : (old new : Reading) (told : Stimulus Frame) (body check : List ℕ) (len : ℕ) →
    old.is_open ≡ true →
    IsBodyOf told body →
    length body ≤ MAX_BODY →
    check ≡ check_after old.check (word_of body) body →
    len ≤ length old.unread →
    old.unread ≡ block old.check body ++ drop len old.unread →
    new ≡ record old { entries = counted old.entries 1; check = check; unread = drop len old.unread; at = counted old.at len } →
    ReadsEntry old told new
entry_read old new told body check len was_open tells short made within is behind =
    let size : len ≡ length (block old.check body) = size_of_text old.unread (block old.check body) len within is in
    subst (λ (r : Reading). ReadsEntry old told r) (sym behind)
    (record {
      text = block old.check body;
      was_open = was_open;
      entry = record { body = body; tells = tells; short = short; is = refl; check = made };
      unread = is;
      head = refl;
      entries = refl;
      is_open = was_open;
      at = ap (counted old.at) size;
    })
