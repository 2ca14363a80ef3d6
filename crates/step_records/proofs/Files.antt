-- The beginning of a file that is written.
use Rattle.std.proofs.Common.{◌≡◌, ◌∙◌, ◌+◌, ◌≤◌, ℕ, List, ◌++◌, ap, append_assoc, arith, drop, length, refl, sym, take}
use Rattle.std.specs.Prelude.{IfOk, OnErr, Result, Ok, Err}
use Rattle.std.proofs.lemmas.List.{drop-drop, length-append, take-take}
use Rattle.std.proofs.Math.Seq.{drop-append_seam, take-append_seam}
use Rattle.step_records.specs.Block.{block, check_after, word_of}
use Rattle.step_records.specs.Writing.{IsOpening, first_body, start}
use Rattle.step_records.specs.Text.{number_text}
use Rattle.step_records.specs.declared.check.Check.{Check}
use Rattle.step_records.proofs.Blocks.{size_of_text}

-- what stands before a block is behind what was there
pub file_written : {E : Type 0} (result : Result Check E) (old mid new head body before : List ℕ) (entries : ℕ) →
    mid ≡ old ++ start →
    body ≡ first_body head entries before →
    IfOk result (λ check. check.0 ≡ check_after start (word_of body) body) →
    IfOk result (λ check. new ≡ mid ++ block start body) →
    IfOk result (λ check. (text : List ℕ) × IsOpening head entries before text check.0 × (new ≡ old ++ text))
file_written (Ok check) old mid new head body before entries first is made wrote = (
  start ++ block start (first_body head entries before),
  record { is = refl; check = made ∙ ap (λ (b : List ℕ). check_after start (word_of b) b) is },
  wrote ∙ ap (λ (t : List ℕ). t ++ block start body) first ∙ append_assoc old start (block start body)
      ∙ ap (λ (b : List ℕ). old ++ (start ++ block start b)) is,
)
file_written (Err e) old mid new head body before entries first is made wrote = tt

-- what was there stays
pub file_kept : {X E : Type 0} (result : Result X E) (old mid new : List ℕ) →
    mid ≡ old ++ start →
    OnErr result (take (length mid) new ≡ mid) →
    OnErr result (take (length old) new ≡ old)
file_kept (Ok x) old mid new first kept = tt
file_kept (Err e) old mid new first kept =
    let within : length old ≤ length mid = omega (arith, ap length first, length-append old start) in
    sym (take-take (length old) (length mid) new within) ∙ ap (take (length old)) (kept ∙ first) ∙ take-append_seam old start

-- the beginning of a file that is read
pub opening_read : (bytes rest body front back head before check : List ℕ) (entries len : ℕ) →
    bytes ≡ start ++ rest →
    len ≤ length rest →
    rest ≡ block start body ++ drop len rest →
    body ≡ front ++ back →
    back ≡ number_text entries ++ before →
    head ≡ front →
    check ≡ check_after start (word_of body) body →
    (text : List ℕ) × IsOpening head entries before text check × (bytes ≡ text ++ drop (8 + len) bytes) × (8 + len ≡ length text)
opening_read bytes rest body front back head before check entries len first within block_is parts place same made =
    let is : body ≡ first_body head entries before =
    parts ∙ ap (λ (t : List ℕ). t ++ back) (sym same) ∙ ap (λ (t : List ℕ). head ++ t) place in
    let size : len ≡ length (block start body) = size_of_text rest (block start body) len within block_is in
    let behind : drop (8 + len) bytes ≡ drop len rest =
    sym (drop-drop len 8 bytes) ∙ ap (λ (t : List ℕ). drop len (drop 8 t)) first ∙ ap (drop len) (drop-append_seam start rest) in
    let text : List ℕ = start ++ block start body in (
      text,
      record { is = ap (λ (b : List ℕ). start ++ block start b) is; check = made ∙ ap (λ (b : List ℕ). check_after start (word_of b) b) is },
      first ∙ ap (λ (t : List ℕ). start ++ t) block_is ∙ sym (append_assoc start (block start body) (drop len rest))
          ∙ ap (λ (t : List ℕ). text ++ t) (sym behind),
      ap (λ n. 8 + n) size ∙ sym (length-append start (block start body)),
    )
