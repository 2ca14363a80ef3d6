-- What is written of a record: the beginning of a file, and entries.
use Rattle.std.specs.Prelude.{◌≡◌, ℕ, ◌+◌, ◌≤◌, List, [], ◌∷◌, ◌++◌, length}
use Rattle.protocol.specs.Stimulus.{Stimulus}
use Rattle.frames.specs.Frame.{Frame}
use Rattle.step_records.specs.Block.{block, check_after, word_of}
use Rattle.step_records.specs.Bodies.{IsBodyOf}
use Rattle.step_records.specs.Text.{number_text}
use Rattle.step_records.specs.declared.TheConstants.{MAX_BODY}

-- `PLUMREC`, and the version: what stands before the first block of a file
abbrev pub start : List ℕ
start = 80 ∷ 76 ∷ 85 ∷ 77 ∷ 82 ∷ 69 ∷ 67 ∷ 1 ∷ []

-- The text is the entry of the stimulus behind a check, and has the other check.
pub record IsEntry (before : List ℕ) (told : Stimulus Frame) (text after : List ℕ) : Type 0 where
  pub body : List ℕ
  pub tells : IsBodyOf told body
  pub short : length body ≤ MAX_BODY
  pub is : text ≡ block before body
  pub check : after ≡ check_after before (word_of body) body

-- the body of a file's first block: the bytes of the head, the number of the entries in the files before, and their last
-- check
abbrev pub first_body : List ℕ → ℕ → List ℕ → List ℕ
first_body head entries before = head ++ (number_text entries ++ before)

-- The text is the beginning of a file that goes on with the record of this head there, and has the other check.
pub record IsOpening (head : List ℕ) (entries : ℕ) (before text after : List ℕ) : Type 0 where
  pub is : text ≡ start ++ block start (first_body head entries before)
  pub check : after ≡ check_after start (word_of (first_body head entries before)) (first_body head entries before)

-- How far a record is written: the bytes of its head, the number of its entries, and its last check.
pub record Written : Type 0 where
  pub head : List ℕ
  pub entries : ℕ
  pub check : List ℕ

-- A call appends the beginning of a file, and the record goes on behind it.
pub record WritesFile (old : Written) (out : List ℕ) (new : Written) (more : List ℕ) : Type 0 where
  pub text : List ℕ
  pub opening : IsOpening old.head old.entries old.check text new.check
  pub appended : more ≡ out ++ text
  pub head : new.head ≡ old.head
  pub entries : new.entries ≡ old.entries

-- A call appends the entry of the stimulus, and the record goes on behind it.
pub record WritesEntry (old : Written) (told : Stimulus Frame) (out : List ℕ) (new : Written) (more : List ℕ) : Type 0 where
  pub text : List ℕ
  pub entry : IsEntry old.check told text new.check
  pub appended : more ≡ out ++ text
  pub head : new.head ≡ old.head
  pub entries : new.entries ≡ old.entries + 1
