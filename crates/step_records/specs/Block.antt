-- The blocks of a file, and how they are read.
use Rattle.std.specs.Prelude.{ℕ, ◌+◌, List, ◌++◌, Option, Some, None, Result, Ok, Err, length, take, drop, nat_lt, nat_eq, if◌then◌else◌}
use Rattle.std.specs.Int.{w32, from_be_bytes, to_be_bytes}
use Rattle.std.specs.Cmp.Lexicographic.{pointwise}
use Rattle.sha2.specs.Sha256.{sha256}
use Rattle.step_records.specs.declared.TheConstants.{MAX_BODY}
use Rattle.step_records.specs.declared.error.RecordErrorKind.{RecordErrorKind}
use Rattle.step_records.specs.declared.error.RecordErrorKind.TheVariants.{TooLong, BadCheck}

-- the check of a block behind another check: the first eight bytes of a SHA-256
unfoldable pub check_after : List ℕ → List ℕ → List ℕ → List ℕ
check_after before word body = take 8 (sha256 (before ++ (word ++ body)))

-- the length of a body, in four bytes
abbrev pub word_of : List ℕ → List ℕ
word_of body = to_be_bytes w32 (length body)

-- the block of a body behind a check
abbrev pub block : List ℕ → List ℕ → List ℕ
block before body = word_of body ++ (body ++ check_after before (word_of body) body)

-- What reading a block gives: its body, None if bytes are lacking, or an error.
abbrev pub Found : Type 0
Found = Result (Option (List ℕ)) RecordErrorKind

-- the body, if its check follows it
abbrev pub checked : List ℕ → List ℕ → List ℕ → List ℕ → Found
checked before word body after =
    if nat_lt (length after) 8 then Ok None else
    if pointwise nat_eq (take 8 after) (check_after before word body) then Ok (Some body) else
    Err BadCheck

-- the body of this length, at the front of what follows the length
abbrev pub body_of : List ℕ → List ℕ → List ℕ → ℕ → Found
body_of before word rest len =
    if nat_lt MAX_BODY len then Err (TooLong len) else
    if nat_lt (length rest) len then Ok None else
    checked before word (take len rest) (drop len rest)

-- the body of the block at the front of the bytes, which stands behind this check
unfoldable pub read_block : List ℕ → List ℕ → Found
read_block before bytes =
    if nat_lt (length bytes) 4 then Ok None else
    body_of before (take 4 bytes) (drop 4 bytes) (from_be_bytes w32 (take 4 bytes))
