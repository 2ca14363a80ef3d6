-- What is read of a record.
use Rattle.std.specs.Prelude.{◌≡◌, ℕ, ◌+◌, ◌-◌, ◌^◌, ◌<◌, Bool, true, false, List, [], ◌++◌, ◌⊎◌, Option, Some, None, Ok, drop, length, min}
use Rattle.protocol.specs.Stimulus.{Stimulus}
use Rattle.frames.specs.Frame.{Frame}
use Rattle.step_records.specs.Block.{read_block}
use Rattle.step_records.specs.Bodies.{head_text}
use Rattle.step_records.specs.Writing.{IsEntry, IsOpening, start}
use Rattle.step_records.specs.declared.head.Head.{Head}
use Rattle.step_records.specs.declared.reader.Entry.{Entry}
use Rattle.step_records.specs.declared.reader.Entry.TheVariants as entry

-- How far a record is read: the bytes of its head, which are none before they are read; the number of its entries, and
-- its last check; whether the beginning of the file is read; how many bytes of the file are; and the bytes that were fed
-- and are not read.
pub record Reading : Type 0 where
  pub head : List ℕ
  pub entries : ℕ
  pub check : List ℕ
  pub is_open : Bool
  pub at : ℕ
  pub unread : List ℕ

-- a record of which nothing is read
abbrev pub unbegun : Reading
unbegun = record { head = []; entries = 0; check = start; is_open = false; at = 0; unread = [] }

-- a number and so much more, or the greatest of 64 bits
abbrev pub counted : ℕ → ℕ → ℕ
counted n more = min (n + more) (2 ^ 64 - 1)

-- The unread bytes begin with the beginning of a file that goes on with the record, which has this head.
pub record ReadsHead (old : Reading) (told : Head) (new : Reading) : Type 0 where
  pub text : List ℕ
  pub was_closed : old.is_open ≡ false
  pub opening : IsOpening (head_text told) old.entries old.check text new.check
  pub same : (old.head ≡ []) ⊎ (old.head ≡ head_text told)
  pub unread : old.unread ≡ text ++ new.unread
  pub head : new.head ≡ head_text told
  pub entries : new.entries ≡ old.entries
  pub is_open : new.is_open ≡ true
  pub at : new.at ≡ counted old.at (length text)

-- They begin with the entry of this stimulus, behind the last check.
pub record ReadsEntry (old : Reading) (told : Stimulus Frame) (new : Reading) : Type 0 where
  pub text : List ℕ
  pub was_open : old.is_open ≡ true
  pub entry : IsEntry old.check told text new.check
  pub unread : old.unread ≡ text ++ new.unread
  pub head : new.head ≡ old.head
  pub entries : new.entries ≡ counted old.entries 1
  pub is_open : new.is_open ≡ true
  pub at : new.at ≡ counted old.at (length text)

-- What is read is what the unread bytes begin with; where nothing is, nothing changes.
abbrev pub Reads : Reading → Option Entry → Reading → Type 0
Reads old None new = new ≡ old
Reads old (Some (entry.Head head)) new = ReadsHead old head new
Reads old (Some (entry.Stimulus told)) new = ReadsEntry old told new

-- The bytes, in which a file begins, end before its first block does.
abbrev pub EndsEarly : List ℕ → Type 0
EndsEarly bytes = (length bytes < 8) ⊎ (read_block start (drop 8 bytes) ≡ Ok None)

-- The unread bytes end before the next block does.
abbrev pub Waits : Reading → Type 0
Waits old = ((old.is_open ≡ true) × (read_block old.check old.unread ≡ Ok None)) ⊎ ((old.is_open ≡ false) × EndsEarly old.unread)
