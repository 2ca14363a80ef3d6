-- What the files of a record tell, one entry after the other.
use Rattle.std.specs.Prelude.{◌≡◌, ◌+◌, ℕ, zero, suc, false, List, [], ◌∷◌, ◌++◌, Option, Some, None, length, map}
use Rattle.protocol.specs.Stimulus.{Stimulus}
use Rattle.protocol.specs.Trace.{Step, Trace}
use Rattle.frames.specs.Frame.{Frame}
use Rattle.step_records.specs.Reading.{Reading, Reads, counted, unbegun}
use Rattle.step_records.specs.declared.head.Head.{Head}
use Rattle.step_records.specs.declared.reader.Entry.{Entry}
use Rattle.step_records.specs.declared.reader.Entry.TheVariants as entry

-- How far the files of a record are read: those that are not begun, how many are, and what the reader of these knows.
pub record Progress : Type 0 where
  pub files : List (List ℕ)
  pub begun : ℕ
  pub reader : Reading

-- nothing of the files is read
abbrev pub unread : List (List ℕ) → Progress
unread files = record { files = files; begun = 0; reader = unbegun }

-- the reader once the file that it reads, if it is not before the first, is read to its end
abbrev pub ended : ℕ → Reading → Reading
ended zero reader = reader
ended (suc n) reader = record reader { is_open = false; at = 0 }

-- the reader as it goes on with a file that it was fed
abbrev pub fed : Reading → List ℕ → Reading
fed reader file = record reader { unread = reader.unread ++ file }

-- The next file is begun.
pub record BeginsFile (old new : Progress) : Type 0 where
  pub file : List ℕ
  pub listed : old.files ≡ file ∷ new.files
  pub begun : new.begun ≡ counted old.begun 1
  pub reader : new.reader ≡ fed (ended old.begun old.reader) file

-- As many files are begun, one after the other.
abbrev pub BeginsFiles : ℕ → Progress → Progress → Type 0
BeginsFiles zero old new = new ≡ old
BeginsFiles (suc n) old new = (between : Progress) × BeginsFiles n old between × BeginsFile between new

-- The next entry is read, in a later file if none is left of this one. Where there is none, no file is left.
pub record Gives (old : Progress) (found : Option Entry) (new : Progress) : Type 0 where
  pub count : ℕ
  pub between : Progress
  pub files : BeginsFiles count old between
  pub reads : Reads between.reader found new.reader
  pub same : new.files ≡ between.files
  pub begun : new.begun ≡ between.begun
  pub last : found ≡ None → new.files ≡ []

-- These entries are read, one after the other.
abbrev pub GivesAll : Progress → List Entry → Progress → Type 0
GivesAll old [] new = new ≡ old
GivesAll old (found ∷ later) new = (between : Progress) × Gives old (Some found) between × GivesAll between later new

-- the stimuli among the entries
abbrev pub stimuli_in : List Entry → List (Stimulus Frame)
stimuli_in [] = []
stimuli_in (entry.Head head ∷ entries) = stimuli_in entries
stimuli_in (entry.Stimulus told ∷ entries) = told ∷ stimuli_in entries

-- The entries that are left are read to their end, and tell these stimuli.
pub record TellsRest (old : Progress) (stimuli : List (Stimulus Frame)) (new : Progress) : Type 0 where
  pub entries : List Entry
  pub before : Progress
  pub given : GivesAll old entries before
  pub ended : Gives before None new
  pub told : stimuli ≡ stimuli_in entries

-- The files tell a head and then these stimuli, and so many bytes at their end are no whole entry.
pub record Tells (files : List (List ℕ)) (head : Head) (stimuli : List (Stimulus Frame)) (left : ℕ) : Type 0 where
  pub begun : Progress
  pub end : Progress
  pub first : Gives (unread files) (Some (entry.Head head)) begun
  pub rest : TellsRest begun stimuli end
  pub left_over : left ≡ length end.reader.unread

-- the stimuli of a trace
abbrev pub stimuli_of : {N : Type 0} → List (Step N) → List (Stimulus N)
stimuli_of {N} steps = map (λ (s : Step N). s.stimulus) steps

-- The trace is of the run that the head names, with its peers and its contact.
pub record StartsAs (head : Head) (trace : Trace Frame) : Type 0 where
  pub origin : trace.origin ≡ head.origin
  pub peers : trace.peers ≡ head.peers
  pub contact : trace.contact ≡ head.contact

-- how many bytes the files have
abbrev pub bytes_in : List (List ℕ) → ℕ
bytes_in [] = 0
bytes_in (file ∷ files) = length file + bytes_in files

-- how many bytes are not read
abbrev pub bytes_left : Progress → ℕ
bytes_left p = bytes_in p.files + length p.reader.unread
