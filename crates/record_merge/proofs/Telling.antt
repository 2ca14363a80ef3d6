-- What the files of a record tell, as they are read.
use Rattle.std.proofs.Common.{◌≡◌, ◌∙◌, ◌+◌, ◌<◌, ℕ, zero, suc, List, [], ◌∷◌, ◌++◌, ap, append_assoc, arith, length, refl, subst, sym}
use Rattle.std.specs.Prelude.{Some, None}
use Rattle.std.proofs.lemmas.List.{length-append}
use Rattle.protocol.specs.Stimulus.{Stimulus}
use Rattle.frames.specs.Frame.{Frame}
use Rattle.step_records.specs.Block.{block, check_after, word_of}
use Rattle.step_records.specs.Bodies.{head_text}
use Rattle.step_records.specs.Reading.{Reading, Reads}
use Rattle.step_records.specs.Writing.{first_body, start}
use Rattle.step_records.specs.declared.reader.Entry.{Entry}
use Rattle.step_records.specs.declared.reader.Entry.TheVariants as entry
use Rattle.record_merge.specs.Replaying.{BeginsFile, BeginsFiles, Gives, GivesAll, Progress, bytes_in, bytes_left, ended, fed, stimuli_in}

-- ---- files

-- the same progress, field by field
same_progress : (old new : Progress) → new.files ≡ old.files → new.begun ≡ old.begun → new.reader ≡ old.reader → new ≡ old
same_progress old new files begun reader = λ i. record { files = files i; begun = begun i; reader = reader i }

-- one file more
pub one_file_more : (n : ℕ) (first old between new : Progress) →
    BeginsFiles n first old →
    between.files ≡ old.files →
    between.begun ≡ old.begun →
    between.reader ≡ old.reader →
    BeginsFile between new →
    (k : ℕ) × BeginsFiles k first new
one_file_more n first old between new so_far files begun reader begins =
    (suc n, (between, subst (λ (p : Progress). BeginsFiles n first p) (sym (same_progress old between files begun reader)) so_far, begins))

-- fewer files are left
pub fewer_files : (old between new : Progress) → between.files ≡ old.files → BeginsFile between new → length new.files < length old.files
fewer_files old between new files begins =
    let all : length old.files ≡ suc (length new.files) = ap (λ (fs : List (List ℕ)). length fs) (sym files ∙ begins.listed) in
    omega arith

-- an entry is given
pub some_given : (n : ℕ) (first old new : Progress) (found : Entry) →
    BeginsFiles n first old →
    Reads old.reader (Some found) new.reader →
    new.files ≡ old.files →
    new.begun ≡ old.begun →
    Gives first (Some found) new
some_given n first old new found so_far reads files begun =
    record {
      count = n;
      between = old;
      files = so_far;
      reads = reads;
      same = files;
      begun = begun;
      last = λ none. let no : Some found ≡ None = none in absurd cc;
    }

-- none is given, since no file is left
pub none_given : (n : ℕ) (first old between new : Progress) →
    BeginsFiles n first old →
    Reads old.reader None between.reader →
    between.files ≡ old.files →
    between.begun ≡ old.begun →
    between.files ≡ [] →
    new ≡ between →
    Gives first None new
none_given n first old between new so_far reads files begun ended' is =
    subst (λ (p : Progress). Gives first None p) (sym is)
    (record { count = n; between = old; files = so_far; reads = reads; same = files; begun = begun; last = λ none. ended' })

-- ---- bytes

-- beginning files reads no byte
fed_left : (n : ℕ) (reader : Reading) (file : List ℕ) → length (fed (ended n reader) file).unread ≡ length reader.unread + length file
fed_left zero reader file = length-append reader.unread file
fed_left (suc n) reader file = length-append reader.unread file

begins_left : (old new : Progress) → BeginsFile old new → bytes_left new ≡ bytes_left old
begins_left old new b =
    let files : bytes_in old.files ≡ length b.file + bytes_in new.files =
    ap bytes_in b.listed in
    let unread : length new.reader.unread ≡ length old.reader.unread + length b.file =
    ap (λ (r : Reading). length r.unread) b.reader ∙ fed_left old.begun old.reader b.file in
    omega arith

all_begin_left : (n : ℕ) (old new : Progress) → BeginsFiles n old new → bytes_left new ≡ bytes_left old
all_begin_left zero old new is = ap bytes_left is
all_begin_left (suc n) old new b = begins_left b.0 new b.2 ∙ all_begin_left n old b.0 b.1

-- a block has bytes
block_long : (before body : List ℕ) → 0 < length (block before body)
block_long before body = omega (arith, length-append (word_of body) (body ++ check_after before (word_of body) body))

-- what is read has bytes
reads_some : (old new : Reading) (found : Entry) → Reads old (Some found) new → length new.unread < length old.unread
reads_some old new (entry.Head head) r =
    let text : length r.text ≡ 8 + length (block start (first_body (head_text head) old.entries old.check)) =
    ap (λ (t : List ℕ). length t) r.opening.is ∙ length-append start (block start (first_body (head_text head) old.entries old.check)) in
    omega (arith, ap (λ (t : List ℕ). length t) r.unread, length-append r.text new.unread)
reads_some old new (entry.Stimulus told) r =
    let long : 0 < length r.text = subst (λ (t : List ℕ). 0 < length t) (sym r.entry.is) (block_long old.check r.entry.body) in
    omega (arith, ap (λ (t : List ℕ). length t) r.unread, length-append r.text new.unread)

-- so fewer bytes are left
pub fewer_bytes : (n : ℕ) (first old new : Progress) (found : Entry) →
    BeginsFiles n first old →
    Reads old.reader (Some found) new.reader →
    new.files ≡ old.files →
    bytes_left new < bytes_left first
fewer_bytes n first old new found so_far reads files =
    let same : bytes_in new.files ≡ bytes_in old.files =
    ap bytes_in files in
    omega (arith, reads_some old.reader new.reader found reads, all_begin_left n first old so_far, same)

-- ---- entries

-- one entry more
pub given_more : (all : List Entry) (old between new : Progress) (found : Entry) →
    GivesAll old all between →
    Gives between (Some found) new →
    GivesAll old (all ++ found ∷ []) new
given_more [] old between new found is gives = (new, subst (λ (p : Progress). Gives p (Some found) new) is gives, refl)
given_more (e ∷ all) old between new found given gives = (given.0, given.1, given_more all given.0 between new found given.2 gives)

stimuli-append : (all later : List Entry) → stimuli_in (all ++ later) ≡ stimuli_in all ++ stimuli_in later
stimuli-append [] later = refl
stimuli-append (entry.Head head ∷ all) later = stimuli-append all later
stimuli-append (entry.Stimulus told ∷ all) later = ap (λ (ss : List (Stimulus Frame)). told ∷ ss) (stimuli-append all later)

-- and the stimulus that it tells
pub told_more : (all : List Entry) (found : Entry) (first old new : List (Stimulus Frame)) →
    old ≡ first ++ stimuli_in all →
    new ≡ old ++ stimuli_in (found ∷ []) →
    new ≡ first ++ stimuli_in (all ++ found ∷ [])
told_more all found first old new so_far more =
    more ∙ ap (λ (ss : List (Stimulus Frame)). ss ++ stimuli_in (found ∷ [])) so_far ∙ append_assoc first (stimuli_in all) (stimuli_in (found ∷ []))
    ∙ ap (λ (ss : List (Stimulus Frame)). first ++ ss) (sym (stimuli-append all (found ∷ [])))
