-- The text of a connection: hello (introduction | frame)*
use Rattle.std.specs.Prelude.{◌≡◌, ℕ, true, List, [], ◌∷◌, ◌++◌, length, map}
use Rattle.std.specs.Int.{w32, from_be_bytes}
use Rattle.std.specs.List.{flat_map}
use Rattle.handshake.specs.declared.hello.Hello.{Hello}
use Rattle.handshake.specs.declared.introduction.Introduction.{Introduction}
use Rattle.handshake.specs.declared.place.Place.TheVariants.{Boundary}
use Rattle.handshake.specs.declared.record.Record.TheVariants as Told
use Rattle.handshake.specs.Inbound.{Yield, frame_byte, gave}
use Rattle.handshake.specs.Records.{IsIntroduction, hello_record, introduction_record}
use Rattle.handshake.specs.State.{State}

-- four bytes, of which the first is 0, and as many bytes as they spell
pub record IsFrame (bytes : List ℕ) : Type 0 where
  pub second : ℕ
  pub third : ℕ
  pub fourth : ℕ
  pub body : List ℕ
  pub parts : bytes ≡ 0 ∷ (second ∷ (third ∷ (fourth ∷ body)))
  pub len : from_be_bytes w32 (0 ∷ (second ∷ (third ∷ (fourth ∷ [])))) ≡ length body

-- what follows the hello
pub data Part : Type 0 where
  introduced : Introduction → Part
  framed : List ℕ → Part

abbrev pub IsPart : Part → Type 0
IsPart (introduced i) = IsIntroduction i
IsPart (framed bytes) = IsFrame bytes

abbrev pub part_text : Part → List ℕ
part_text (introduced i) = introduction_record i
part_text (framed bytes) = bytes

-- what a part gives: the introduction, or each byte of the frame
abbrev pub part_yields : Part → List Yield
part_yields (introduced i) = gave (Told.Introduction i) ∷ []
part_yields (framed bytes) = map frame_byte bytes

-- the text of a connection
abbrev pub connection_text : Hello → List Part → List ℕ
connection_text h parts = hello_record h ++ flat_map part_text parts

-- what it gives
abbrev pub connection_yields : Hello → List Part → List Yield
connection_yields h parts = gave (Told.Hello h) ∷ flat_map part_yields parts

-- the hello came, and nothing is under way
abbrev pub opened : State
opened = record { is_open = true; place = Boundary; kept = [] }
