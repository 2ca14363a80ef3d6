-- The records of a connection that are no frames, as bytes.
use Rattle.std.specs.Prelude.{ℕ, Bool, true, false, List, ◌∷◌, ◌++◌, length}
use Rattle.node_names.specs.NodeName.{IsNodeName}
use Rattle.handshake.specs.declared.hello.Hello.{Hello}
use Rattle.handshake.specs.declared.introduction.Introduction.{Introduction}
use Rattle.handshake.specs.declared.record.Record.{Record}
use Rattle.handshake.specs.declared.record.Record.TheVariants as Told
use Rattle.handshake.specs.Text.{IsAddress, IsHello, address_text, name_text, text}

-- the name, then the address
abbrev pub introduction_text : Introduction → List ℕ
introduction_text i = name_text i.name ++ address_text i.at

-- the kind 1, the length of the text in one byte, then the text
abbrev pub hello_record : Hello → List ℕ
hello_record h = 1 ∷ (length (text h) ∷ text h)

-- the kind 2, the length of what follows in one byte, then the name and the address
abbrev pub introduction_record : Introduction → List ℕ
introduction_record i = 2 ∷ (length (introduction_text i) ∷ introduction_text i)

-- The name is one, and so is the address.
pub record IsIntroduction (i : Introduction) : Type 0 where
  pub name : IsNodeName i.name
  pub at : IsAddress i.at

abbrev pub record_text : Record → List ℕ
record_text (Told.Hello h) = hello_record h
record_text (Told.Introduction i) = introduction_record i

-- The record may stand here: a hello before the connection is open, or an introduction once it is.
abbrev pub IsRecord : Bool → Record → Type 0
IsRecord false (Told.Hello h) = IsHello h
IsRecord false (Told.Introduction i) = ⊥
IsRecord true (Told.Hello h) = ⊥
IsRecord true (Told.Introduction i) = IsIntroduction i
