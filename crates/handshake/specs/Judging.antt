-- What the bytes of a record that is no frame say.
use Rattle.std.specs.Prelude.{ℕ, ◌-◌, Bool, true, false, ◌||◌, List, [], ◌∷◌, length, Option, Some, None, Result, Ok, Err, nat_lt, ◌==◌, if◌then◌else◌}
use Rattle.handshake.specs.declared.TheConstants.{MAX_HELLO, MAX_INTRODUCTION}
use Rattle.handshake.specs.declared.error.HandshakeError.{HandshakeError}
use Rattle.handshake.specs.declared.error.HandshakeError.TheVariants as Fault
use Rattle.handshake.specs.declared.error.HelloError.{HelloError}
use Rattle.handshake.specs.declared.hello.Hello.{Hello}
use Rattle.handshake.specs.declared.introduction.Introduction.{Introduction}
use Rattle.handshake.specs.declared.record.Record.{Record}
use Rattle.handshake.specs.declared.record.Record.TheVariants as Told
use Rattle.handshake.specs.Reading as read

-- the Hello that was read, if it has as many bytes as were there
abbrev pub whole_hello : ℕ → Result (Hello × ℕ) HelloError → Result Hello HandshakeError
whole_hello len (Ok x) = if x.1 == len then Ok x.0 else Err (Fault.BadLength len)
whole_hello len (Err error) = Err (Fault.Hello error)

-- the Hello that the bytes spell
abbrev pub read_hello : List ℕ → Result Hello HandshakeError
read_hello bytes = whole_hello (length bytes) (read.read bytes)

-- the Introduction that was read, if no bytes are left
abbrev pub whole_introduction : Result (Introduction × List ℕ) HelloError → Result Introduction HandshakeError
whole_introduction (Ok x) = if length x.1 == 0 then Ok x.0 else Err Fault.BadIntroduction
whole_introduction (Err error) = Err Fault.BadIntroduction

-- the Introduction that the bytes spell
abbrev pub read_introduction : List ℕ → Result Introduction HandshakeError
read_introduction bytes = whole_introduction (read.introduction bytes)

-- as a record
abbrev pub hello_told : Result Hello HandshakeError → Result Record HandshakeError
hello_told (Ok hello) = Ok (Told.Hello hello)
hello_told (Err error) = Err error

abbrev pub introduction_told : Result Introduction HandshakeError → Result Record HandshakeError
introduction_told (Ok introduction) = Ok (Told.Introduction introduction)
introduction_told (Err error) = Err error

-- what the text of a record says: of the hello, before the connection is open, or else of an introduction
abbrev pub read_record : Bool → List ℕ → Result Record HandshakeError
read_record false bytes = hello_told (read_hello bytes)
read_record true bytes = introduction_told (read_introduction bytes)

-- the first byte of a hello's record and of an introduction's
abbrev pub kind_of : Bool → ℕ
kind_of false = 1
kind_of true = 2

-- the fault of another first byte
abbrev pub unknown : Bool → ℕ → HandshakeError
unknown false kind = Fault.NoHello kind
unknown true kind = Fault.UnknownRecord kind

-- how many bytes a text has at most
abbrev pub max_text : Bool → ℕ
max_text false = MAX_HELLO
max_text true = MAX_INTRODUCTION

-- a whole text gives its record
abbrev pub told : Result Record HandshakeError → Result (Option Record) HandshakeError
told (Ok r) = Ok (Some r)
told (Err error) = Err error

-- a text of so many bytes, of which the first are there
abbrev pub judged_text : Bool → ℕ → List ℕ → Result (Option Record) HandshakeError
judged_text is_open len bytes = if nat_lt (length bytes) len then Ok None else told (read_record is_open bytes)

-- the length of a text, and then the text
abbrev pub judged_rest : Bool → List ℕ → Result (Option Record) HandshakeError
judged_rest is_open [] = Ok None
judged_rest is_open (len ∷ bytes) = if len == 0 || nat_lt (max_text is_open) len then Err (Fault.BadLength len) else judged_text is_open len bytes

-- The first bytes of a record: None, if more have to come; the record, if it is whole; or a fault, as soon as the kind or
-- the length is wrong, or when the text is whole and malformed.
abbrev pub judged : Bool → List ℕ → Result (Option Record) HandshakeError
judged is_open [] = Ok None
judged is_open (kind ∷ rest) = if kind == kind_of is_open then judged_rest is_open rest else Err (unknown is_open kind)

-- how many more bytes are judged together
abbrev pub lacking : List ℕ → ℕ
lacking [] = 1
lacking (kind ∷ []) = 1
lacking (kind ∷ len ∷ bytes) = len - length bytes
