-- The results of functions that read.
use Rattle.std.specs.Prelude.{◌≡◌, ℕ, List, Result, Ok, Err}
use Rattle.handshake.specs.declared.error.HelloError.{HelloError}
use Rattle.handshake.specs.Reading.{Reader}

-- The result is what the reader gives for the old bytes, and the new bytes are those that it leaves.
abbrev pub Reads : {X : Type 0} → Result X HelloError → Reader X → List ℕ → List ℕ → Type 0
Reads (Ok x) r old new = r old ≡ Ok (x, new)
Reads (Err error) r old new = r old ≡ Err error
