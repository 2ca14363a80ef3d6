-- The codes of refusals.
use Rattle.std.specs.Prelude.{ℕ, List, ◌++◌, codes}
use Rattle.std.specs.Fmt.{decimal}
use Rattle.at_rest.specs.declared.error.SettleError.{SettleError}
use Rattle.at_rest.specs.declared.error.SettleError.TheVariants as settle
use Rattle.world.specs.declared.error.WorldError.{WorldError}
use Rattle.world.specs.declared.error.WorldError.TheVariants.{UnknownNode, NotRunning, StaleIncarnation, BadPeers}
use Rattle.world.specs.declared.error.WorldError.TheVariants.{NoPacket, PayloadTooLong, SeqSpent, OutOfMemory}

-- `W` and a number; for a stale incarnation the highest one of the node is printed too
abbrev pub code_of : WorldError → List ℕ
code_of UnknownNode = codes "W1"
code_of NotRunning = codes "W2"
code_of (StaleIncarnation highest) = codes "W3 highest " ++ decimal highest.0
code_of BadPeers = codes "W4"
code_of NoPacket = codes "W5"
code_of PayloadTooLong = codes "W6"
code_of SeqSpent = codes "W7"
code_of OutOfMemory = codes "W8"

-- `S` and a number that says why a group was not brought to rest
abbrev pub settle_code_of : SettleError → List ℕ
settle_code_of settle.NotCalm = codes "S1"
settle_code_of settle.SeqSpent = codes "S2"
settle_code_of settle.OutOfMemory = codes "S3"
