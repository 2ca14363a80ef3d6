-- The printed forms of refusals.
use Rattle.std.specs.Prelude.{ℕ, List, ◌++◌, codes}
use Rattle.std.specs.Fmt.{decimal}
use Rattle.world.specs.declared.error.WorldError.{WorldError}
use Rattle.world.specs.declared.error.WorldError.TheVariants as refused

-- why a group refused an event
abbrev pub world_error_text : WorldError → List ℕ
world_error_text refused.UnknownNode = codes "no node of this name was started"
world_error_text refused.NotRunning = codes "the node is stopped"
world_error_text (refused.StaleIncarnation highest) = codes "the node ran under incarnation " ++ decimal highest.0 ++ codes " already"
world_error_text refused.BadPeers = codes "the peers or the contact do not fit the node"
world_error_text refused.NoPacket = codes "there is no such packet"
world_error_text refused.PayloadTooLong = codes "the payload is too long"
world_error_text refused.SeqSpent = codes "the numbers of this incarnation are used up"
world_error_text refused.OutOfMemory = codes "out of memory"
