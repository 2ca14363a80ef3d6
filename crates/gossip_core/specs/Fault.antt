-- The printed forms of a broadcast's refusals, and as what a core hands them on.
use Rattle.std.specs.Prelude.{ℕ, List, codes}
use Rattle.protocol.specs.declared.protocol.CoreError.{CoreError}
use Rattle.protocol.specs.declared.protocol.CoreError.TheVariants as core
use Rattle.gossip_core.specs.declared.fault.GossipFault.{GossipFault}
use Rattle.gossip_core.specs.declared.fault.GossipFault.TheVariants.{PayloadTooLong, SeqSpent, OutOfMemory}

abbrev pub fault_text : GossipFault → List ℕ
fault_text PayloadTooLong = codes "the payload is too long"
fault_text SeqSpent = codes "the numbers of this incarnation are used up"
fault_text OutOfMemory = codes "out of memory"

-- the refusal of a core's step that the gossip refuses
abbrev pub core_error : GossipFault → CoreError
core_error PayloadTooLong = core.PayloadTooLong
core_error SeqSpent = core.SeqSpent
core_error OutOfMemory = core.OutOfMemory
