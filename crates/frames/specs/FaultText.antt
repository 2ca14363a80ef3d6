-- The printed forms of frame faults.
use Rattle.std.specs.Prelude.{ℕ, List, codes}
use Rattle.frames.specs.declared.fault.FrameFault.{FrameFault}
use Rattle.frames.specs.declared.fault.FrameFault.TheVariants.{Short, TooLong, BadVersion, BadKind, BadName, BadField, BadCount, Trailing, OutOfMemory}

-- what is wrong
abbrev pub fault_text : FrameFault → List ℕ
fault_text Short = codes "the frame is not whole"
fault_text TooLong = codes "the frame is too long"
fault_text BadVersion = codes "the version is unknown"
fault_text BadKind = codes "the kind of the frame is unknown"
fault_text BadName = codes "a name is malformed"
fault_text BadField = codes "a field is cut off or out of range"
fault_text BadCount = codes "a count is out of range"
fault_text Trailing = codes "bytes follow the last field"
fault_text OutOfMemory = codes "out of memory"
