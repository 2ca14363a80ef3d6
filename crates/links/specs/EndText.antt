-- The printed forms of a link's ends.
use Rattle.std.specs.Prelude.{ℕ, List, ◌++◌, codes}
use Rattle.std.specs.Fmt.{decimal}
use Rattle.frames.specs.FaultText.{fault_text}
use Rattle.links.specs.declared.ends.LinkEnd.{LinkEnd}
use Rattle.links.specs.declared.ends.LinkEnd.TheVariants.{ReadFault, WriteFault, Frame, Ended, TurnLimit, SinkClosed, OutOfMemory}

-- why it ended
abbrev pub end_text : LinkEnd → List ℕ
end_text ReadFault = codes "the reader failed"
end_text (WriteFault bytes) = codes "the writer failed after " ++ decimal bytes ++ codes " bytes"
end_text (Frame fault) = fault_text fault
end_text (Ended left) = codes "the stream ended with " ++ decimal left ++ codes " bytes of a frame"
end_text TurnLimit = codes "the turns are used up"
end_text SinkClosed = codes "the sink takes no more"
end_text OutOfMemory = codes "out of memory"
