use Rattle.std.proofs.Common.{◌≡◌, take}
use Rattle.std.specs.List.{All}
use Rattle.node_threads.specs.Letters.{HaveMail, IsAddressed, lacking}
use Rattle.node_threads.proofs.cell.posting.letters_for.Given as goal

-- the letters of the packets so far, and the receivers so far that have no link
abbrev pub invariant-loop-send : goal.invariant-loop-send
invariant-loop-send g l =
    HaveMail l.names.keys (take l.send-index l.sends) l.letters.items ×
    All (IsAddressed l.names.keys) l.letters.items ×
    (l.lacking.items ≡ lacking l.names.keys (take l.send-index l.sends))
