use Rattle.handshake.proofs.Lines.{goes_on_after, lent_first, stands_behind}
use Rattle.handshake.proofs.laws.records_stand_between_frames.Goals as goal

pub returns-clause-first : goal.returns-clause-first
returns-clause-first c = lent_first

pub returns-clause-goes_on : goal.returns-clause-goes_on
returns-clause-goes_on c = goes_on_after

pub returns-clause-behind : goal.returns-clause-behind
returns-clause-behind c = stands_behind
