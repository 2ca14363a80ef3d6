use Rattle.std.proofs.Common.{[]}
use Rattle.frames.proofs.Cuttings.{given_begin, one_stream}
use Rattle.frames.proofs.laws.cuttings_agree.Goals as goal

pub returns-clause-given : goal.returns-clause-given
returns-clause-given c calls left p = given_begin calls [] left p

pub returns-clause-same : goal.returns-clause-same
returns-clause-same c calls others left rest p q s d e = one_stream calls others left rest p q s d e
