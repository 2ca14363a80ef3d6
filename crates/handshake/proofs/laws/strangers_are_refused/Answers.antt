use Rattle.handshake.proofs.Strangers.{no_hello, too_long, unknown_kind}
use Rattle.handshake.proofs.laws.strangers_are_refused.Goals as goal

pub returns-clause-no_hello : goal.returns-clause-no_hello
returns-clause-no_hello c kind rest h = no_hello kind rest h

pub returns-clause-too_long : goal.returns-clause-too_long
returns-clause-too_long c len rest h = too_long len rest h

pub returns-clause-unknown : goal.returns-clause-unknown
returns-clause-unknown c kind rest h k = unknown_kind kind rest h k
