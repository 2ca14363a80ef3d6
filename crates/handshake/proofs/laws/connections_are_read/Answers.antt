use Rattle.handshake.proofs.Connections.{connection_read}
use Rattle.handshake.proofs.Runs.{run-append}
use Rattle.handshake.proofs.laws.connections_are_read.Goals as goal

pub returns-clause-given : goal.returns-clause-given
returns-clause-given c h parts i all = connection_read h parts i all

pub returns-clause-cut : goal.returns-clause-cut
returns-clause-cut c s front rest = run-append s front rest
