use Rattle.std.proofs.Common.{◌≤◌, length}
use Rattle.status_command.proofs.response.read_events.Given as goal

-- what is left to read is no longer than the input
abbrev pub invariant-loop : goal.invariant-loop
invariant-loop l = length l.rest ≤ length l.input
