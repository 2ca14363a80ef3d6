-- What is printed of the messages is told in turn.
use Rattle.std.proofs.lemmas.Result.{on_ok_weaker}
use Rattle.trace_text.specs.Ends.{messages_text}
use Rattle.simulation.proofs.Ending.{told_messages}
use Rattle.simulation.proofs.tracing.ending.push_messages.Goals as goal

pub returns : goal.returns
returns g c =
    on_ok_weaker c.push_messages.result (λ told. (
      messages_text c.args.run.now c.in_ok-unrest.unrest c.args.forest.now c.args.messages.now,
      told_messages c.args.run.now c.in_ok-unrest.unrest c.args.forest.now c.in_ok-unrest.ensures c.requires c.args.messages.now,
      told,
    )) c.push_messages.ensures
