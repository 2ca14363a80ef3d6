-- The messages are compared.
use Rattle.frames.proofs.SameFields.{decides_of, messages_Decide}
use Rattle.frames.proofs.sameness.same_message.Goals as goal

pub returns : goal.returns
returns g c = decides_of c.eq.ensures (messages_Decide c.message_of.result c.message_of-2.result) c.message_of.ensures c.message_of-2.ensures
