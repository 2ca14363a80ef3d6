-- The words of an event that names a packet.
use Rattle.trace_text.proofs.events.push_words.Goals as goal

pub returns-in-Arrive : goal.returns-in-Arrive
returns-in-Arrive g c = rw c.in-Arrive.is c.push_naming.ensures

pub returns-in-Again : goal.returns-in-Again
returns-in-Again g c = rw c.in-Again.is c.push_naming-in-Again.ensures
