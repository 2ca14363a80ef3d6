use Rattle.node_core.proofs.output.append_numbered.Goals as goal

pub returns-in-Packets-clause-last : goal.returns-in-Packets-clause-last
returns-in-Packets-clause-last g c = rw c.in-Packets.is c.append_list.ensures.last

pub returns-in-Packets-clause-spent : goal.returns-in-Packets-clause-spent
returns-in-Packets-clause-spent g c = rw c.in-Packets.is c.append_list.ensures.spent
