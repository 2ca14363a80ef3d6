-- The names are those of the nodes.
use Rattle.std.proofs.Common.{◌∙◌, ap, sym}
use Rattle.world.specs.Plan.{names_of}
use Rattle.simulation.proofs.graph.flying.push_packet.Goals as goal

pub last_run-receiver-requires : goal.last_run-receiver-requires
last_run-receiver-requires g c = c.names.ensures ∙ ap names_of (sym c.nodes.ensures)
