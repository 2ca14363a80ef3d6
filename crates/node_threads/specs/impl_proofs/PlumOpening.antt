-- A start of the node's core shows its origin, peers and contact. This is proved, not assumed.
use Rattle.std.specs.Prelude.{◌≡◌, Option, None, Some, refl}
use Rattle.std.proofs.Common.{ap, ◌∙◌}
use Rattle.node_names.specs.NodeName.{Name}
use Rattle.node_names.specs.declared.ids.Origin.{Origin}
use Rattle.node_core.specs.Plum.{plum_state}
use Rattle.node_core.specs.Steps.{PlumStarts, numbered, opening}
use Rattle.node_threads.specs.Opening.{TellsItsStart, first_receiver}

opening_goes : (me : Origin) (contact : Option Name) → first_receiver (numbered me 0 (opening contact)) ≡ contact
opening_goes me None = refl
opening_goes me (Some contact) = refl

pub plum_tells_its_start : TellsItsStart plum_state PlumStarts
plum_tells_its_start me limits peers contact sends core start =
    record {
      is_me = ap (λ c. c.gossip.me) start.leaves;
      active_are_peers = ap (λ c. c.membership.views.active) start.leaves;
      to_contact = ap first_receiver start.sent ∙ opening_goes me contact;
    }
