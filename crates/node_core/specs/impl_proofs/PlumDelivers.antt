-- A step of the core delivers at most one message. A proof only; nothing here has to be trusted.
use Rattle.std.specs.Prelude.{◌≤◌, ℕ, List, Option, Some, None, length}
use Rattle.std.proofs.Common.{ap, arith, sym, subst}
use Rattle.node_names.specs.declared.ids.MsgId.{MsgId}
use Rattle.node_names.specs.declared.ids.Origin.{Origin}
use Rattle.protocol.specs.DeliveryLaw.{ids}
use Rattle.protocol.specs.OneDelivery.{OneDelivery}
use Rattle.node_core.specs.Plum.{plum_state}
use Rattle.node_core.specs.Steps.{PlumSteps, delivered_at, turned}

one_at_most : (me : Origin) (message : Option (MsgId × List ℕ)) → length (delivered_at me message) ≤ 1
one_at_most me None = omega arith
one_at_most me (Some message) = omega arith

pub plum_delivers_one : OneDelivery plum_state PlumSteps
plum_delivers_one =
    record {
      at_most_one =
          λ old stimulus sends given new s.
          subst (λ g. length g ≤ 1) (sym s.delivers) (one_at_most old.me (turned old.me old.membership old.gossip stimulus).delivered);
      of_broadcast = λ old payload sends given new s. ap ids s.delivers;
    }
