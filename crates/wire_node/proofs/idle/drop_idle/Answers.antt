use Rattle.std.proofs.Common.{◌∙◌, ap, subst, sym}
use Rattle.wire_node.specs.Acting.{AreSettled}
use Rattle.wire_node.specs.Waiting.{settled_for}
use Rattle.wire_node.proofs.Sending.{swept}
use Rattle.wire_node.proofs.Stepping.{settled_without}
use Rattle.wire_node.proofs.idle.drop_idle.Goals as goal

pub loop-preserved : goal.loop-preserved
loop-preserved g c =
    record {
      settled = subst AreSettled (sym c.forget.ensures) (settled_without c.in-Some.name c.loop.entries.items c.loop.invariant.settled);
      same =
          λ other. ap (λ ws. settled_for ws other) c.forget.ensures
          ∙ swept c.loop.entries.items c.in-Some.name other c.in-Some.ensures
          ∙ c.loop.invariant.same other;
    }
