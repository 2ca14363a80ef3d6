-- One announcement more.
use Rattle.std.proofs.Common.{ℕ, [], ◌∷◌, map, refl}
use Rattle.node_names.specs.NodeName.{Name}
use Rattle.node_names.specs.declared.ids.MsgId.{MsgId}
use Rattle.at_rest.proofs.Adding.{adds-more, adds-none}
use Rattle.at_rest.proofs.unrest.add_queued.Goals as goal

pub loop-entry-init : goal.loop-entry-init
loop-entry-init g c = adds-none c.args.ids.now.keys

pub loop-entry-preserved : goal.loop-entry-preserved
loop-entry-preserved g c =
    adds-more (λ (entry : Name × MsgId × ℕ). entry.1 ∷ [])
    (map (λ (entry : Name × MsgId × ℕ). entry.1))
    refl
    (λ entry entries. refl)
    c.args.queued.now c.loop-entry.entry-index c.entry-item.result c.entry-item.result c.args.ids.now.keys
    c.loop-entry.ids.keys c.add.new.ids.keys c.loop-entry-test.true c.entry-item.is c.loop-entry.invariant c.in_ok-add.ensures
