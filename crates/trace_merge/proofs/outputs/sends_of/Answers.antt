-- One packet more.
use Rattle.std.proofs.Common.{◌∙◌, ◌++◌, [], ◌∷◌, ap, sym, take}
use Rattle.std.specs.Prelude.{map}
use Rattle.std.proofs.lemmas.List.{map-append, take_more}
use Rattle.trace_merge.specs.Projection.{said}
use Rattle.trace_merge.proofs.outputs.sends_of.Goals as goal

pub loop-packet-preserved : goal.loop-packet-preserved
loop-packet-preserved g c =
    c.in_ok-push.ensures.items
    ∙ ap (λ xs. xs ++ c.in_ok-said.field-0 ∷ []) c.loop-packet.invariant
    ∙ ap (λ y. map said (take c.loop-packet.packet-index c.args.packets.now) ++ y ∷ []) c.in_ok-said.ensures
    ∙ sym (map-append said (take c.loop-packet.packet-index c.args.packets.now) (c.packet-item.result ∷ []))
    ∙ ap (map said) (ap (λ x. take c.loop-packet.packet-index c.args.packets.now ++ x ∷ []) c.packet-item.is
    ∙ sym (take_more c.args.packets.now c.loop-packet.packet-index c.packet-item.result c.loop-packet-test.true))
