use Rattle.std.proofs.Common.{◌∙◌, ap, nat_eq}
use Rattle.std.specs.Cmp.Lexicographic.{pointwise}
use Rattle.node_names.specs.NodeName.{held_name}
use Rattle.node_names.proofs.Packing.{same-packed}
use Rattle.node_names.proofs.name.NodeNamePartialEq.eq.Goals as goal

pub returns : goal.returns
returns c =
    c.eq.ensures ∙ same-packed _ _ c.self.invariant c.other.invariant
    ∙ ap (λ a. pointwise nat_eq a (held_name c.other.inside.bytes)) c.self.view_is ∙ ap (pointwise nat_eq c.args.self.now) c.other.view_is
