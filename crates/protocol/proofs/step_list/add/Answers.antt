use Rattle.std.proofs.Common.{◌≡◌, ◌∙◌, ◌++◌, ◌∷◌, [], ap, sym, subst, rules, arith}
use Rattle.std.specs.Arc.{arc_value}
use Rattle.protocol.specs.Segments.{Abut, joined}
use Rattle.protocol.proofs.Segments.{abut_more, joined_more}
use Rattle.protocol.proofs.step_list.add.Goals as goal

pub returns-then-not-is_empty-clause-abut : goal.returns-then-not-is_empty-clause-abut
returns-then-not-is_empty-clause-abut g c =
    let is : c.push.new.self.items ≡ c.args.parts.now.items ++ arc_value c.args.segment ∷ [] = search rules in
    subst (Abut 0) (sym is) (abut_more 0 c.args.parts.now.items (arc_value c.args.segment) c.requires.abut (c.requires.first ∙ omega arith))

pub returns-then-not-is_empty-clause-steps : goal.returns-then-not-is_empty-clause-steps
returns-then-not-is_empty-clause-steps g c =
    let is : c.push.new.self.items ≡ c.args.parts.now.items ++ arc_value c.args.segment ∷ [] = search rules in
    ap joined is ∙ joined_more c.args.parts.now.items (arc_value c.args.segment)
