use Rattle.std.proofs.Common.{◌≤◌, ◌∙◌, ap, arith, drop, length}
use Rattle.std.proofs.lemmas.List.{length-take}
use Rattle.wire_node.specs.Waiting.{Waiting}
use Rattle.wire_node.proofs.Drafting.{advanced, made}
use Rattle.wire_node.proofs.drafts.Entry.advance.Goals as goal

pub returns : goal.returns
returns g c =
    let few : c.args.count ≤ c.self.inside.kept =
    omega (arith, c.requires, ap (λ (w : Waiting). length w.settled) c.self.view_is, length-take c.self.inside.kept c.self.inside.bytes) in
    advanced c.self.inside.name c.self.inside.bytes c.advance.new.self c.self.inside.kept c.args.count few c.advance.ensures
    ∙ ap (λ (w : Waiting). made w.name (drop c.args.count w.settled) w.drafted) c.self.view_is
