use Rattle.std.proofs.Common.{◌++◌, ◌∙◌, ap, take}
use Rattle.wire_node.proofs.Filling.{filled_twice}
use Rattle.wire_node.proofs.connections.top_up.Goals as goal

pub returns-in-Ok-clause-ok : goal.returns-in-Ok-clause-ok
returns-in-Ok-clause-ok g c =
    let one = c.fill.new.left.items in
    filled_twice c.args.left.now.items c.args.bytes.now one c.fill-2.new.left.items c.in_ok-front.front c.in-Ok.count c.in_ok-front.ensures.ok
    (c.in-Ok.ensures.ok ∙ ap (λ bytes. one ++ take c.in-Ok.count bytes) c.after.ensures)
