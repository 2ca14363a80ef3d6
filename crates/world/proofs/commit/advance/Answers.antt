-- The node at the place is the one whose step was prepared.
use Rattle.std.proofs.Common.{◌≡◌, ap, sym, ◌∙◌}
use Rattle.std.specs.Prelude.{Some, option_map}
use Rattle.protocol.specs.Stimulus.{lent}
use Rattle.world.specs.Entry.{Entry}
use Rattle.world.specs.Plan.{stimulus_by}
use Rattle.world.proofs.Changes.{makes, names_stay, stays}
use Rattle.world.proofs.commit.advance.Goals as goal

pub returns-clause-ok : goal.returns-clause-ok
returns-clause-ok g c =
    let told : stimulus_by c.args.sent.now c.args.entry.now.event c.args.entry.now.packet ≡ Some (lent c.in-Some.stimulus) =
    ap (λ (e : Entry). stimulus_by c.args.sent.now e.event e.packet) (sym c.entry.view_is) ∙ sym c.stimulus_by.ensures ∙ ap (option_map lent) c.in-Some.is in
    makes g.C.Core.is_turn c.args.nodes.now.items c.args.sent.now c.args.entry.now c.args.at c.args.turn
    c.requires g.C.Core.after c.advance.result c.index_mut.result.now c.in-Some-core.core c.advance.new.self
    (lent c.in-Some.stimulus) c.index_mut.ensures.value c.in-Some-core.is told c.advance.ensures.ok

pub returns-clause-err : goal.returns-clause-err
returns-clause-err g c =
    stays g.C.Core.is_turn c.args.nodes.now.items c.args.sent.now c.args.entry.now c.args.at c.args.turn c.requires c.advance.result
    c.index_mut.result.now c.in-Some-core.core c.advance.new.self c.index_mut.ensures.value c.in-Some-core.is c.advance.ensures.err

pub returns-clause-names : goal.returns-clause-names
returns-clause-names g c =
    names_stay g.C.Core.is_turn c.args.nodes.now.items c.args.sent.now c.args.entry.now c.args.at c.args.turn c.requires c.index_mut.result.now
    (Some c.advance.new.self) c.index_mut.ensures.value
