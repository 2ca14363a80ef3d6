-- One entry more.
use Rattle.std.proofs.Common.{◌≡◌, ◌∙◌, ◌++◌, ap, subst, sym, List}
use Rattle.std.proofs.lemmas.List.{take_all}
use Rattle.std.specs.Prelude.{reverse}
use Rattle.world.specs.Entry.{Entry}
use Rattle.at_rest.specs.Forest.{branches_at}
use Rattle.at_rest.specs.Tree.{branches_of, tree_of}
use Rattle.at_rest.specs.declared.branch.Branch.{Branch}
use Rattle.at_rest.proofs.Forests.{tree-more}
use Rattle.at_rest.proofs.forest.lists.Goals as goal

pub loop-entry-preserved : goal.loop-entry-preserved
loop-entry-preserved g c id =
    c.in_ok-push_entry.ensures id
    ∙ ap (λ (bs : List Branch). bs ++ branches_of c.args.sent.now id c.entry-item.result) (c.loop-entry.invariant id)
    ∙ sym (tree-more c.args.sent.now id c.args.log.now c.loop-entry.entry-index c.entry-item.result c.loop-entry-test.true c.entry-item.is)

pub returns : goal.returns
returns g c id =
    let Whole : List Entry → Type 0 = λ es. branches_at id c.loop-entry.lists.entries ≡ tree_of c.args.sent.now id (reverse es) in
    subst Whole (take_all c.loop-entry.entry-index c.args.log.now c.loop-entry-test.false) (c.loop-entry.invariant id)
