-- What stands behind the message is numbered behind it.
use Rattle.std.proofs.Common.{◌∙◌, ◌++◌, Ok, Err, ap, append_assoc, sym}
use Rattle.std.specs.Prelude.{OnErr, Result}
use Rattle.gossip_core.specs.Answers.{pushes}
use Rattle.node_core.specs.Steps.{numbered}
use Rattle.node_core.proofs.Frames.{back_within, behind_fits, numbered-append}
use Rattle.node_core.proofs.output.number_message.Goals as goal

on_err : {T E : Type 0} (r : Result T E) (P : Type 0) → P → OnErr r P
on_err (Ok x) P fact = tt
on_err (Err e) P fact = fact

pub number_list-requires : goal.number_list-requires
number_list-requires g c = behind_fits (pushes c.args.spread.now) c.args.others c.requires

pub returns-in_err-last-clause-err : goal.returns-in_err-last-clause-err
returns-in_err-last-clause-err g c =
    on_err _ _ (back_within c.args.frames.now _ c.number_pushes.new.frames c.number_list.new.frames c.in_ok-pushed.ensures.ok c.in_err-last.ensures.err)

pub returns-clause-ok : goal.returns-clause-ok
returns-clause-ok g c =
    c.in_ok-last.ensures.ok
    ∙ ap (λ frames. frames ++ numbered c.args.me.now c.in_ok-pushed.pushed c.args.others) c.in_ok-pushed.ensures.ok
    ∙ append_assoc c.args.frames.now (numbered c.args.me.now c.args.framed (pushes c.args.spread.now))
    (numbered c.args.me.now c.in_ok-pushed.pushed c.args.others)
    ∙ ap (λ frames. c.args.frames.now ++ frames)
    (sym (numbered-append c.args.me.now c.args.framed (pushes c.args.spread.now) c.args.others c.in_ok-pushed.pushed c.in_ok-pushed.ensures.last))
