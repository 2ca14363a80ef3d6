use Rattle.std.proofs.Common.{◌∙◌, ◌-◌, length, drop, ap, arith}
use Rattle.std.proofs.lemmas.List.{length-drop, take_all}
use Rattle.node_names.specs.Slots.{somes}
use Rattle.missing.proofs.SlotLemmas.{gone-somes}
use Rattle.missing.proofs.timers.behind.Goals as goal

pub returns : goal.returns
returns c =
    ap somes
    (take_all (length c.args.slots.now - c.args.gone) (drop c.args.gone c.args.slots.now) (let e = length-drop c.args.gone c.args.slots.now in omega arith))
    ∙ gone-somes c.args.gone c.args.slots.now c.requires.gone
