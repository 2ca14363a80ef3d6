use Rattle.std.proofs.Common.{◌<◌, ◌∙◌, arith, length}
use Rattle.std.proofs.lemmas.List.{length-set}
use Rattle.plumtree_c.specs.Stirring.{mixed}
use Rattle.wire_node.proofs.Drafting.{mapped_all, mapped_more}
use Rattle.plumtree_c.proofs.stirred.mix_all.Goals as goal

pub loop-i-preserved : goal.loop-i-preserved
loop-i-preserved c =
    let olds = c.args.words.now in
    let within : c.loop-i.i < length olds = omega (arith, c.loop-i-test.true) in (
      length-set c.loop-i.words c.loop-i.i c.mixed.result ∙ c.loop-i.invariant.0,
      mapped_more mixed olds c.loop-i.words c.loop-i.i 0 c.mixed.result within c.loop-i.invariant.1 c.mixed.ensures,
    )

pub returns : goal.returns
returns c = mapped_all mixed c.args.words.now c.loop-i.words c.loop-i.i (omega (arith, c.loop-i-test.false)) c.loop-i.invariant.1
