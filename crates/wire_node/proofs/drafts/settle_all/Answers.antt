use Rattle.std.proofs.Common.{◌<◌, ◌∙◌, ap, arith, length}
use Rattle.std.proofs.lemmas.List.{length-set}
use Rattle.wire_node.specs.Waiting.{settled}
use Rattle.wire_node.proofs.Drafting.{mapped_all, mapped_more}
use Rattle.wire_node.proofs.drafts.settle_all.Goals as goal

pub loop-place-preserved : goal.loop-place-preserved
loop-place-preserved g c =
    let olds = c.args.entries.now.items in
    let within : c.loop-place.place < length olds = omega (arith, c.loop-place-test.true, c.args.entries.now.ok.0) in (
      length-set c.loop-place.entries.items c.loop-place.place c.settle.new.self ∙ c.loop-place.invariant.0,
      mapped_more settled olds c.loop-place.entries.items c.loop-place.place c.index_mut.result.now c.settle.new.self within c.loop-place.invariant.1
          (c.settle.ensures ∙ ap settled c.index_mut.ensures.value),
    )

pub returns : goal.returns
returns g c =
    mapped_all settled c.args.entries.now.items c.loop-place.entries.items c.loop-place.place
    (omega (arith, c.loop-place-test.false, c.args.entries.now.ok.0)) c.loop-place.invariant.1
