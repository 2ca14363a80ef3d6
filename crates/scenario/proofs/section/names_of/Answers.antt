-- A value that is no name leaves no list of names; and each step adds one name.
use Rattle.std.proofs.Common.{◌∙◌, ap, [], Some, get_or}
use Rattle.std.proofs.lemmas.List.Elements.{All-push, All-get_or}
use Rattle.std.proofs.lemmas.Option.{same_Some}
use Rattle.toml.specs.View.{view}
use Rattle.node_names.specs.NodeName.{IsNodeName}
use Rattle.scenario.proofs.Items.{text_at, texts-more}
use Rattle.scenario.proofs.section.names_of.Goals as goal

pub returns-in-None : goal.returns-in-None
returns-in-None c names e each =
    let found = text_at c.args.values.now names c.loop-value.value-index c.value-item.result e c.loop-value-test.true in
    c.in-None.ensures (get_or names c.loop-value.value-index [])
    (ap Some (ap view c.value-item.is ∙ found.1), All-get_or IsNodeName names c.loop-value.value-index [] found.0 each)

pub loop-value-preserved : goal.loop-value-preserved
loop-value-preserved c =
    let more =
    texts-more c.args.values.now c.loop-value.names c.loop-value.value-index c.value-item.result
    c.in-Some.name c.loop-value-test.true c.value-item.is c.loop-value.invariant.0
    (same_Some _ _ c.in-Some.ensures.0) in
    rw c.in_ok-push-in-Some.ensures.ok (more, All-push IsNodeName c.loop-value.names c.in-Some.name c.loop-value.invariant.1 c.in-Some.ensures.1)
