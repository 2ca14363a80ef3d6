use Rattle.std.proofs.Common.{◌∙◌, All, IsNone, ap, length, position, rules, subst, sym}
use Rattle.std.proofs.lemmas.List.Quantifiers.{position-Some}
use Rattle.node_names.specs.Same.{same_name}
use Rattle.wire_node.specs.Waiting.{Waiting}
use Rattle.wire_node.proofs.Drafting.{IsOther}
use Rattle.wire_node.proofs.Sending.{waits_at, waits_none}
use Rattle.wire_node.proofs.idle.waiting_for.Goals as goal

pub returns-in-Some : goal.returns-in-Some
returns-in-Some g c =
    let ws = c.args.entries.now.items in
    let name = c.args.name.now in
    let its = λ (w : Waiting). same_name name w.name in
    let e = c.index.result.now in
    let place = c.in-Some.place in
    let found = position-Some its ws place e (ap (position its) (sym c.deref.ensures.value) ∙ sym c.place_of.ensures.place ∙ c.in-Some.is) in
    c.len.ensures ∙ ap length (sym (waits_at ws name place e found.0 found.1 found.2 ∙ ap (λ (w : Waiting). w.settled) (sym c.index.ensures)))

pub returns-in-None : goal.returns-in-None
returns-in-None g c =
    let none : IsNone c.place_of.result = search rules in
    sym (ap length
    (waits_none c.args.entries.now.items c.args.name.now (subst (All (IsOther c.args.name.now)) c.deref.ensures.value (c.place_of.ensures.none none))))
