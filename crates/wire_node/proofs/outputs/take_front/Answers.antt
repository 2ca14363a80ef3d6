use Rattle.std.proofs.Common.{◌≡◌, ◌≤◌, ◌∙◌, All, IsNone, ap, arith, get_or, length, min, position, refl, rules, set, subst, sym}
use Rattle.std.proofs.lemmas.List.{get_or_default}
use Rattle.std.proofs.lemmas.List.Quantifiers.{position-Some}
use Rattle.node_names.specs.Same.{same_name}
use Rattle.wire_node.specs.Acting.{AreSettled}
use Rattle.wire_node.specs.Waiting.{Waiting, settled_for}
use Rattle.wire_node.proofs.Apart.{apart_set}
use Rattle.wire_node.proofs.Drafting.{IsOther}
use Rattle.wire_node.proofs.Ends.{least}
use Rattle.wire_node.proofs.Sending.{gone_at, gone_none, less_of, less_settled, settled_at, settled_set, with_less}
use Rattle.wire_node.proofs.outputs.take_front.Goals as goal

pub returns-in_default-clause-gone : goal.returns-in_default-clause-gone
returns-in_default-clause-gone g c other =
    let none : IsNone c.place_of.result = search rules in
    let name = c.args.name.now in
    gone_none c.args.entries.now.items name c.args.count other (subst (All (IsOther name)) c.deref.ensures.value (c.place_of.ensures.none none))

pub index_mut-requires : goal.index_mut-requires
index_mut-requires g c =
    let its = λ (w : Waiting). same_name c.args.name.now w.name in
    let found =
    position-Some its c.args.entries.now.items c.in-Some.place c.index.result.now
    (ap (position its) (sym c.deref.ensures.value) ∙ sym c.place_of.ensures.place ∙ c.in-Some.is) in
    omega (arith, found.0, c.args.entries.now.ok.0)

pub advance-requires : goal.advance-requires
advance-requires g c =
    let ws = c.args.entries.now.items in
    let its = λ (w : Waiting). same_name c.args.name.now w.name in
    let d = c.index_mut.result.now in
    let i = c.index.result.now in
    let found = position-Some its ws c.in-Some.place d (ap (position its) (sym c.deref.ensures.value) ∙ sym c.place_of.ensures.place ∙ c.in-Some.is) in
    let same : i ≡ d = c.index.ensures ∙ get_or_default ws c.in-Some.place i d found.0 ∙ sym c.index_mut.ensures.value in
    let few : c.min-taken.result ≤ c.len.result = (least _ _ _ c.min-taken.ensures).1 in
    omega (arith, few, c.len.ensures, ap (λ (w : Waiting). length w.settled) same)

pub returns-clause-settled : goal.returns-clause-settled
returns-clause-settled g c =
    let ws = c.args.entries.now.items in
    let count = c.args.count in
    let place = c.in-Some.place in
    let its = λ (w : Waiting). same_name c.args.name.now w.name in
    let d = c.index_mut.result.now in
    let i = c.index.result.now in
    let found = position-Some its ws place d (ap (position its) (sym c.deref.ensures.value) ∙ sym c.place_of.ensures.place ∙ c.in-Some.is) in
    let e = get_or ws place d in
    let few : c.min-taken.result ≡ min count (length e.settled) =
    c.min-taken.ensures ∙ ap (min count) (c.len.ensures ∙ ap (λ (w : Waiting). length w.settled) (c.index.ensures ∙ get_or_default ws place i d found.0)) in
    let new : c.advance.new.self ≡ with_less count e =
    less_of count d e c.advance.new.self c.min-taken.result c.index_mut.ensures.value few c.advance.ensures in
    subst (λ (w : Waiting). AreSettled (set ws place w)) (sym new) (
      settled_set ws place (with_less count e) c.requires.0 (less_settled count e (settled_at ws place d c.requires.0 found.0)),
      apart_set ws place (with_less count e) d found.0 refl c.requires.1,
    )

pub returns-clause-gone : goal.returns-clause-gone
returns-clause-gone g c other =
    let ws = c.args.entries.now.items in
    let count = c.args.count in
    let place = c.in-Some.place in
    let name = c.args.name.now in
    let its = λ (w : Waiting). same_name name w.name in
    let d = c.index_mut.result.now in
    let i = c.index.result.now in
    let found = position-Some its ws place d (ap (position its) (sym c.deref.ensures.value) ∙ sym c.place_of.ensures.place ∙ c.in-Some.is) in
    let e = get_or ws place d in
    let few : c.min-taken.result ≡ min count (length e.settled) =
    c.min-taken.ensures ∙ ap (min count) (c.len.ensures ∙ ap (λ (w : Waiting). length w.settled) (c.index.ensures ∙ get_or_default ws place i d found.0)) in
    let new : c.advance.new.self ≡ with_less count e =
    less_of count d e c.advance.new.self c.min-taken.result c.index_mut.ensures.value few c.advance.ensures in
    ap (λ (w : Waiting). settled_for (set ws place w) other) new ∙ gone_at ws name place d count other found.0 found.1 found.2
