use Rattle.std.proofs.Common.{◌∙◌, [], All, IsNone, ap, arith, position, rules, set, subst, sym}
use Rattle.std.proofs.lemmas.List.Quantifiers.{position-Some}
use Rattle.std.proofs.lemmas.Result.{on_err_weaker, on_ok_weaker}
use Rattle.node_names.specs.Same.{same_name}
use Rattle.wire_node.specs.Waiting.{Waiting, spelling, with_draft}
use Rattle.wire_node.proofs.Drafting.{IsOther, draft_at, keeps_set}
use Rattle.wire_node.proofs.drafts.draft.Goals as goal

pub index_mut-requires : goal.index_mut-requires
index_mut-requires g c =
    let its = λ (w : Waiting). same_name c.args.name w.name in
    let d : Waiting = record { name = c.args.name; settled = []; drafted = [] } in
    let found =
    position-Some its c.args.entries.now.items c.in-Some.place d
    (ap (position its) (sym c.deref.ensures.value) ∙ sym c.place_of.ensures.place ∙ c.in-Some.is) in
    omega (arith, found.0, c.args.entries.now.ok.0)

pub draft_first-requires : goal.draft_first-requires
draft_first-requires g c =
    let none : IsNone c.place_of.result = search rules in
    subst (All (IsOther c.args.name)) c.deref.ensures.value (c.place_of.ensures.none none)

pub returns-in-Some-clause-ok : goal.returns-in-Some-clause-ok
returns-in-Some-clause-ok g c =
    let its = λ (w : Waiting). same_name c.args.name w.name in
    let olds = c.args.entries.now.items in
    let bytes = spelling c.args.frame.now in
    let d = c.index_mut.result.now in
    let found = position-Some its olds c.in-Some.place d (ap (position its) (sym c.deref.ensures.value) ∙ sym c.place_of.ensures.place ∙ c.in-Some.is) in
    on_ok_weaker c.draft.result
    (λ e. ap (set olds c.in-Some.place) (e ∙ ap (λ (w : Waiting). with_draft w bytes) c.index_mut.ensures.value)
    ∙ sym (draft_at olds c.args.name bytes c.in-Some.place d found.0 found.1 found.2))
    c.draft.ensures.ok

pub returns-in-Some-clause-err : goal.returns-in-Some-clause-err
returns-in-Some-clause-err g c =
    let its = λ (w : Waiting). same_name c.args.name w.name in
    let olds = c.args.entries.now.items in
    let d = c.index_mut.result.now in
    let found = position-Some its olds c.in-Some.place d (ap (position its) (sym c.deref.ensures.value) ∙ sym c.place_of.ensures.place ∙ c.in-Some.is) in
    on_err_weaker c.draft.result (λ e. keeps_set olds c.in-Some.place d c.draft.new.self found.0 c.index_mut.ensures.value e) c.draft.ensures.err
