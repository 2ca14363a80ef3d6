use Rattle.std.proofs.Common.{◌≡◌, ◌<◌, ◌++◌, ◌∙◌, [], All, IsNone, List, ℕ, ap, arith, length, position, rules, subst, sym}
use Rattle.std.proofs.lemmas.List.{append-nil}
use Rattle.std.proofs.lemmas.List.Quantifiers.{position-Some}
use Rattle.node_names.specs.Same.{same_name}
use Rattle.wire_node.specs.Waiting.{Waiting, settled_for}
use Rattle.wire_node.proofs.Drafting.{IsOther}
use Rattle.wire_node.proofs.Sending.{settled_at, waits_at, waits_none}
use Rattle.wire_node.proofs.outputs.front_of.Goals as goal

pub returns-in-Some-clause-front : goal.returns-in-Some-clause-front
returns-in-Some-clause-front g c =
    let ws = c.args.entries.now.items in
    let name = c.args.name.now in
    let its = λ (w : Waiting). same_name name w.name in
    let e = c.index.result.now in
    let place = c.in-Some.place in
    let found = position-Some its ws place e (ap (position its) (sym c.deref.ensures.value) ∙ sym c.place_of.ensures.place ∙ c.in-Some.is) in
    let waits : settled_for ws name ≡ e.settled = waits_at ws name place e found.0 found.1 found.2 ∙ ap (λ (w : Waiting). w.settled) (sym c.index.ensures) in
    let none : e.drafted ≡ [] =
    ap (λ (w : Waiting). w.drafted) c.index.ensures ∙ ap (λ (w : Waiting). w.drafted) (sym (settled_at ws place e c.requires.0 found.0)) in
    (c.slices.ensures.front.0, c.slices.ensures.front.1 ∙ ap (λ (t : List ℕ). e.settled ++ t) none ∙ append-nil e.settled ∙ sym waits)

pub returns-in-Some-clause-some : goal.returns-in-Some-clause-some
returns-in-Some-clause-some g c some =
    let ws = c.args.entries.now.items in
    let name = c.args.name.now in
    let its = λ (w : Waiting). same_name name w.name in
    let e = c.index.result.now in
    let place = c.in-Some.place in
    let found = position-Some its ws place e (ap (position its) (sym c.deref.ensures.value) ∙ sym c.place_of.ensures.place ∙ c.in-Some.is) in
    let waits : settled_for ws name ≡ e.settled = waits_at ws name place e found.0 found.1 found.2 ∙ ap (λ (w : Waiting). w.settled) (sym c.index.ensures) in
    c.slices.ensures.some (subst (λ (t : List ℕ). 0 < length t) waits some)

pub returns-in-None-clause-some : goal.returns-in-None-clause-some
returns-in-None-clause-some g c some =
    let none : IsNone c.place_of.result = search rules in
    let name = c.args.name.now in
    let empty = waits_none c.args.entries.now.items name (subst (All (IsOther name)) c.deref.ensures.value (c.place_of.ensures.none none)) in
    absurd (omega (arith, some, ap length empty))
