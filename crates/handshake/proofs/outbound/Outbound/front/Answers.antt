use Rattle.std.proofs.Common.{◌≡◌, ℕ, true, Bor, List, [], ◌++◌, get_or, length, rules, sym, ap, ◌∙◌}
use Rattle.handshake.specs.Place as place
use Rattle.handshake.proofs.Lines.{lent_four}
use Rattle.handshake.proofs.outbound.Outbound.front.Goals as goal

pub returns-clause-front : goal.returns-clause-front
returns-clause-front g c =
    let xs = c.args.frames in
    let len : length xs ≡ 4 = search rules in
    let is : c.self.inside.place ≡ c.args.self.now.place = ap (λ o. o.place) c.self.view_is in
    let at : place.is_boundary c.args.self.now.place ≡ true =
    ap place.is_boundary (sym is) ∙ sym c.is_boundary.ensures ∙ c.if-not-is_boundary.false in
    let none : Bor (List ℕ) = record { ref_ptr = (0, 0); now = [] } in
    let part : ℕ → List ℕ = λ n. (get_or xs n none).now in
    let records : List ℕ → List ℕ = λ r. (r ++ (part 0 ++ (part 1 ++ (part 2 ++ [])))) ++ part 3 in
    (part 3, ap records c.rest-rest.ensures ∙ lent_four c.args.self.now xs none len at)
