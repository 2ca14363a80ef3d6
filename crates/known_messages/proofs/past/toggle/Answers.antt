-- An edge that is found goes away, and one that is not goes between the lesser and the greater ones.
use Rattle.std.proofs.Common.{◌≡◌, ◌∙◌, List, ℕ, Ok, Err, Option, ap, sym, subst, arith, get_or, ◌<◌, length}
use Rattle.std.specs.Prelude.{nat_le, insert, OnSome}
use Rattle.std.specs.List.{remove}
use Rattle.std.proofs.lemmas.List.Sorted.{searched}
use Rattle.known_messages.specs.Past.{is_covered, toggled}
use Rattle.known_messages.specs.Span.{Ascends}
use Rattle.known_messages.proofs.NumberLemmas.{Ascends-insert, rises}
use Rattle.known_messages.proofs.PastLemmas.{Ascends-remove, covered-insert, covered-remove}
use Rattle.known_messages.proofs.past.toggle.Goals as goal

inserted : (g : _) (c : goal.After-unwrap g) → c.insert.new.self.items ≡ insert c.args.edges.now.items c.in-Err.place c.args.edge
inserted g c = rw c.unwrap.ensures at c.insert.ensures.items

found : (g : _) (c : goal.After-remove g) → (c.in-Ok.place < length c.args.edges.now.items) × (get_or c.args.edges.now.items c.in-Ok.place 0 ≡ c.args.edge)
found g c = searched c.args.edges.now.items c.args.edge (Ok c.in-Ok.place) c.in-Ok.ensures.position (rises 0 c.args.edges.now.items c.requires.order)

removed : (g : _) (c : goal.After-remove g) → c.remove.new.self.items ≡ remove c.args.edges.now.items c.in-Ok.place
removed g c =
    subst (λ (r : Option ℕ). OnSome r (c.remove.new.self.items ≡ remove c.args.edges.now.items c.in-Ok.place))
    (c.remove.ensures.succeeds 0 (omega (arith, (found g c).0, c.args.edges.now.ok.0))) c.remove.ensures.items

pub returns-in-Ok-clause-order : goal.returns-in-Ok-clause-order
returns-in-Ok-clause-order g c =
    λ low lower up. subst (Ascends low) (sym (removed g c)) (Ascends-remove low c.args.edges.now.items c.in-Ok.place (found g c).0 up)

pub returns-in-Ok-clause-covered : goal.returns-in-Ok-clause-covered
returns-in-Ok-clause-covered g c = λ m.
    ap (λ (es : List ℕ). is_covered es m) (removed g c)
    ∙ covered-remove c.args.edges.now.items c.in-Ok.place m (found g c).0
    ∙ ap (λ (e : ℕ). toggled (nat_le e m) (is_covered c.args.edges.now.items m)) (found g c).1

pub returns-in-Err-clause-order : goal.returns-in-Err-clause-order
returns-in-Err-clause-order g c = λ low lower up.
    let place = searched c.args.edges.now.items c.args.edge (Err c.in-Err.place) c.in-Err.ensures.position (rises 0 c.args.edges.now.items c.requires.order) in
    subst (Ascends low) (sym (inserted g c))
    (Ascends-insert low c.args.edge c.args.edges.now.items c.in-Err.place c.ranges.edge.fits lower place.0 place.1 place.2 up)

pub returns-in-Err-clause-covered : goal.returns-in-Err-clause-covered
returns-in-Err-clause-covered g c =
    λ m. ap (λ (es : List ℕ). is_covered es m) (inserted g c) ∙ covered-insert c.args.edges.now.items c.in-Err.place c.args.edge m
