-- What a search finds tells how many edges are not greater.
use Rattle.std.proofs.Common.{◌∙◌, ◌^◌, Ok, Err, ap, sym, refl}
use Rattle.std.specs.Prelude.{nat_eq}
use Rattle.std.specs.List.{list_any}
use Rattle.std.proofs.lemmas.List.Sorted.{searched}
use Rattle.known_messages.specs.Past.{Past}
use Rattle.known_messages.proofs.NumberLemmas.{rises}
use Rattle.known_messages.proofs.PastLemmas.{any-between, covered_at, covered_behind}
use Rattle.known_messages.proofs.past.Past.contains.Goals as goal

pub returns-in-Ok : goal.returns-in-Ok
returns-in-Ok g c =
    let edges = c.self.inside.edges.items in
    let place = searched edges c.args.n (Ok c.in-Ok.place) c.in-Ok.ensures.position (rises 0 edges c.self.invariant) in
    covered_at c.args.n edges c.in-Ok.place c.self.invariant place.0 place.1
    ∙ sym (any-between (2 ^ 64) refl 0 c.args.n edges c.ranges.n.fits c.self.invariant)
    ∙ ap (λ (p : Past). list_any (nat_eq c.args.n) p.numbers) c.self.view_is

pub returns-in-Err : goal.returns-in-Err
returns-in-Err g c =
    let edges = c.self.inside.edges.items in
    let place = searched edges c.args.n (Err c.in-Err.place) c.in-Err.ensures.position (rises 0 edges c.self.invariant) in
    covered_behind c.args.n edges c.in-Err.place place.0 place.1 place.2
    ∙ sym (any-between (2 ^ 64) refl 0 c.args.n edges c.ranges.n.fits c.self.invariant)
    ∙ ap (λ (p : Past). list_any (nat_eq c.args.n) p.numbers) c.self.view_is
