use Rattle.std.proofs.Common.{◌≡◌, ◌∙◌, ◌++◌, ◌∷◌, [], Some, subst, sym}
use Rattle.std.specs.List.{All, position}
use Rattle.std.proofs.lemmas.List.Elements.{All-append}
use Rattle.std.proofs.lemmas.Result.{on_ok_weaker}
use Rattle.node_names.specs.Same.{same_name}
use Rattle.node_threads.specs.Letters.{IsAddressed, Letter}
use Rattle.node_threads.specs.LinkText.{spelling}
use Rattle.node_threads.proofs.Lettering.{addressed_at, all_of_one}
use Rattle.node_threads.proofs.cell.posting.address.Goals as goal

pub returns-in-Some-clause-addressed : goal.returns-in-Some-clause-addressed
returns-in-Some-clause-addressed g c =
    let names = c.args.names.now.keys in
    let placed : position (same_name c.args.send.now.0) names ≡ Some c.in-Some.place = sym c.get_index_of.ensures.index ∙ c.in-Some.is in
    let letter : Letter = (c.args.send.now.0, c.in-Some.place, spelling c.args.send.now.1) in
    let more : c.add_letter.new.letters.items ≡ c.args.letters.now.items ++ letter ∷ [] →
    All (IsAddressed names) c.args.letters.now.items →
    All (IsAddressed names) c.add_letter.new.letters.items =
    λ new all. subst (All (IsAddressed names)) (sym new) (All-append (IsAddressed names) c.args.letters.now.items
    (letter ∷ []) all (all_of_one (IsAddressed names) letter (addressed_at names c.args.send.now.0 c.in-Some.place placed))) in
    on_ok_weaker c.add_letter.result more c.add_letter.ensures
