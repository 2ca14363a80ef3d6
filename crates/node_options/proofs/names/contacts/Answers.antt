-- The names are the texts of the words.
use Rattle.std.proofs.Common.{◌≡◌, ◌∙◌, Some, ap, map, rules, sym}
use Rattle.node_options.specs.Told.{Word, text_of}
use Rattle.node_options.specs.Given.{all_said}
use Rattle.node_options.proofs.Somes.{equal_from_Somes, map-text_of-Word}
use Rattle.node_options.proofs.names.contacts.Goals as goal

pub returns-clause-words : goal.returns-clause-words
returns-clause-words c names given =
    let said : all_said c.in_ok-all.field-0.items ≡ map Word names = c.in_ok-all.ensures.words names given in
    let texts : map text_of (all_said c.in_ok-all.field-0.items) ≡ map Some c.in_ok-contacts.contacts.items = search rules in
    equal_from_Somes c.in_ok-contacts.contacts.items names (sym texts ∙ (ap (map text_of) said ∙ map-text_of-Word names))
