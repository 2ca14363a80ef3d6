-- A text that is a document describes no other scenario than its document does.
use Rattle.std.proofs.Common.{◌∙◌, subst, sym}
use Rattle.std.proofs.lemmas.Option.{same_Some}
use Rattle.std.proofs.lemmas.Result.{MatchResult-weaker}
use Rattle.scenario.specs.Scenario.{Describes}
use Rattle.scenario.specs.declared.scenario.TheConstants.{MAX_EVENTS}
use Rattle.simulation.proofs.reading.read_events.Goals as goal

pub returns-in-Ok-clause-refused : goal.returns-in-Ok-clause-refused
returns-in-Ok-clause-refused c =
    MatchResult-weaker c.from_document-read.result c.from_document-read.ensures.refused (λ _ h. h) (λ fault refused has_memory seed sizes actions scenario.
    let same = same_Some _ _ (sym scenario.parsed ∙ c.in-Ok.ensures.ok.1) in
    refused has_memory seed sizes actions (subst (λ d. Describes MAX_EVENTS d seed sizes actions) same scenario.described))
