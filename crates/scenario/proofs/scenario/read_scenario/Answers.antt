-- A text that is a document describes no other scenario than its document does.
use Rattle.std.proofs.Common.{◌∙◌, subst, sym}
use Rattle.std.proofs.lemmas.Option.{same_Some}
use Rattle.std.proofs.lemmas.Result.{MatchResult-weaker}
use Rattle.toml.specs.Data.{Members}
use Rattle.scenario.specs.Scenario.{Describes}
use Rattle.scenario.specs.declared.scenario.TheConstants.{MAX_EVENTS}
use Rattle.scenario.proofs.scenario.read_scenario.Goals as goal

pub returns-clause-refused : goal.returns-clause-refused
returns-clause-refused c =
    MatchResult-weaker c.from_document.result c.from_document.ensures.refused (λ _ h. h) (λ fault refused has_memory seed sizes actions scenario.
    let P : Members → Type 0 = λ d. Describes MAX_EVENTS d seed sizes actions in
    refused has_memory seed sizes actions (subst P (same_Some _ _ (sym scenario.parsed ∙ c.in_ok-document.ensures.ok.1)) scenario.described))
