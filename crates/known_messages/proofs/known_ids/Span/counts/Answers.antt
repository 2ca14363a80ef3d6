use Rattle.std.proofs.Common.{◌+◌, subst}
use Rattle.known_messages.specs.Span.{Ascends, Span}
use Rattle.known_messages.proofs.SpanLemmas.{none_last}
use Rattle.known_messages.proofs.known_ids.Span.counts.Goals as goal

pub returns-clause-last : goal.returns-clause-last
returns-clause-last g c =
    λ last. none_last c.args.self.now.unbroken c.args.self.now.past (subst (λ (s : Span). Ascends (s.unbroken + 1) s.past) c.self.view_is c.self.invariant) last
