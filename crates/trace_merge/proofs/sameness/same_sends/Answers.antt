-- Each pair is compared.
use Rattle.std.proofs.Common.{◌∙◌, refl, rules, tests}
use Rattle.std.proofs.lemmas.List.{length-map}
use Rattle.std.proofs.lemmas.Iterator.{YieldsList-from_slice, YieldsList-from_zip, same_from_all}
use Rattle.trace_merge.specs.Projection.{said}
use Rattle.trace_merge.proofs.SameSends.{said_from_slice}
use Rattle.trace_merge.proofs.sameness.same_sends.Goals as goal

pub returns-then-packets-sends : goal.returns-then-packets-sends
returns-then-packets-sends g c =
    same_from_all c.all.new.self _ _ _ _ c.all.ensures.ran
    (YieldsList-from_zip (said_from_slice c.args.packets.now cc) (YieldsList-from_slice c.args.sends.now cc))
    (length-map c.args.packets.now said ∙ search rules)
    (λ x q k. (refl, search (rules, tests) fits 20000))
    (λ x q k. search (rules, tests) fits 20000)
