-- One more place is put into flight.
use Rattle.std.proofs.Common.{◌≡◌, ◌+◌, ◌-◌, ◌++◌, [], ◌∷◌, sym, ◌∙◌, ap, arith, suc, append_assoc}
use Rattle.protocol.specs.Lists.{places}
use Rattle.world.specs.Flight.{flying}
use Rattle.world.proofs.NodeLemmas.{places-push}
use Rattle.world.proofs.flight.Flight.launch.Goals as goal

pub loop-number-preserved : goal.loop-number-preserved
loop-number-preserved g c =
    let count = c.loop-number.number - c.args.first in
    let low = c.loop-number.auto.number in
    let one_more : c.loop-number.number + 1 - c.args.first ≡ suc count = omega arith in
    let here : c.args.first + count ≡ c.loop-number.number = omega arith in (
      c.push.ensures.numbers
          ∙ ap (λ ns. ns ++ c.loop-number.number ∷ []) c.loop-number.invariant.0
          ∙ append_assoc (flying c.args.self.now) (places c.args.first count) (c.loop-number.number ∷ [])
          ∙ ap (λ ns. flying c.args.self.now ++ ns)
          (sym (ap (λ n. places c.args.first n) one_more ∙ places-push c.args.first count ∙ ap (λ n. places c.args.first count ++ n ∷ []) here)),
      omega arith,
      c.push.ensures.whole,
    )
