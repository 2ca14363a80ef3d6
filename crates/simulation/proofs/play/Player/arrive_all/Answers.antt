-- An arrival that is refused comes after those before it; and after the most arrivals something is in flight still.
use Rattle.std.proofs.Common.{◌≡◌, ◌∙◌, arith, refl, ap, length, subst}
use Rattle.std.proofs.lemmas.Bool.Decides.{nat_tests}
use Rattle.node_names.specs.declared.dice.Dice.{Dice}
use Rattle.simulation.specs.Play.{Refuses, oldest}
use Rattle.simulation.specs.Rolls.{rolls_in}
use Rattle.simulation.specs.declared.play.ActionError.TheVariants.{Refused}
use Rattle.simulation.specs.declared.play.TheConstants.{MAX_ARRIVALS}
use Rattle.simulation.proofs.play.Player.arrive_all.Goals as goal

pub returns-in-Err-clause-halted : goal.returns-in-Err-clause-halted
returns-in-Err-clause-halted g c has_memory =
    let refused = c.in-Err.ensures.refused (λ memory. has_memory (ap Refused memory)) in
    let IsRefused : Dice → Type 0 =
    λ dice. Refuses g.C.Core.state g.C.Core.starts g.C.Core.steps g.C.Note.Wire.content g.C.Core.is_spent (oldest dice) c.in-Err.why c.step.new.self.group in (
      c.loop.counter,
      c.loop-test.true,
      record { rolls = rolls_in c.loop.self.rolls; group = c.loop.self.group },
      c.loop.invariant,
      refused.0,
      subst IsRefused c.roll.ensures.dice refused.1,
    )

pub returns-else-is_empty-2-clause-halted : goal.returns-else-is_empty-2-clause-halted
returns-else-is_empty-2-clause-halted g c _ =
    let all : c.loop.counter ≡ MAX_ARRIVALS = omega arith in (
      refl,
      c.loop.counter,
      all,
      record { rolls = rolls_in c.loop.self.rolls; group = c.loop.self.group },
      c.loop.invariant,
      refl,
      λ none.
          let empty : length c.flight-2.result.now ≡ 0 = ap length (c.flight-2.ensures ∙ none) in
          absurd (grind (arith, nat_tests, c.is_empty-2.ensures, c.if-is_empty-2.false, empty)),
    )
