-- Each step is written after those before it.
use Rattle.std.proofs.Common.{◌≡◌, ◌++◌, ◌∙◌, ◌+◌, ℕ, suc, [], arith, length, refl, ap, subst}
use Rattle.std.proofs.lemmas.Option.{slice_get_read}
use Rattle.world.specs.Entry.{Entry}
use Rattle.simulation.specs.Play.{empty_group}
use Rattle.simulation.specs.Traced.{TellsStep, TellsSteps}
use Rattle.simulation.proofs.Texts.{unwritten, written}
use Rattle.simulation.proofs.tracing.write_steps.Goals as goal

pub loop-place-init : goal.loop-place-init
loop-place-init g c =
    let begins : c.new-run.result ≡ empty_group c.args.group.now.limits = λ i. record {
      limits = (c.new-run.ensures.limits ∙ c.limits.ensures) i;
      group = record { nodes = c.new-run.ensures.nodes i; sent = c.new-run.ensures.sent i; flight = c.new-run.ensures.flight i };
      log = c.new-run.ensures.log i;
    } in
    ([], (begins, refl), unwritten (g.W.Write.contents c.args.out.now))

pub loop-place-preserved : goal.loop-place-preserved
loop-place-preserved g c =
    let (steps, told, appended) = c.loop-place.invariant in
    let (step, tells, more) = c.in_ok-write_step.ensures in
    let Tells : Entry → Type 0 = λ e. TellsStep c.loop-place.place e.event c.loop-place.run c.write_step.new.run step in
    let listed =
    rw c.log-entry-items.ensures at (slice_get_read c.log-entry-items.result.now
    (length c.log-entry-items.result.now) c.loop-place.place c.entry-item.result refl c.loop-place-test.true c.entry-item.is) in
    let Told : ℕ → Type 0 = λ n. TellsSteps c.args.group.now.limits c.args.group.now.log n c.write_step.new.run (steps ++ step) in
    let longer : Told (suc c.loop-place.place) = (c.loop-place.run, steps, step, c.entry-item.result, told, listed, subst Tells c.entry.view_is tells, refl) in
    let next : suc c.loop-place.place ≡ c.loop-place.place + 1 = omega arith in
    (steps ++ step, subst Told next longer, written _ _ _ _ _ _ appended more refl)

pub returns : goal.returns
returns g c =
    let (steps, told, appended) = c.loop-place.invariant in
    let whole : length c.log-entry-items.result.now ≡ length c.args.group.now.log = ap length c.log-entry-items.ensures in
    let end : c.loop-place.place ≡ length c.args.group.now.log = omega arith in
    let Told : ℕ → Type 0 = λ n. TellsSteps c.args.group.now.limits c.args.group.now.log n c.loop-place.run steps in
    (steps, subst Told end told, appended)
