use Rattle.std.proofs.Common.{◌∙◌, ◌<◌, sym, subst}
use Rattle.indexmap.specs.IndexMap.{get}
use Rattle.node_names.specs.Same.{same_id}
use Rattle.missing.specs.Slots.{AreGone, has_timer}
use Rattle.missing.proofs.SlotLemmas.{gone-set, within-place}
use Rattle.missing.proofs.TimerLemmas.{disarmed, not_armed, timed-taken_out}
use Rattle.missing.proofs.timers.disarm.Goals as goal

pub index_mut-requires : goal.index_mut-requires
index_mut-requires g c =
    subst (λ n. c.in-Some.at < n) (sym c.args.timers.now.slots.ok.0) (within-place (has_timer c.args.id.now) c.args.timers.now.slots.items c.in-Some.at
    (sym (c.requires.timed.0 c.args.id.now) ∙ sym c.swap_remove.ensures.value ∙ c.in-Some.is))

pub returns-in-Some-clause-timers : goal.returns-in-Some-clause-timers
returns-in-Some-clause-timers g c =
    disarmed c.args.timers.now.slots.items c.args.id.now c.in-Some.at c.requires.distinct
    (sym (c.requires.timed.0 c.args.id.now) ∙ sym c.swap_remove.ensures.value ∙ c.in-Some.is)

pub returns-in-Some-clause-timed : goal.returns-in-Some-clause-timed
returns-in-Some-clause-timed g c = (
  timed-taken_out c.args.timers.now.slots.items
      (get same_id c.args.timers.now.places)
      (get same_id c.swap_remove.new.self)
      c.requires.timed.0 c.args.id.now c.in-Some.at c.requires.distinct
      (sym c.swap_remove.ensures.value ∙ c.in-Some.is)
      c.swap_remove.ensures.updates.0,
  subst (AreGone c.front-timers.result) c.deref.ensures.value c.front-timers.ensures,
)

pub front-timers-requires : goal.front-timers-requires
front-timers-requires g c = rw c.deref.ensures.value (gone-set c.args.timers.now.gone c.in-Some.at c.args.timers.now.slots.items c.requires.timed.1)

pub returns-in_default-clause-timers : goal.returns-in_default-clause-timers
returns-in_default-clause-timers g c =
    sym (not_armed c.args.timers.now.slots.items c.args.id.now (sym (c.requires.timed.0 c.args.id.now) ∙ sym c.swap_remove.ensures.value ∙ c.in_default.is))
