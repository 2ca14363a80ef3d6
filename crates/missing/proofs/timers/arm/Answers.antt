use Rattle.std.proofs.Common.{◌≡◌, ◌∙◌, ◌++◌, ◌∷◌, [], Some, not, cond, sym, ap, subst}
use Rattle.std.specs.Prelude.{is_some, OnOk, if◌then◌else◌}
use Rattle.std.specs.Result.{is_ok}
use Rattle.indexmap.specs.IndexMap.{get, Updates}
use Rattle.node_names.specs.Same.{same_id}
use Rattle.node_names.specs.Slots.{somes}
use Rattle.node_names.specs.declared.ids.MsgId.{MsgId}
use Rattle.missing.specs.Slots.{AreGone, place, has_timer}
use Rattle.missing.proofs.SlotLemmas.{gone-push, lacks}
use Rattle.missing.proofs.TimerLemmas.{armed-place, armed-old, armed-new, timed-push}
use Rattle.missing.proofs.timers.arm.Goals as goal

pub returns-then-contains_key-clause-new : goal.returns-then-contains_key-clause-new
returns-then-contains_key-clause-new g c =
    ap not (sym c.if-contains_key.true
    ∙ c.contains_key.ensures
    ∙ ap is_some (c.requires.timed.0 c.args.id.now)
    ∙ sym (armed-place c.args.timers.now.slots.items c.args.id.now))

pub returns-then-contains_key-clause-timers : goal.returns-then-contains_key-clause-timers
returns-then-contains_key-clause-timers g c =
    armed-old c.args.timers.now.slots.items c.args.id.now (armed-place c.args.timers.now.slots.items c.args.id.now
    ∙ sym (ap is_some (c.requires.timed.0 c.args.id.now))
    ∙ sym c.contains_key.ensures
    ∙ c.if-contains_key.true)

pub returns-clause-new : goal.returns-clause-new
returns-clause-new g c =
    ap not (sym c.if-contains_key.false
    ∙ c.contains_key.ensures
    ∙ ap is_some (c.requires.timed.0 c.args.id.now)
    ∙ sym (armed-place c.args.timers.now.slots.items c.args.id.now))

pushed : (g : _) (c : goal.After-unwrap-2 g) → c.push.new.self.items ≡ c.args.timers.now.slots.items ++ Some c.args.id.now ∷ []
pushed g c =
    c.push.ensures.items
    ∙ ap (λ r. if is_ok r then c.args.timers.now.slots.items ++ Some c.args.id.now ∷ [] else c.args.timers.now.slots.items) c.unwrap-2.ensures

pub returns-clause-timers : goal.returns-clause-timers
returns-clause-timers g c =
    ap somes (pushed g c)
    ∙ armed-new c.args.timers.now.slots.items c.args.id.now (armed-place c.args.timers.now.slots.items c.args.id.now
    ∙ sym (ap is_some (c.requires.timed.0 c.args.id.now))
    ∙ sym c.contains_key.ensures
    ∙ c.if-contains_key.false)

timed : (g : _) (c : goal.After-unwrap-2 g) (id : MsgId) → get same_id c.insert.new.self id ≡ place (has_timer id) c.push.new.self.items
timed g c id =
    timed-push c.args.timers.now.slots.items (get same_id c.args.timers.now.places) (get same_id c.insert.new.self) c.requires.timed.0 c.args.id.now
    (lacks (get same_id c.args.timers.now.places c.args.id.now) (sym c.contains_key.ensures ∙ c.if-contains_key.false))
    (λ k. (subst (λ r. OnOk r (Updates same_id c.args.timers.now.places c.insert.new.self c.args.id.now (Some c.len.result)))
    c.unwrap.ensures c.insert.ensures.updates).0 k
    ∙ ap (λ n. cond (same_id c.args.id.now k) (Some n) (get same_id c.args.timers.now.places k)) (c.len.ensures ∙ c.args.timers.now.slots.ok.0))
    id
    ∙ ap (place (has_timer id)) (sym (pushed g c))

pub returns-clause-timed : goal.returns-clause-timed
returns-clause-timed g c = (
  timed g c,
  subst (AreGone c.args.timers.now.gone) (sym (pushed g c))
      (gone-push c.args.timers.now.gone c.args.timers.now.slots.items (Some c.args.id.now ∷ []) c.requires.timed.1),
)
