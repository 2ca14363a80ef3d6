-- The place is new where the peer has not announced the id.
use Rattle.std.proofs.Common.{◌≡◌, ◌∙◌, ◌++◌, ◌∷◌, [], Some, cond, sym, ap, subst}
use Rattle.std.specs.Prelude.{is_some, OnOk, if◌then◌else◌}
use Rattle.std.specs.Result.{is_ok}
use Rattle.indexmap.specs.IndexMap.{get, Updates}
use Rattle.node_names.specs.Slots.{somes}
use Rattle.missing.specs.Slots.{place, has_place}
use Rattle.missing.specs.Wants.{same_place}
use Rattle.missing.proofs.SlotLemmas.{lacks}
use Rattle.missing.proofs.SlotWants.{wanted-place, put-old, put-new, put-placed}
use Rattle.missing.proofs.wants.put.Goals as goal

pub returns-then-contains_key-clause-wants : goal.returns-then-contains_key-clause-wants
returns-then-contains_key-clause-wants g c =
    put-old c.args.slots.now.items c.args.entry.now.0 c.args.entry.now.1 c.args.entry.now.2
    (wanted-place c.args.slots.now.items c.args.entry.now.0 c.args.entry.now.1
    ∙ sym (ap is_some (c.requires.placed (c.args.entry.now.0, c.args.entry.now.1)))
    ∙ sym c.contains_key.ensures
    ∙ c.if-contains_key.true)

pushed : (g : _) (c : goal.After-unwrap-2 g) → c.push.new.self.items ≡ c.args.slots.now.items ++ Some c.args.entry.now ∷ []
pushed g c =
    c.push.ensures.items ∙ ap (λ r. if is_ok r then c.args.slots.now.items ++ Some c.args.entry.now ∷ [] else c.args.slots.now.items) c.unwrap-2.ensures

pub returns-clause-wants : goal.returns-clause-wants
returns-clause-wants g c =
    ap somes (pushed g c)
    ∙ put-new c.args.slots.now.items c.args.entry.now.0 c.args.entry.now.1 c.args.entry.now.2
    (wanted-place c.args.slots.now.items c.args.entry.now.0 c.args.entry.now.1
    ∙ sym (ap is_some (c.requires.placed (c.args.entry.now.0, c.args.entry.now.1)))
    ∙ sym c.contains_key.ensures
    ∙ c.if-contains_key.false)

pub returns-clause-placed : goal.returns-clause-placed
returns-clause-placed g c at =
    put-placed c.args.slots.now.items (get same_place c.args.places.now) (get same_place c.insert.new.self) c.requires.placed c.args.entry.now
    (lacks (get same_place c.args.places.now (c.args.entry.now.0, c.args.entry.now.1)) (sym c.contains_key.ensures ∙ c.if-contains_key.false))
    (λ k. (subst (λ r. OnOk r (Updates same_place c.args.places.now c.insert.new.self (c.args.entry.now.0, c.args.entry.now.1) (Some c.len.result)))
    c.unwrap.ensures c.insert.ensures.updates).0 k ∙ ap
    (λ n. cond (same_place (c.args.entry.now.0, c.args.entry.now.1) k) (Some n) (get same_place c.args.places.now k)) (c.len.ensures ∙ c.args.slots.now.ok.0))
    at
    ∙ ap (place (has_place at)) (sym (pushed g c))
