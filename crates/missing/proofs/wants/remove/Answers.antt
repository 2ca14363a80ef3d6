use Rattle.std.proofs.Common.{◌∙◌, ◌<◌, sym, subst}
use Rattle.indexmap.specs.IndexMap.{get}
use Rattle.missing.specs.Slots.{has_place}
use Rattle.missing.specs.Wants.{same_place}
use Rattle.missing.proofs.SlotLemmas.{within-place}
use Rattle.missing.proofs.SlotWants.{removed, not_there, removed-placed}
use Rattle.missing.proofs.wants.remove.Goals as goal

pub index_mut-requires : goal.index_mut-requires
index_mut-requires g c =
    subst (λ n. c.in-Some.at < n) (sym c.args.slots.now.ok.0) (within-place (has_place (c.args.id.now, c.args.peer.now)) c.args.slots.now.items c.in-Some.at
    (sym (c.requires.placed (c.args.id.now, c.args.peer.now)) ∙ sym c.swap_remove.ensures.value ∙ c.in-Some.is))

pub returns-in-Some-clause-left : goal.returns-in-Some-clause-left
returns-in-Some-clause-left g c =
    removed c.args.slots.now.items c.args.id.now c.args.peer.now c.in-Some.at c.requires.once
    (sym (c.requires.placed (c.args.id.now, c.args.peer.now)) ∙ sym c.swap_remove.ensures.value ∙ c.in-Some.is)

pub returns-in-Some-clause-placed : goal.returns-in-Some-clause-placed
returns-in-Some-clause-placed g c =
    removed-placed c.args.slots.now.items (get same_place c.args.places.now) (get same_place c.swap_remove.new.self) c.requires.placed
    (c.args.id.now, c.args.peer.now) c.in-Some.at c.requires.once (sym c.swap_remove.ensures.value ∙ c.in-Some.is) c.swap_remove.ensures.updates.0

pub returns-in_default-clause-left : goal.returns-in_default-clause-left
returns-in_default-clause-left g c =
    sym (not_there c.args.slots.now.items c.args.id.now c.args.peer.now
    (sym (c.requires.placed (c.args.id.now, c.args.peer.now)) ∙ sym c.swap_remove.ensures.value ∙ c.in_default.is))
