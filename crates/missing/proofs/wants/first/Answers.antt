use Rattle.std.proofs.Common.{◌∙◌, ◌<◌, Some, sym, ap, subst}
use Rattle.std.proofs.lemmas.Option.{slice_get_read}
use Rattle.missing.specs.Slots.{is_of}
use Rattle.missing.proofs.SlotLemmas.{within-place}
use Rattle.missing.proofs.SlotWants.{first_want-at, first_want-lacks, want_of}
use Rattle.missing.proofs.wants.first.Goals as goal

pub returns-in_err-first_place : goal.returns-in_err-first_place
returns-in_err-first_place g c =
    c.from_residual.ensures ∙ sym (first_want-lacks c.args.id.now c.args.wants.now.slots.items (sym c.first_place.ensures ∙ c.in_err-first_place.was))

pub index-requires : goal.index-requires
index-requires g c =
    subst (λ n. c.in_ok-first_place.field-0 < n) (sym c.args.wants.now.slots.ok.0)
    (within-place (is_of c.args.id.now) c.args.wants.now.slots.items c.in_ok-first_place.field-0 (sym c.first_place.ensures ∙ c.in_ok-first_place.was))

pub returns-in_err-entry : goal.returns-in_err-entry
returns-in_err-entry g c =
    c.from_residual-in_err-entry.ensures
    ∙ sym (first_want-at c.args.id.now c.args.wants.now.slots.items c.in_ok-first_place.field-0 (sym c.first_place.ensures ∙ c.in_ok-first_place.was) ∙ ap
    want_of (slice_get_read c.args.wants.now.slots.items c.args.wants.now.slots.len c.in_ok-first_place.field-0 c.index.result.now c.args.wants.now.slots.ok.0
    (subst (λ n. c.in_ok-first_place.field-0 < n) (sym c.args.wants.now.slots.ok.0)
    (within-place (is_of c.args.id.now) c.args.wants.now.slots.items c.in_ok-first_place.field-0 (sym c.first_place.ensures ∙ c.in_ok-first_place.was)))
    c.index.ensures ∙ ap Some c.in_err-entry.was))

pub returns : goal.returns
returns g c =
    sym (first_want-at c.args.id.now c.args.wants.now.slots.items c.in_ok-first_place.field-0 (sym c.first_place.ensures ∙ c.in_ok-first_place.was) ∙ ap want_of
    (slice_get_read c.args.wants.now.slots.items c.args.wants.now.slots.len c.in_ok-first_place.field-0 c.index.result.now c.args.wants.now.slots.ok.0
    (subst (λ n. c.in_ok-first_place.field-0 < n) (sym c.args.wants.now.slots.ok.0)
    (within-place (is_of c.args.id.now) c.args.wants.now.slots.items c.in_ok-first_place.field-0 (sym c.first_place.ensures ∙ c.in_ok-first_place.was)))
    c.index.ensures ∙ ap Some c.in_ok-entry.was))
