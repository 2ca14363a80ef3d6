-- A name that the views do not know does not become passive by what leaves.
use Rattle.std.proofs.Common.{◌≡◌, ◌∙◌, false, ap, sym, subst}
use Rattle.node_names.specs.Same.{has_name}
use Rattle.views.specs.Sets.{views_of}
use Rattle.views.specs.Views.{Integration}
use Rattle.views.specs.declared.sets.Sets.{Sets}
use Rattle.views.proofs.Integration.{lacks-clear_place}
use Rattle.views.proofs.Sound.{unknown_not_passive}
use Rattle.views.proofs.sets.Sets.integrate_one.Goals as goal
use Rattle.views.proofs.sets.Sets.integrate_one.Goals.{then-len-from, else-len-from}

pub put_last-requires-clause-absent : goal.put_last-requires-clause-absent
put_last-requires-clause-absent g c =
    let name = c.args.name.now in
    let start : Integration = record { views = views_of c.args.self.now; evictions = c.args.evictions.now } in
    let absent = unknown_not_passive start.views name (sym c.knows.ensures ∙ c.if-knows.false) in
    elim c.if-len-from.branch [
      | then-len-from w ↦
          subst (λ (s : Sets _). has_name s.passive.keys name ≡ false) (sym w.self-is)
          (subst (λ names. has_name names name ≡ false) (sym (ap (λ (i : Integration). i.views.passive) w.clear_place.ensures.cleared))
          (lacks-clear_place c.args.sent.now c.args.dice.now start name absent))
      | else-len-from w ↦ subst (λ (s : Sets _). has_name s.passive.keys name ≡ false) (sym w.self-is) absent
    ]
