-- A name that is not active does not become active by what leaves.
use Rattle.std.proofs.Common.{◌≡◌, ◌∙◌, false, ap, sym, subst}
use Rattle.node_names.specs.Same.{has_name, same_name}
use Rattle.views.specs.Sets.{views_of}
use Rattle.views.specs.Views.{Views}
use Rattle.views.proofs.Lists.{or_right}
use Rattle.views.proofs.Sound.{lacks-make_room}
use Rattle.views.proofs.sets.Sets.add_active.Goals as goal

pub put_last-requires-clause-absent : goal.put_last-requires-clause-absent
put_last-requires-clause-absent g c =
    let v = views_of c.args.self.now in
    subst (λ names. has_name names c.args.name ≡ false) (sym (ap (λ (w : Views). w.active) c.make_active_room-dropped.ensures.views))
    (lacks-make_room c.args.dice.now (record v { passive = c.shift_remove.new.self.keys }) c.args.name
    (or_right (same_name c.args.name v.owner) (has_name v.active c.args.name) (sym c.is_settled.ensures ∙ c.if-is_settled.false)))
