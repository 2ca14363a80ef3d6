-- A name that the views do not know is not in the passive one, whoever left it.
use Rattle.std.proofs.Common.{◌≡◌, ◌∙◌, false, sym, subst}
use Rattle.node_names.specs.Same.{has_name}
use Rattle.views.specs.Sets.{views_of}
use Rattle.views.proofs.Sound.{room-lacks, unknown_not_passive}
use Rattle.views.proofs.sets.Sets.add_passive.Goals as goal

pub put_last-requires-clause-absent : goal.put_last-requires-clause-absent
put_last-requires-clause-absent g c =
    let v = views_of c.args.self.now in
    subst (λ names. has_name names c.args.name ≡ false) (sym c.make_room-evicted.ensures.left)
    (room-lacks c.passive.result _ v.passive c.args.name (unknown_not_passive v c.args.name (sym c.knows.ensures ∙ c.if-knows.false)))
