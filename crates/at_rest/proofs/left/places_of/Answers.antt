-- One place more.
use Rattle.std.proofs.Common.{◌≤◌, subst, length}
use Rattle.std.specs.List.{IsDistinct}
use Rattle.std.specs.Prelude.{slice_get}
use Rattle.node_names.specs.Same.{same_name}
use Rattle.world.specs.Plan.{names_of}
use Rattle.at_rest.specs.Left.{is_left_at}
use Rattle.at_rest.proofs.Lefts.{all_places, none_yet, one_more}
use Rattle.at_rest.proofs.left.places_of.Goals as goal

pub loop-at-init : goal.loop-at-init
loop-at-init g c =
    none_yet c.new-places.result
    (λ at. is_left_at g.C.Core.state c.args.kind c.args.world.now.group.nodes (slice_get (names_of c.args.world.now.group.nodes) at)) c.new-places.ensures.empty

pub loop-at-preserved : goal.loop-at-preserved
loop-at-preserved g c =
    one_more c.loop-at.places c.note_kind.new.places
    (λ at. is_left_at g.C.Core.state c.args.kind c.args.world.now.group.nodes (slice_get (names_of c.args.world.now.group.nodes) at))
    c.loop-at.at c.loop-at.invariant c.in_ok-note_kind.ensures

pub returns : goal.returns
returns g c =
    record {
      places =
          all_places g.C.Core.state c.args.kind c.args.world.now.group.nodes c.loop-at.places c.loop-at.at
          (subst (λ ks. length ks ≤ c.loop-at.at) c.names.ensures (subst (λ n. n ≤ c.loop-at.at) c.len-at-end.ensures.len c.loop-at-test.false))
          c.loop-at.invariant;
      distinct = subst (λ ks. IsDistinct same_name ks) c.names.ensures c.len-at-end.ensures.unique;
    }
