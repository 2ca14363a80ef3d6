use Rattle.std.proofs.Common.{◌≡◌, ◌≤◌, ◌<◌, ◌+◌, ◌-◌, ap, arith, drop, length, rules, subst, sym, take}
use Rattle.std.proofs.lemmas.List.{length-drop, take_all}
use Rattle.node_threads.specs.Applying.{mail_for}
use Rattle.node_threads.specs.Forgetting.{CameOut}
use Rattle.node_threads.proofs.GivingUp.{Reached, none_came, reached_first, reached_next, reached_whole}
use Rattle.node_threads.proofs.Stripping.{is_there}
use Rattle.node_threads.proofs.cell.giving_up.came_out.Goals as goal

pub returns-in_default : goal.returns-in_default
returns-in_default g c = none_came c.args.lost c.args.trace.now c.args.peer.now c.args.opened c.args.given.now

pub loop-place-init : goal.loop-place-init
loop-place-init g c = (
  reached_first c.args.lost c.args.trace.now c.args.peer.now c.args.opened c.args.given.now c.opening_of-opening.result.now
      c.in-Some.frames c.opening_of-opening.ensures c.requires.behind c.in-Some.ensures.few c.in-Some.ensures.same,
  none_came c.args.lost c.args.trace.now c.args.peer.now c.args.opened c.args.given.now,
)

pub unreachable-requires : goal.unreachable-requires
unreachable-requires g c = is_there c.args.trace.now.steps c.loop-place.place (search rules) (search rules)

pub loop-place-preserved : goal.loop-place-preserved
loop-place-preserved g c =
    let frames = c.loop-place.frames in
    let more = c.in-Some-frames_of.more in
    let rest = drop frames c.args.given.now in
    let sends : c.as_slice.result.now ≡ c.in-Some-step.step.now.out.sends = search rules in
    let whole : take (length c.args.given.now - frames) rest ≡ rest =
    take_all (length c.args.given.now - frames) rest (omega (arith, length-drop frames c.args.given.now)) in
    let few : more ≤ length rest = subst (λ fs. more ≤ length fs) whole c.in-Some-frames_of.ensures.few in
    let same : take more rest ≡ mail_for c.as_slice.result.now c.args.peer.now =
    subst (λ fs. take more fs ≡ mail_for c.as_slice.result.now c.args.peer.now) whole c.in-Some-frames_of.ensures.same in
    let next : Reached c.args.lost c.args.trace.now c.args.peer.now c.args.opened c.args.given.now (c.loop-place.place + 1) (frames + more) =
    reached_next c.args.lost c.args.trace.now c.args.peer.now c.args.opened c.args.given.now c.loop-place.place frames
    more c.in-Some-step.step.now c.as_slice.result.now c.loop-place.invariant.0 c.in-Some-step.ensures sends few same in
    let within : c.loop-place.place < length c.args.trace.now.steps = search rules in (
      next,
      reached_whole c.args.lost c.args.trace.now c.args.peer.now c.args.opened c.args.given.now c.loop-place.place
          (frames + more) (c.args.lost + c.loop-place.place + 1) next within (omega arith),
    )
