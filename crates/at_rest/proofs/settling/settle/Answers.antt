-- Event by event what is left gets less, until nothing is.
use Rattle.std.proofs.Common.{◌≡◌, ◌∙◌, ◌+◌, ◌-◌, ◌≤◌, length, sym, ap, subst, arith}
use Rattle.std.proofs.lemmas.Result.{err_from_is_err_and}
use Rattle.std.specs.Prelude.{Ok, Err, reverse}
use Rattle.world.specs.Group.{Logged}
use Rattle.world.specs.Links.{IsSymmetric}
use Rattle.world.specs.Rest.{SaidAndCalm}
use Rattle.frames.specs.Content.{frame_content}
use Rattle.frames.specs.Frame.{Frame}
use Rattle.node_core.specs.Plum.{Plum, plum_state}
use Rattle.node_core.specs.Steps.{PlumIsSpent, PlumStarts, PlumSteps}
use Rattle.at_rest.specs.Load.{load_of}
use Rattle.at_rest.specs.Settling.{IsSettled, Settles}
use Rattle.at_rest.specs.declared.error.SettleError.TheVariants.{NotCalm}
use Rattle.at_rest.proofs.Settlings.{all_at_rest, none_played, one_played, stopped_played}
use Rattle.at_rest.proofs.settling.settle.Goals as goal

pub loop-left-init : goal.loop-left-init
loop-left-init g c = (
  record {
    played = none_played plum_state PlumStarts PlumSteps load_of c.args.world.now;
    calm = c.is_calm.ensures.0 c.if-not-is_calm.false;
    queues_known = c.in_ok-left.ensures.queues;
    timers_known = c.in_ok-left.ensures.timers;
    distinct = c.in_ok-left.ensures.distinct;
  },
  ap (λ es. length es) c.log-before.ensures,
)

pub returns-in_err-play_next-clause-played : goal.returns-in_err-play_next-clause-played
returns-in_err-play_next-clause-played g c =
    let stopped =
    stopped_played PlumIsSpent c.in_err-play_next.field-0.0 c.args.world.now c.loop-left.world
    c.play_next.new.world c.loop-left.invariant.0.played c.in_err-play_next.ensures.stopped in
    let given = err_from_is_err_and c.from_residual-in_err-play_next.result c.from_residual-in_err-play_next.ensures.1 in
    (stopped.0, stopped.1, rw given.1 tt)

pub loop-left-preserved : goal.loop-left-preserved
loop-left-preserved g c =
    let ok = ap (λ b. Ok b) c.if-branch.true in (
      record {
        played =
            one_played plum_state PlumStarts PlumSteps load_of c.args.world.now c.loop-left.world c.play_next.new.world c.loop-left.invariant.0.played
            (c.in_ok-play_next.ensures.taken ok) (c.in_ok-play_next.ensures.lighter ok) (c.in_ok-play_next.ensures.undisturbed ok);
        calm = c.in_ok-play_next.ensures.calm ok;
        queues_known = c.in_ok-play_next.ensures.queues ok;
        timers_known = c.in_ok-play_next.ensures.timers ok;
        distinct = c.in_ok-play_next.ensures.distinct ok;
      },
      c.loop-left.invariant.1,
    )

pub overflow_sub-result : goal.overflow_sub-result
overflow_sub-result g c =
    let same = c.in_ok-play_next.ensures.same (ap (λ b. Ok b) c.if-branch.false) in
    let log : length c.log.result.now ≡ length c.loop-left.world.log = ap (λ es. length es) c.log.ensures ∙ ap (λ (w : Logged Plum Frame). length w.log) same in
    let longer : length c.loop-left.world.log ≡ length c.args.world.now.log + length c.loop-left.invariant.0.played.events =
    c.loop-left.invariant.0.played.longer in
    let before : length c.log-before.result.now ≡ length c.args.world.now.log = c.loop-left.invariant.1 in
    omega arith

pub returns-clause-not_calm : goal.returns-clause-not_calm
returns-clause-not_calm g c = (
  λ is calm. (let no : Ok (length c.log.result.now - length c.log-before.result.now) ≡ Err NotCalm = is in cc),
  λ no. absurd (no (c.is_calm.ensures.0 c.if-not-is_calm.false)),
)

pub returns-clause-played : goal.returns-clause-played
returns-clause-played g c =
    let same = c.in_ok-play_next.ensures.same (ap (λ b. Ok b) c.if-branch.false) in
    let log : length c.log.result.now ≡ length c.loop-left.world.log = ap (λ es. length es) c.log.ensures ∙ ap (λ (w : Logged Plum Frame). length w.log) same in
    let longer : length c.loop-left.world.log ≡ length c.args.world.now.log + length c.loop-left.invariant.0.played.events =
    c.loop-left.invariant.0.played.longer in
    let before : length c.log-before.result.now ≡ length c.args.world.now.log = c.loop-left.invariant.1 in (
      c.loop-left.invariant.0.played.events,
      subst (λ (w : Logged Plum Frame). Settles plum_state PlumStarts PlumSteps c.loop-left.invariant.0.played.events c.args.world.now w)
          (sym same) c.loop-left.invariant.0.played.settles,
      omega arith,
    )

pub returns-clause-bound : goal.returns-clause-bound
returns-clause-bound g c =
    let same = c.in_ok-play_next.ensures.same (ap (λ b. Ok b) c.if-branch.false) in
    let log : length c.log.result.now ≡ length c.loop-left.world.log = ap (λ es. length es) c.log.ensures ∙ ap (λ (w : Logged Plum Frame). length w.log) same in
    let longer : length c.loop-left.world.log ≡ length c.args.world.now.log + length c.loop-left.invariant.0.played.events =
    c.loop-left.invariant.0.played.longer in
    let before : length c.log-before.result.now ≡ length c.args.world.now.log = c.loop-left.invariant.1 in
    let less : load_of c.loop-left.world + length c.loop-left.invariant.0.played.events ≤ load_of c.args.world.now = c.loop-left.invariant.0.played.lighter in
    omega arith

pub returns-clause-settled : goal.returns-clause-settled
returns-clause-settled g c =
    let no = ap (λ b. Ok b) c.if-branch.false in
    subst (λ (w : Logged Plum Frame). IsSettled plum_state w.group) (sym (c.in_ok-play_next.ensures.same no)) (c.in_ok-play_next.ensures.settled no)

pub returns-clause-rest : goal.returns-clause-rest
returns-clause-rest g c id =
    let no = ap (λ b. Ok b) c.if-branch.false in
    all_at_rest plum_state frame_content c.play_next.new.world.group
    (subst (λ (w : Logged Plum Frame). IsSettled plum_state w.group) (sym (c.in_ok-play_next.ensures.same no)) (c.in_ok-play_next.ensures.settled no)) id

pub returns-clause-delivered : goal.returns-clause-delivered
returns-clause-delivered g c id calm few name reaches =
    let no = ap (λ b. Ok b) c.if-branch.false in
    let same = sym (c.in_ok-play_next.ensures.same no) in
    c.headline.ensures.delivered id
    (record {
      calm = subst (λ (w : Logged Plum Frame). SaidAndCalm (reverse w.log) id) same (c.loop-left.invariant.0.played.undisturbed id calm);
      symmetric = subst (λ (w : Logged Plum Frame). IsSymmetric plum_state w.group) same c.loop-left.invariant.0.calm.symmetric;
      few = few;
    })
    (all_at_rest plum_state frame_content c.play_next.new.world.group
    (subst (λ (w : Logged Plum Frame). IsSettled plum_state w.group) same (c.in_ok-play_next.ensures.settled no)) id)
    name reaches
