use Rattle.std.proofs.Common.{◌≡◌, ◌∙◌, ◌++◌, ◌∷◌, [], ap, append_assoc, rules, subst, sym, true}
use Rattle.node_threads.specs.Leaving.{AreLeft, outlets_of}
use Rattle.node_threads.proofs.Left.{joined, none_left}
use Rattle.node_threads.proofs.Lettering.{all_gone}
use Rattle.node_threads.proofs.host.closing.join_all.Goals as goal

pub loop-worker-init : goal.loop-worker-init
loop-worker-init g c =
    let whole : c.into_iter-worker-iterator.result.rest.items ≡ c.args.workers.items = search rules in
    (tt, tt, whole, λ yes. none_left (outlets_of c.args.given.items))

pub loop-worker-preserved : goal.loop-worker-preserved
loop-worker-preserved g c =
    let rest = c.in-Some.ensures.steps.0 in (
      tt,
      tt,
      append_assoc c.loop-worker.yielded (c.in-Some.worker ∷ []) c.next.new.self.rest.items
          ∙ ap (λ left. c.loop-worker.yielded ++ left) (sym rest)
          ∙ c.loop-worker.invariant.2,
      λ yes.
          subst (λ given. AreLeft (outlets_of c.args.given.items) (c.loop-worker.yielded ++ c.in-Some.worker ∷ []) (outlets_of given))
          (sym (c.keep-kept.ensures.here yes))
          (joined (outlets_of c.args.given.items) c.loop-worker.yielded c.loop-worker.given.items c.in-Some.worker c.join.result
          (c.loop-worker.invariant.3 (c.keep-kept.ensures.before yes)) c.join.ensures),
    )

pub returns : goal.returns
returns g c =
    let kept : c.loop-worker.kept ≡ true = search rules in
    let whole : c.loop-worker.yielded ≡ c.args.workers.items =
    all_gone c.loop-worker.yielded _ c.args.workers.items c.loop-worker.invariant.2 (sym c.loop-worker.worker-iterator.rest.ok.0 ∙ c.in-None.ensures.steps.0) in
    subst (λ workers. AreLeft (outlets_of c.args.given.items) workers (outlets_of c.loop-worker.given.items)) whole (c.loop-worker.invariant.3 kept)
