-- One send more is in flight.
use Rattle.std.proofs.Common.{◌++◌, ◌∙◌, ◌∷◌, [], ap, append_assoc, arith, length, sym}
use Rattle.run_check.proofs.Posting.{posts_push}
use Rattle.run_check.proofs.flying.Flying.post.Goals as goal

pub loop-to-preserved : goal.loop-to-preserved
loop-to-preserved c = (
  tt,
  tt,
  append_assoc c.loop-to.yielded ((c.in-Some.to, c.in-Some.note) ∷ []) c.next.new.self.rest.items
      ∙ ap (λ rest. c.loop-to.yielded ++ rest) (sym c.in-Some.ensures.steps.0)
      ∙ c.loop-to.invariant.2,
  posts_push c.args.sender.now c.loop-to.yielded c.in-Some.to c.in-Some.note c.args.self.now.map.entries
      c.loop-to.self.map.entries c.post_one.new.self.map.entries c.loop-to.invariant.3 c.post_one.ensures.posts,
  omega (arith, ap length c.in-Some.ensures.steps.0, c.loop-to.invariant.4, c.post_one.ensures.room),
)
