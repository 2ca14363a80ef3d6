use Rattle.std.proofs.Common.{◌≡◌, [], ◌∷◌, take}
use Rattle.frames.specs.declared.body.BodyOf.TheVariants as body
use Rattle.views.specs.Names.{others}
use Rattle.membership.specs.Blocks.{send_all}
use Rattle.membership.specs.Draft.{turn_of}
use Rattle.membership.proofs.draft.Draft.send_walks.Given as goal

-- the walks so far have started
abbrev pub invariant-loop-receiver : goal.invariant-loop-receiver
invariant-loop-receiver g l =
    turn_of l.self ≡ send_all (body.ForwardJoin l.new l.ttl) (others (l.new ∷ []) (take l.receiver-index l.receivers)) (turn_of l.fn.self)
