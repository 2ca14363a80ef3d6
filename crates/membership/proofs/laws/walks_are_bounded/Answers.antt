use Rattle.membership.proofs.Walks.{join_is_bounded, walk_goes_on_once}
use Rattle.membership.proofs.laws.walks_are_bounded.Goals as goal

pub returns : goal.returns
returns c = record {
  starts = λ m dice sender sound another. join_is_bounded m sound dice sender another;
  goes_on = λ m dice sender new ttl. walk_goes_on_once dice sender new ttl m;
}
