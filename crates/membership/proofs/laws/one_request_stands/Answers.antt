use Rattle.membership.proofs.Requests.{table_asks_one}
use Rattle.membership.proofs.laws.one_request_stands.Goals as goal

pub returns : goal.returns
returns c = table_asks_one
