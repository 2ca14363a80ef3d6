use Rattle.membership.proofs.About.{table_is_about_membership}
use Rattle.membership.proofs.laws.messages_are_about_membership.Goals as goal

pub returns : goal.returns
returns c = table_is_about_membership
