-- One pass for all peers.
use Rattle.std.proofs.Common.{rules, ◌∙◌}
use Rattle.std.proofs.lemmas.Fn.{filter_same}
use Rattle.peer_sets.proofs.TakenLemmas.{without_all_entries-once}
use Rattle.peer_sets.proofs.queue.remove_all.Goals as goal

pub returns : goal.returns
returns g c = filter_same _ _ _ (λ x b f' k. search rules) _ _ c.retain.ensures.filtered ∙ without_all_entries-once c.args.peers.now c.args.queued.now.items
