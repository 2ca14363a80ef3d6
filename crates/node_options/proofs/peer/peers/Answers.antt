use Rattle.std.proofs.Common.{◌≡◌, ◌∙◌, ap, false, length, map, rules, subst, sym, vec_len}
use Rattle.std.proofs.lemmas.List.{length-map}
use Rattle.std.specs.List.{list_any}
use Rattle.node_names.specs.Same.{same_name}
use Rattle.node_options.specs.Given.{all_said, said_by}
use Rattle.node_options.specs.Told.{Word}
use Rattle.node_options.specs.Peers.{AreApart}
use Rattle.node_options.proofs.PeerNames.{AreApart-nil, AreApart-push}
use Rattle.node_options.proofs.peer.peers.Goals as goal

pub loop-given-init : goal.loop-given-init
loop-given-init c =
    let apart : AreApart c.new-peers.result.items = subst AreApart (sym c.new-peers.ensures.items) AreApart-nil in
    (apart, c.new-peers.ensures.len)

pub loop-given-preserved : goal.loop-given-preserved
loop-given-preserved c =
    let absent : list_any (λ other. same_name c.in_ok-peer.peer.name other.name) c.loop-given.peers.items ≡ false = search rules in
    let apart : AreApart c.push.new.self.items = subst AreApart (sym c.in_ok-push.ensures.items)
    (AreApart-push c.loop-given.peers.items c.in_ok-peer.peer c.loop-given.invariant.0 absent) in
    (apart, search rules)

pub returns-clause-words : goal.returns-clause-words
returns-clause-words c texts given =
    let said : all_said c.in_ok-all.field-0.items ≡ map Word texts = c.in_ok-all.ensures.words texts given in
    let count : vec_len c.loop-given.peers ≡ length c.in_ok-all.field-0.items = search rules in
    let all : length (all_said c.in_ok-all.field-0.items) ≡ length c.in_ok-all.field-0.items =
    length-map c.in_ok-all.field-0.items (λ given. said_by given.source) in
    count ∙ (sym all ∙ (ap length said ∙ length-map texts Word))
