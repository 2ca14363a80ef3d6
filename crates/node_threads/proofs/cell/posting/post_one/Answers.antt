-- What becomes of the letter.
use Rattle.std.proofs.Common.{◌≡◌, ◌++◌, ◌∷◌, [], Some, true, false, get_or, rules, slice_get}
use Rattle.std.proofs.lemmas.Option.{slice_get-get_or}
use Rattle.node_names.specs.Same.{has_name}
use Rattle.node_threads.specs.Cell.{Link}
use Rattle.node_threads.proofs.Lettering.{had_no_room, is_late, peers_set, posted_peers, took_it}
use Rattle.node_threads.proofs.cell.posting.post_one.Goals as goal

pub returns-then-has_name-clause-posted : goal.returns-then-has_name-clause-posted
returns-then-has_name-clause-posted g c before first posted =
    let late : has_name c.args.blocked.now.items c.args.letter.0 ≡ true = search rules in
    is_late c.args.blocked.now.items before c.args.letter late first c.args.links.now posted

pub returns-then-not-push-clause-posted : goal.returns-then-not-push-clause-posted
returns-then-not-push-clause-posted g c before first posted =
    let free : has_name c.args.blocked.now.items c.args.letter.0 ≡ false = search rules in
    let new : Link = get_or c.args.links.now c.args.letter.1 c.index-links-place.result in
    let here : slice_get c.args.links.now c.args.letter.1 ≡ Some new =
    slice_get-get_or c.args.links.now c.args.letter.1 c.index-links-place.result c.requires.within in
    let kept : c.push.new.self ≡ new = c.push.ensures.kept (search rules) in
    let more : c.push-then-not-push.new.self.items ≡ c.args.blocked.now.items ++ c.args.letter.0 ∷ [] = search rules in
    rw more (had_no_room c.args.blocked.now.items before c.args.letter first c.args.links.now new c.push.new.self
    c.requires.distinct c.requires.addressed free here (posted_peers _ before first c.args.links.now posted) posted kept)

pub returns-then-not-push-clause-peers : goal.returns-then-not-push-clause-peers
returns-then-not-push-clause-peers g c =
    let new : Link = get_or c.args.links.now c.args.letter.1 c.index-links-place.result in
    let here : slice_get c.args.links.now c.args.letter.1 ≡ Some new =
    slice_get-get_or c.args.links.now c.args.letter.1 c.index-links-place.result c.requires.within in
    peers_set c.args.links.now c.args.letter.1 new c.push.new.self here c.push.ensures.peer

pub returns-else-not-push-clause-posted : goal.returns-else-not-push-clause-posted
returns-else-not-push-clause-posted g c before first posted =
    let free : has_name c.args.blocked.now.items c.args.letter.0 ≡ false = search rules in
    let new : Link = get_or c.args.links.now c.args.letter.1 c.index-links-place.result in
    let here : slice_get c.args.links.now c.args.letter.1 ≡ Some new =
    slice_get-get_or c.args.links.now c.args.letter.1 c.index-links-place.result c.requires.within in
    let pushed : c.push.result ≡ true = search rules in
    took_it c.args.blocked.now.items before c.args.letter first c.args.links.now new c.push.new.self c.requires.distinct c.requires.addressed free here
    (posted_peers _ before first c.args.links.now posted) posted (c.push.ensures.pushed pushed)

pub returns-else-not-push-clause-peers : goal.returns-else-not-push-clause-peers
returns-else-not-push-clause-peers g c =
    let new : Link = get_or c.args.links.now c.args.letter.1 c.index-links-place.result in
    let here : slice_get c.args.links.now c.args.letter.1 ≡ Some new =
    slice_get-get_or c.args.links.now c.args.letter.1 c.index-links-place.result c.requires.within in
    peers_set c.args.links.now c.args.letter.1 new c.push.new.self here c.push.ensures.peer
