use Rattle.std.proofs.Common.{◌≡◌, ◌∙◌, Some, length, refl, sym, true}
use Rattle.std.specs.List.{slice_get}
use Rattle.std.proofs.lemmas.Option.{slice_get_read}
use Rattle.node_names.specs.Same.{same_name}
use Rattle.node_threads.specs.LinkText.{spelling}
use Rattle.node_threads.proofs.GivingUp.{packet_more}
use Rattle.node_threads.proofs.Stripping.{not_false}
use Rattle.node_threads.proofs.cell.giving_up.with_packet.Goals as goal

pub returns-clause-same : goal.returns-clause-same
returns-clause-same g c =
    let goes : same_name c.args.send.now.0 c.args.peer.now ≡ true = not_false _ (sym c.ne.ensures ∙ c.if-ne.false) in
    let here : slice_get c.args.given.now c.args.count ≡ Some c.in_ok-get.field-0.now =
    slice_get_read c.args.given.now
    (length c.args.given.now) c.args.count c.in_ok-get.field-0.now refl c.in_ok-get.ensures.lookup.3.0 c.in_ok-get.ensures.lookup.1 in
    let is : c.in_ok-get.field-0.now ≡ spelling c.args.send.now.1 = c.is.ensures c.if-not-is.false in
    packet_more c.args.given.now c.args.count c.in_ok-get.field-0.now c.args.peer.now c.args.send.now here is goes
