use Rattle.std.proofs.Common.{subst}
use Rattle.handshake.specs.Arrival.{Refuses}
use Rattle.handshake.specs.Arrived.{Arrived}
use Rattle.handshake.proofs.Arrivals.{refuses_whole}
use Rattle.handshake.proofs.arrival.Arrival.next.Goals as goal

pub returns-in-Err-dialler_of-clause-refused : goal.returns-in-Err-dialler_of-clause-refused
returns-in-Err-dialler_of-clause-refused c =
    let f = c.self.inside in
    let bytes = c.args.bytes.now in
    let why = c.in-Err-dialler_of.refusal in
    let old : Arrived = record { reader = f.reader; inbound = f.inbound; dialler = f.dialler } in
    let given = refuses_whole old bytes c.in-Ok.count _ _ why c.in-Ok.ensures.within c.in-Ok.ensures.taken c.in-Err-dialler_of.ensures.refused in
    subst (λ a. Refuses a bytes why) c.self.view_is given
