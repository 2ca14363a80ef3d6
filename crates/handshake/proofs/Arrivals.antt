-- Which hellos are refused.
use Rattle.std.proofs.Common.{◌≡◌, ℕ, ◌≤◌, List, length, take, Option, Ok, ap, ◌∙◌}
use Rattle.handshake.specs.declared.arrival.Refusal.{Refusal}
use Rattle.handshake.specs.declared.arrival.Refusal.TheVariants as Why
use Rattle.handshake.specs.declared.record.Record.{Record}
use Rattle.handshake.specs.Arrival.{Refuses, Rejects}
use Rattle.handshake.specs.Arrived.{Arrived}
use Rattle.handshake.specs.Inbound.{given_by, run}
use Rattle.handshake.specs.State.{State}

-- a whole hello that is refused
pub refuses_whole : (old : Arrived) (bytes : List ℕ) (count : ℕ) (next : State) (r : Option Record) (why : Refusal) →
    count ≤ length bytes →
    run old.inbound (take count bytes) ≡ Ok (next, given_by r) →
    Rejects old.reader r why →
    Refuses old bytes why
refuses_whole old bytes count next r (Why.Malformed error) within read rejects = absurd rejects.2
refuses_whole old bytes count next r (Why.OtherCluster name label) within read rejects =
    (rejects.0, record { count = count; next = next; within = within; read = read ∙ ap (λ r. Ok (next, given_by r)) rejects.1 }, rejects.2)
refuses_whole old bytes count next r (Why.Misdirected name to) within read rejects =
    (rejects.0, record { count = count; next = next; within = within; read = read ∙ ap (λ r. Ok (next, given_by r)) rejects.1 }, rejects.2)
refuses_whole old bytes count next r (Why.SameName at) within read rejects =
    (rejects.0, record { count = count; next = next; within = within; read = read ∙ ap (λ r. Ok (next, given_by r)) rejects.1 }, rejects.2)
