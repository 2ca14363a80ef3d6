use Rattle.std.proofs.Common.{◌≡◌, ◌∙◌, ◌++◌, [], sym}
use Rattle.frames.specs.Field.{name_octets, origin_octets}
use Rattle.step_records.specs.Bodies.{contact_text, limits_text}
use Rattle.step_records.proofs.HeadReading.{head_read, ok_fact, ok_part}
use Rattle.step_records.proofs.head_reading.read_head.Goals as goal

pub returns-in-Some : goal.returns-in-Some
returns-in-Some c =
    head_read c.in-Some.head c.args.bytes.now c.in_ok-label.label c.name.new.self c.in_ok-origin.origin c.origin.new.self
    c.in_ok-limits.limits c.limits.new.fields c.in_ok-peers.peers c.peers.new.fields c.in_ok-contact.contact c.contact.new.fields
    (sym c.new-fields.ensures ∙ ok_part c.name.result c.in_ok-label.label
    (λ n. c.new-fields.result ≡ name_octets n ++ c.name.new.self) c.in_ok-label.ensures c.name.ensures.text)
    (ok_part c.origin.result c.in_ok-origin.origin (λ o. c.name.new.self ≡ origin_octets o ++ c.origin.new.self) c.in_ok-origin.ensures c.origin.ensures.text)
    (ok_part c.limits.result c.in_ok-limits.limits (λ l. c.origin.new.self ≡ limits_text l ++ c.limits.new.fields) c.in_ok-limits.ensures c.limits.ensures)
    c.in_ok-peers.ensures
    (ok_part c.contact.result c.in_ok-contact.contact (λ k. c.peers.new.fields ≡ contact_text k ++ c.contact.new.fields) c.in_ok-contact.ensures
    c.contact.ensures)
    (ok_fact c.end.result c.in_ok-part.field-0 (c.contact.new.fields ≡ []) c.in_ok-part.ensures c.end.ensures.text)
    c.in-Some.ensures.label c.in-Some.ensures.origin c.in-Some.ensures.limits c.in-Some.ensures.peers c.in-Some.ensures.contact
