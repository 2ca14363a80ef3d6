use Rattle.std.proofs.Common.{◌≡◌, Ok, true, false, arith, refl, subst}
use Rattle.frames.specs.Reading as read
use Rattle.step_records.proofs.NameReading.{name_read, name_refused}
use Rattle.step_records.proofs.fields.Fields.name.Goals as goal

pub returns-in-Ok-clause-reads : goal.returns-in-Ok-clause-reads
returns-in-Ok-clause-reads c =
    let len : c.from-len.result ≡ c.in_ok-byte.field-0 = omega arith in
    let letters : read.octets c.in_ok-byte.field-0 c.byte.new.self ≡ Ok (c.in_ok-letters.letters.now, c.octets.new.self) =
    subst (λ n. read.octets n c.byte.new.self ≡ Ok (c.in_ok-letters.letters.now, c.octets.new.self)) len c.in_ok-letters.ensures.reads in
    rw c.in-Ok.ensures.ok (name_read _ _ _ _ _ c.in_ok-byte.ensures.reads (omega arith) (omega arith) letters (c.in-Ok.ensures.accepted.0 refl))

pub returns-in-Err-clause-reads : goal.returns-in-Err-clause-reads
returns-in-Err-clause-reads c =
    let len : c.from-len.result ≡ c.in_ok-byte.field-0 = omega arith in
    let letters : read.octets c.in_ok-byte.field-0 c.byte.new.self ≡ Ok (c.in_ok-letters.letters.now, c.octets.new.self) =
    subst (λ n. read.octets n c.byte.new.self ≡ Ok (c.in_ok-letters.letters.now, c.octets.new.self)) len c.in_ok-letters.ensures.reads in
    name_refused _ _ _ _ _ c.in_ok-byte.ensures.reads (omega arith) (omega arith) letters (λ h. let e : false ≡ true = c.in-Err.ensures.accepted.1 h in cc)
