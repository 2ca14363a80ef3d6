use Rattle.std.proofs.Common.{◌≡◌, Ok, true, false, arith, refl, subst}
use Rattle.handshake.specs.Reading as read
use Rattle.handshake.proofs.NameReading.{name_read, name_refused}
use Rattle.handshake.proofs.parts.Parts.name.Goals as goal

pub returns-in-Ok : goal.returns-in-Ok
returns-in-Ok c =
    let len : c.from-len.result ≡ c.in_ok-byte.field-0 = omega arith in
    let letters : read.octets c.in_ok-byte.field-0 c.byte.new.self ≡ Ok (c.in_ok-letters.letters.now, c.octets.new.self) =
    subst (λ n. read.octets n c.byte.new.self ≡ Ok (c.in_ok-letters.letters.now, c.octets.new.self)) len c.in_ok-letters.ensures in
    rw c.in-Ok.ensures.ok (name_read _ _ _ _ _ _ c.in_ok-byte.ensures (omega arith) (omega arith) letters (c.in-Ok.ensures.accepted.0 refl))

pub returns-in-Err : goal.returns-in-Err
returns-in-Err c =
    let len : c.from-len.result ≡ c.in_ok-byte.field-0 = omega arith in
    let letters : read.octets c.in_ok-byte.field-0 c.byte.new.self ≡ Ok (c.in_ok-letters.letters.now, c.octets.new.self) =
    subst (λ n. read.octets n c.byte.new.self ≡ Ok (c.in_ok-letters.letters.now, c.octets.new.self)) len c.in_ok-letters.ensures in
    name_refused _ _ _ _ _ _ c.in_ok-byte.ensures (omega arith) (omega arith) letters (λ h. let e : false ≡ true = c.in-Err.ensures.accepted.1 h in cc)
