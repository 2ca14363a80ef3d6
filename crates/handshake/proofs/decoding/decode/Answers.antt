use Rattle.std.proofs.Common.{arith}
use Rattle.handshake.proofs.HelloAgrees.{decoded_ok, decoded_whole, decoded_short}
use Rattle.handshake.specs.declared.error.HelloError.TheVariants.{Short, NotPlumtree, OtherVersion, BadLabel, BadAddressee, BadName, BadAddress}
use Rattle.handshake.proofs.FaultsTold.{decoded_told, decoded_refused}
use Rattle.handshake.proofs.decoding.decode.Goals as goal

pub returns-clause-ok : goal.returns-clause-ok
returns-clause-ok c = decoded_ok c.args.bytes.now c.first.result (λ i. omega (arith, c.type_inv.bytes i)) c.first.ensures

pub returns-clause-whole : goal.returns-clause-whole
returns-clause-whole c h rest i e = decoded_whole c.args.bytes.now c.first.result c.first.ensures h rest i e

pub returns-clause-short : goal.returns-clause-short
returns-clause-short c h more i e some = decoded_short c.args.bytes.now c.first.result c.first.ensures h more i e some

pub returns-clause-few : goal.returns-clause-few
returns-clause-few c e = decoded_told _ _ (λ i. omega (arith, c.type_inv.bytes i)) c.first.ensures Short e

pub returns-clause-not_plumtree : goal.returns-clause-not_plumtree
returns-clause-not_plumtree c =
    (decoded_told _ _ (λ i. omega (arith, c.type_inv.bytes i)) c.first.ensures NotPlumtree, decoded_refused _ _ c.first.ensures NotPlumtree tt)

pub returns-clause-other_version : goal.returns-clause-other_version
returns-clause-other_version c v =
    (decoded_told _ _ (λ i. omega (arith, c.type_inv.bytes i)) c.first.ensures (OtherVersion v), decoded_refused _ _ c.first.ensures (OtherVersion v) tt)

pub returns-clause-bad_label : goal.returns-clause-bad_label
returns-clause-bad_label c =
    (decoded_told _ _ (λ i. omega (arith, c.type_inv.bytes i)) c.first.ensures BadLabel, decoded_refused _ _ c.first.ensures BadLabel tt)

pub returns-clause-bad_addressee : goal.returns-clause-bad_addressee
returns-clause-bad_addressee c =
    (decoded_told _ _ (λ i. omega (arith, c.type_inv.bytes i)) c.first.ensures BadAddressee, decoded_refused _ _ c.first.ensures BadAddressee tt)

pub returns-clause-bad_name : goal.returns-clause-bad_name
returns-clause-bad_name c = (decoded_told _ _ (λ i. omega (arith, c.type_inv.bytes i)) c.first.ensures BadName, decoded_refused _ _ c.first.ensures BadName tt)

pub returns-clause-bad_address : goal.returns-clause-bad_address
returns-clause-bad_address c kind =
    (decoded_told _ _ (λ i. omega (arith, c.type_inv.bytes i)) c.first.ensures (BadAddress kind), decoded_refused _ _ c.first.ensures (BadAddress kind) tt)
