use Rattle.std.proofs.Common.{arith}
use Rattle.frames.proofs.Decoded.{decoded_found, decoded_only}
use Rattle.frames.proofs.decoding.decode.Goals as goal

pub returns-clause-found : goal.returns-clause-found
returns-clause-found g c = decoded_found c.first.result c.args.bytes.now (λ i. omega (arith, c.type_inv.bytes i)) c.first.ensures

pub returns-clause-only : goal.returns-clause-only
returns-clause-only g c f spelling rest s is = decoded_only c.first.result c.args.bytes.now c.first.ensures f spelling rest s is
