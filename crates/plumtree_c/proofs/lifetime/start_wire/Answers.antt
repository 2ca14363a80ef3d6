use Rattle.std.proofs.Common.{map, rules, subst}
use Rattle.plumtree_c.specs.Plain.{contact_of, name_of}
use Rattle.plumtree_c.specs.Wire.{WireStarts}
use Rattle.plumtree_c.proofs.lifetime.start_wire.Goals as goal

pub returns-clause-ok : goal.returns-clause-ok
returns-clause-ok c = record {
  wire = c.in_ok-wire.wire.value;
  has = search rules;
  holds =
      subst (λ it. WireStarts c.args.me it c.args.waiting (map name_of c.args.peers.now) (contact_of c.args.contact.now) c.in_ok-wire.wire.value)
      c.in_ok-core.ensures c.in_ok-wire.ensures;
}
