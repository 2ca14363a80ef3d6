-- The copies of the peers and of the messages are equal to them.
use Rattle.std.proofs.Common.{◌≡◌, ◌∙◌, rules, subst, sym}
use Rattle.std.proofs.lemmas.Map.Entries.{entries_from_clone}
use Rattle.flood.specs.FloodCore.{HoldsCounted}
use Rattle.flood.proofs.FloodMoves.{same_core}
use Rattle.flood.proofs.flood_core.FloodCoreCore.copy.Goals as goal

same_held : (g : _) (c : goal.In_ok-clone g) → c.in_ok-clone.field-0.entries ≡ c.self.inside.held.entries
same_held g c = search (rules, entries_from_clone)

pub invariant_of-result : goal.invariant_of-result
invariant_of-result g c =
    (c.new.ensures.empty, subst (λ held. HoldsCounted c.self.inside.me held c.self.inside.count) (sym (same_held g c)) c.self.invariant.1)

pub returns : goal.returns
returns g c =
    same_core
    (record { me = c.self.inside.me; peers = c.self.inside.peers.keys; held = c.self.inside.held.entries; count = c.self.inside.count })
    c.in_ok-set_of.field-0.keys
    c.in_ok-clone.field-0.entries
    (c.in_ok-set_of.ensures ∙ c.as_slice.ensures.keys)
    (same_held g c)
    ∙ c.self.view_is
