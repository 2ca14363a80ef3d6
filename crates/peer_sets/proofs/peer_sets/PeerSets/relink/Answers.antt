use Rattle.std.proofs.Common.{◌≡◌, ap, ◌∙◌}
use Rattle.peer_sets.proofs.SoundLemmas.{sound-relinked}
use Rattle.peer_sets.specs.Members.{with_members, without_members}
use Rattle.peer_sets.proofs.peer_sets.PeerSets.relink.Goals as goal

pub invariant_of-self : goal.invariant_of-self
invariant_of-self g c =
    let are_members : c.add_all.new.members.items ≡ with_members c.args.ups.now (without_members c.args.downs.now c.self.inside.members.items) =
    c.in_ok-add_all.ensures
    ∙ ap (with_members c.args.ups.now) (c.remove_all.ensures ∙ ap (without_members c.args.downs.now) (c.in_ok-members.ensures.items ∙ c.deref.ensures.value)) in
    rw (are_members, c.remove_all-2.ensures)
    (sound-relinked c.args.downs.now c.args.ups.now c.self.inside.members.items c.self.inside.queued.items c.self.invariant)
