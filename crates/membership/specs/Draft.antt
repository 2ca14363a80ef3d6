-- A turn as the code keeps it.
use Rattle.membership.specs.Membership.{Turn}
use Rattle.membership.specs.declared.draft.Draft.{Draft}

-- the turn that a draft holds
abbrev pub turn_of : {A : Type 0} → Draft A → Turn
turn_of d = record { views = d.views; asked = d.asked; shuffled = d.shuffled; sends = d.sends; downs = d.downs; ups = d.ups }
