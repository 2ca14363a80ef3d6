-- The two views as the code stores them.
use Rattle.views.specs.Views.{Views}
use Rattle.views.specs.declared.sets.Sets.{Sets}

-- the views that the sets hold
abbrev pub views_of : {A : Type 0} → Sets A → Views
views_of s = record { owner = s.owner; limits = s.limits; active = s.active.keys; passive = s.passive.keys }
