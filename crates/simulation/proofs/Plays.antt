-- Actions that are played, one more.
use Rattle.std.proofs.Common.{◌≡◌, ◌<◌, ◌+◌, ℕ, List, [], ◌∷◌, ◌++◌, length, take, get_or, refl, sym, ◌∙◌, ap, subst, Option}
use Rattle.std.proofs.lemmas.List.{take_more}
use Rattle.node_names.specs.NodeName.{Name}
use Rattle.node_names.specs.Limits.{Limits}
use Rattle.node_names.specs.declared.ids.Origin.{Origin}
use Rattle.protocol.specs.CoreState.{CoreState}
use Rattle.protocol.specs.Delivery.{Delivery}
use Rattle.protocol.specs.Stimulus.{Stimulus}
use Rattle.simulation.specs.Play.{PlaysAction, PlaysActions, Standing}
use Rattle.scenario.specs.declared.action.Action.{Action}

module _
    {C N : Type 0}
    (state : C → CoreState)
    (starts : Origin → Limits → List Name → Option Name → List (Name × N) → C → Type 0)
    (steps : C → Stimulus N → List (Name × N) → List Delivery → C → Type 0)
    (most : ℕ)
  where
    PlaysActions-push : (actions : List Action) (action : Action) (old between new : Standing C N) →
        PlaysActions state starts steps most actions old between →
        PlaysAction state starts steps most action between new →
        PlaysActions state starts steps most (actions ++ action ∷ []) old new
    PlaysActions-push [] action old between new played one =
        let P : Standing C N → Type 0 = λ group. PlaysAction state starts steps most action group new in
        (new, subst P played one, refl)
    PlaysActions-push (a ∷ actions) action old between new (mid, first, rest) one = (mid, first, PlaysActions-push actions action mid between new rest one)

    -- the actions up to the next one
    pub PlaysActions-more : (actions : List Action) (k : ℕ) (action : Action) (old between new : Standing C N) →
        k < length actions →
        action ≡ get_or actions k action →
        PlaysActions state starts steps most (take k actions) old between →
        PlaysAction state starts steps most action between new →
        PlaysActions state starts steps most (take (k + 1) actions) old new
    PlaysActions-more actions k action old between new within here played one =
        let P : List Action → Type 0 = λ some. PlaysActions state starts steps most some old new in
        let same : take (k + 1) actions ≡ take k actions ++ action ∷ [] =
        take_more actions k action within ∙ ap (λ (a : Action). take k actions ++ a ∷ []) (sym here) in
        subst P (sym same) (PlaysActions-push (take k actions) action old between new played one)
