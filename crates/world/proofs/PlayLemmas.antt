-- A list of events that is played may be played on by one more.
use Rattle.std.proofs.Common.{◌≡◌, ◌+◌, ◌<◌, ℕ, List, [], ◌∷◌, ◌++◌, length, take, get_or, suc, sym}
use Rattle.std.proofs.Common.{◌∙◌, ap, refl, subst, arith, append_assoc, add-zero, length-take}
use Rattle.std.specs.Prelude.{Option}
use Rattle.std.proofs.lemmas.List.{append-nil, take_more}
use Rattle.node_names.specs.NodeName.{Name}
use Rattle.node_names.specs.Limits.{Limits}
use Rattle.node_names.specs.declared.ids.Origin.{Origin}
use Rattle.protocol.specs.CoreState.{CoreState}
use Rattle.protocol.specs.Delivery.{Delivery}
use Rattle.protocol.specs.Stimulus.{Stimulus}
use Rattle.world.specs.Event.{Event}
use Rattle.world.specs.Group.{Logged}
use Rattle.world.specs.Play.{Given, Plays, PlaysOn, given_at}
use Rattle.world.specs.Run.{Applied}

module _
    {C N : Type 0}
    (state : C → CoreState)
    (starts : Origin → Limits → List Name → Option Name → List (Name × N) → C → Type 0)
    (steps : C → Stimulus N → List (Name × N) → List Delivery → C → Type 0)
  where
    -- the event behind all events
    pub Plays-push : (at : ℕ) (events : List Event) (event : Event) (given : List Given) (first : List Delivery) (old between new : Logged C N) →
        Plays state starts steps at events given old between →
        Applied state starts steps event first between new →
        Plays state starts steps at (events ++ event ∷ []) (given ++ given_at (at + length events) first) old new
    Plays-push at [] event given first old between new played applied = (
      new,
      first,
      [],
      subst (λ w. Applied state starts steps event first w new) played.1 applied,
      ap (λ gs. gs ++ given_at (at + 0) first) played.0 ∙ ap (λ k. given_at k first) (add-zero at) ∙ sym (append-nil (given_at at first)),
      (refl, refl),
    )
    Plays-push at (e ∷ events) event given first old between new (mid, gave, later, now, are, rest) applied =
        let longer : at + length (e ∷ events) ≡ suc at + length events = omega arith in (
          mid,
          gave,
          later ++ given_at (suc at + length events) first,
          now,
          ap (λ gs. gs ++ given_at (at + length (e ∷ events)) first) are
              ∙ append_assoc (given_at at gave) later (given_at (at + length (e ∷ events)) first)
              ∙ ap (λ k. given_at at gave ++ (later ++ given_at k first)) longer,
          Plays-push (suc at) events event later first mid between new rest applied,
        )

    -- one more event of a list
    pub Plays_more : (events : List Event) (k : ℕ) (d : Event) (given more : List Given) (old between new : Logged C N) →
        k < length events →
        Plays state starts steps 0 (take k events) given old between →
        PlaysOn state starts steps k (get_or events k d) given between more new →
        Plays state starts steps 0 (take (k + 1) events) more old new
    Plays_more events k d given more old between new within played on =
        let count : 0 + length (take k events) ≡ k = simp length-take (omega arith) in
        subst (λ es. Plays state starts steps 0 es more old new) (sym (take_more events k d within))
        (subst (λ gs. Plays state starts steps 0 (take k events ++ get_or events k d ∷ []) gs old new)
        (sym (on.noted ∙ ap (λ n. given ++ given_at n on.delivered) (sym count)))
        (Plays-push 0 (take k events) (get_or events k d) given on.delivered old between new played on.applied))
