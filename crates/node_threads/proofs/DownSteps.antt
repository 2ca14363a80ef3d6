-- The Downs that a node tells itself, one after the other.
use Rattle.std.specs.Prelude.{◌≡◌, List, [], ◌∷◌, Result, Ok, Err, IfOk, IfErr, OnErr, refl}
use Rattle.std.proofs.Common.{inl, inr, subst, sym}
use Rattle.node_names.specs.NodeName.{Name}
use Rattle.node_names.specs.declared.dice.Dice.{Dice}
use Rattle.node_names.specs.Draws.{after_words, words}
use Rattle.rand_core.specs.Stream.{Stream}
use Rattle.protocol.specs.CoreState.{CoreState}
use Rattle.protocol.specs.Delivery.{Delivery}
use Rattle.protocol.specs.Stimulus.{Stimulus}
use Rattle.protocol.specs.declared.stimulus.StimulusOf.TheVariants.{Down}
use Rattle.frames.specs.Frame.{Frame}
use Rattle.node_threads.specs.Cell.{Cell}
use Rattle.node_threads.specs.Downs.{AppliesOpening, TakesDown, TakesDownBy, TakesDowns, TakesDrawnDowns, dice_of}
use Rattle.node_threads.specs.Learning.{Learnt}
use Rattle.node_threads.specs.Refusal.{Refuses}
use Rattle.node_threads.specs.declared.cell.applied.Applied.{Applied}
use Rattle.node_threads.specs.declared.error.HostError.{HostError}

module _
    {C : Type 0}
    (state : C → CoreState)
    (steps : C → Stimulus Frame → List (Name × Frame) → List Delivery → C → Type 0)
    (is_spent : C → Stimulus Frame → Type 0)
  where
    pub down_taken :
        {A : Type 0} (dice : Dice) (old : Cell C) (learnt : Learnt) (peer : Name) (new : Cell C) (learnt' : Learnt) (r : Result (Applied A) HostError)
        → IfOk r (λ applied. AppliesOpening state steps old learnt (Down peer dice) new learnt' applied.id applied.place applied.full applied.unlinked)
        → IfErr r (Refuses is_spent old (Down peer dice))
        → OnErr r ((new ≡ old) × (learnt' ≡ learnt))
        → TakesDownBy state steps is_spent dice old learnt peer new learnt'
    down_taken dice old learnt peer new learnt' (Ok applied) made refused same = inl (applied.id, applied.place, applied.full, applied.unlinked, made)
    down_taken dice old learnt peer new learnt' (Err error) made refused same = inr (error, refused, same.0, same.1)

    -- the Downs of these peers from here on are the last of those of all
    abbrev pub DownsOn : Cell C → Learnt → List Name → Cell C → Learnt → List Name → Type 0
    DownsOn first learnt all now more rest =
        (last : Cell C) (learnt' : Learnt) →
        TakesDowns state steps is_spent now more rest last learnt' →
        TakesDowns state steps is_spent first learnt all last learnt'

    pub downs_on :
        (first : Cell C) (learnt : Learnt) (all : List Name) (now : Cell C) (more : Learnt)
        (rest rest' : List Name) (peer : Name) (next : Cell C) (more' : Learnt)
        → rest ≡ peer ∷ rest'
        → DownsOn first learnt all now more rest
        → TakesDown state steps is_spent now more peer next more'
        → DownsOn first learnt all next more' rest'
    downs_on first learnt all now more rest rest' peer next more' is on taken last learnt' others =
        on last learnt' (subst (λ names. TakesDowns state steps is_spent now more names last learnt') (sym is) (next, more', taken, others))

    pub downs_end :
        (first : Cell C) (learnt : Learnt) (all : List Name) (now : Cell C) (more : Learnt) (rest : List Name)
        → rest ≡ [] → DownsOn first learnt all now more rest → TakesDowns state steps is_spent first learnt all now more
    downs_end first learnt all now more rest is on =
        on now more (subst (λ names. TakesDowns state steps is_spent now more names now more) (sym is) (refl, refl))

    -- the Downs of these peers from here on, with these dice, are the last of those of all
    abbrev pub DrawnOn : Stream → Cell C → Learnt → List Name → Stream → Cell C → Learnt → List Name → Type 0
    DrawnOn first_stream first learnt all stream now more rest =
        (last : Cell C) (learnt' : Learnt) (left : Stream)
        → TakesDrawnDowns state steps is_spent stream now more rest last learnt' left
        → TakesDrawnDowns state steps is_spent first_stream first learnt all last learnt' left

    pub drawn_on :
        (first_stream : Stream) (first : Cell C) (learnt : Learnt) (all : List Name) (stream : Stream) (now : Cell C) (more : Learnt)
        (rest rest' : List Name) (peer : Name) (next : Cell C) (more' : Learnt) (dice : Dice) (stream' : Stream)
        → rest ≡ peer ∷ rest'
        → dice.0 ≡ words 16 stream
        → stream' ≡ after_words 16 stream
        → DrawnOn first_stream first learnt all stream now more rest
        → TakesDownBy state steps is_spent dice now more peer next more'
        → DrawnOn first_stream first learnt all stream' next more' rest'
    drawn_on first_stream first learnt all stream now more rest rest' peer next more' dice stream' is drawn after on taken last learnt' left others =
        let its_dice : dice ≡ dice_of stream = λ i. record { 0 = drawn i } in
        let down : TakesDownBy state steps is_spent (dice_of stream) now more peer next more' =
        subst (λ d. TakesDownBy state steps is_spent d now more peer next more') its_dice taken in
        let downs : TakesDrawnDowns state steps is_spent (after_words 16 stream) next more' rest' last learnt' left =
        subst (λ s. TakesDrawnDowns state steps is_spent s next more' rest' last learnt' left) after others in
        on last learnt' left (subst (λ names. TakesDrawnDowns state steps is_spent stream now more names last learnt' left) (sym is) (next, more', down, downs))

    pub drawn_end :
        (first_stream : Stream) (first : Cell C) (learnt : Learnt) (all : List Name) (stream : Stream) (now : Cell C) (more : Learnt) (rest : List Name)
        → rest ≡ []
        → DrawnOn first_stream first learnt all stream now more rest
        → TakesDrawnDowns state steps is_spent first_stream first learnt all now more stream
    drawn_end first_stream first learnt all stream now more rest is on =
        on now more stream (subst (λ names. TakesDrawnDowns state steps is_spent stream now more names now more stream) (sym is) (refl, refl, refl))
