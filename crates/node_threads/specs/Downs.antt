-- A step of a running node, and the links that it finds to be down.
use Rattle.std.specs.Prelude.{◌≡◌, ◌⊎◌, ℕ, List, [], ◌∷◌, Option, replicate}
use Rattle.node_names.specs.NodeName.{Name}
use Rattle.node_names.specs.declared.dice.Dice.{Dice}
use Rattle.node_names.specs.declared.ids.MsgId.{MsgId}
use Rattle.node_names.specs.Draws.{after_words, words}
use Rattle.rand_core.specs.Stream.{Stream}
use Rattle.protocol.specs.CoreState.{CoreState}
use Rattle.protocol.specs.Delivery.{Delivery}
use Rattle.protocol.specs.Stimulus.{Stimulus}
use Rattle.protocol.specs.declared.stimulus.StimulusOf.TheVariants.{Down}
use Rattle.frames.specs.Frame.{Frame}
use Rattle.node_threads.specs.Applying.{Applies}
use Rattle.node_threads.specs.Cell.{Cell}
use Rattle.node_threads.specs.Learning.{Learnt, Opens}
use Rattle.node_threads.specs.Refusal.{Refuses}
use Rattle.node_threads.specs.declared.error.HostError.{HostError}

-- the dice of a Down that a port or a writer has its node take
abbrev pub no_dice : Dice
no_dice = record { 0 = replicate 16 0 }

-- the next dice of a generator
abbrev pub dice_of : Stream → Dice
dice_of stream = record { 0 = words 16 stream }

-- The node makes a step, and opens links to receivers of the step that have none, each from that step on. Those in
-- `left` got none.
pub record AppliesOpening {C : Type 0} (state : C → CoreState) (steps : C → Stimulus Frame → List (Name × Frame) → List Delivery → C → Type 0)
    (old : Cell C) (learnt : Learnt) (stimulus : Stimulus Frame) (new : Cell C) (learnt' : Learnt) (id : Option MsgId) (place : ℕ) (full left : List Name) :
    Type 0 where
  pub stepped : Cell C
  pub lacking : List Name
  pub applies : Applies state steps old stimulus stepped id place full lacking
  pub opens : Opens place stepped learnt lacking new learnt' left

module _
    {C : Type 0}
    (state : C → CoreState)
    (steps : C → Stimulus Frame → List (Name × Frame) → List Delivery → C → Type 0)
    (is_spent : C → Stimulus Frame → Type 0)
  where
    -- The node makes a step at the Down of this peer with these dice, and opens links to receivers of the step that
    -- have none; or it refuses the step and stays as it was.
    abbrev pub TakesDownBy : Dice → Cell C → Learnt → Name → Cell C → Learnt → Type 0
    TakesDownBy dice old learnt peer new learnt' =
        ((id : Option MsgId)
        × (place : ℕ)
        × (full : List Name)
        × (left : List Name)
        × AppliesOpening state steps old learnt (Down peer dice) new learnt' id place full left)
        ⊎ ((error : HostError) × Refuses is_spent old (Down peer dice) error × (new ≡ old) × (learnt' ≡ learnt))

    -- the same with dice of zeros
    abbrev pub TakesDown : Cell C → Learnt → Name → Cell C → Learnt → Type 0
    TakesDown = TakesDownBy no_dice

    -- The node takes the Downs of these peers, one after the other.
    abbrev pub TakesDowns : Cell C → Learnt → List Name → Cell C → Learnt → Type 0
    TakesDowns old learnt [] new learnt' = (new ≡ old) × (learnt' ≡ learnt)
    TakesDowns old learnt (peer ∷ peers) new learnt' =
        (mid : Cell C) × (more : Learnt) × TakesDown old learnt peer mid more × TakesDowns mid more peers new learnt'

    -- The node makes a step and opens links to receivers of the step that have none, and then takes the Downs of the
    -- peers whose links were full, and then of those that got no link.
    pub record AppliesWithDowns (old : Cell C) (learnt : Learnt) (stimulus : Stimulus Frame)
        (new : Cell C) (learnt' : Learnt) (id : Option MsgId) (place : ℕ) (full left : List Name) : Type 0 where
      pub answered : Cell C
      pub learnt_answered : Learnt
      pub told_full : Cell C
      pub learnt_full : Learnt
      pub applies : AppliesOpening state steps old learnt stimulus answered learnt_answered id place full left
      pub downs_full : TakesDowns answered learnt_answered full told_full learnt_full
      pub downs_left : TakesDowns told_full learnt_full left new learnt'

    -- The node takes the Downs of these peers, one after the other, each with the next dice of a generator. The last
    -- argument is what the generator yields afterwards.
    abbrev pub TakesDrawnDowns : Stream → Cell C → Learnt → List Name → Cell C → Learnt → Stream → Type 0
    TakesDrawnDowns stream old learnt [] new learnt' rest = (new ≡ old) × (learnt' ≡ learnt) × (rest ≡ stream)
    TakesDrawnDowns stream old learnt (peer ∷ peers) new learnt' rest =
        (mid : Cell C)
        × (more : Learnt)
        × TakesDownBy (dice_of stream) old learnt peer mid more
        × TakesDrawnDowns (after_words 16 stream) mid more peers new learnt' rest

    -- The node makes a step and opens links to receivers of the step that have none, and then takes the Downs of the
    -- peers whose links were full, and then of those that got no link, with the next dice of a generator.
    pub record AppliesDrawing (stream : Stream) (old : Cell C) (learnt : Learnt) (stimulus : Stimulus Frame)
        (new : Cell C) (learnt' : Learnt) (rest : Stream) (id : Option MsgId) (place : ℕ) (full left : List Name) : Type 0 where
      pub answered : Cell C
      pub learnt_answered : Learnt
      pub told_full : Cell C
      pub learnt_full : Learnt
      pub stream_full : Stream
      pub applies : AppliesOpening state steps old learnt stimulus answered learnt_answered id place full left
      pub downs_full : TakesDrawnDowns stream answered learnt_answered full told_full learnt_full stream_full
      pub downs_left : TakesDrawnDowns stream_full told_full learnt_full left new learnt' rest
