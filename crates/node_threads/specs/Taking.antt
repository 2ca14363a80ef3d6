-- What a reader has its node do: each frame is one step, with the Downs that follow it.
use Rattle.std.specs.Prelude.{◌≡◌, ℕ, List, [], ◌∷◌, Option}
use Rattle.node_names.specs.NodeName.{Name}
use Rattle.node_names.specs.Draws.{after_words}
use Rattle.node_names.specs.declared.ids.MsgId.{MsgId}
use Rattle.rand_core.specs.Stream.{Stream}
use Rattle.protocol.specs.CoreState.{CoreState}
use Rattle.protocol.specs.Delivery.{Delivery}
use Rattle.protocol.specs.Stimulus.{Stimulus}
use Rattle.protocol.specs.declared.stimulus.StimulusOf.TheVariants.{Arrive}
use Rattle.frames.specs.Frame.{Frame}
use Rattle.node_threads.specs.Cell.{Cell}
use Rattle.node_threads.specs.Downs.{AppliesDrawing, dice_of}
use Rattle.node_threads.specs.Learning.{Learnt}

module _
    {C : Type 0}
    (state : C → CoreState)
    (steps : C → Stimulus Frame → List (Name × Frame) → List Delivery → C → Type 0)
    (is_spent : C → Stimulus Frame → Type 0)
  where
    -- The node takes the frame from whoever sent it, with the next dice of a generator, and then the Downs that follow,
    -- with the dice after those.
    pub record TakesFrame (stream : Stream) (old : Cell C) (learnt : Learnt) (frame : Frame) (new : Cell C) (learnt' : Learnt) (rest : Stream) : Type 0 where
      pub id : Option MsgId
      pub place : ℕ
      pub full : List Name
      pub left : List Name
      pub applies : AppliesDrawing state steps is_spent (after_words 16 stream) old learnt
          (Arrive frame.sender frame (dice_of stream)) new learnt' rest id place full left

    -- The node takes these frames, one after the other.
    abbrev pub TakesFrames : Stream → Cell C → Learnt → List Frame → Cell C → Learnt → Stream → Type 0
    TakesFrames stream old learnt [] new learnt' rest = (new ≡ old) × (learnt' ≡ learnt) × (rest ≡ stream)
    TakesFrames stream old learnt (frame ∷ frames) new learnt' rest =
        (mid : Cell C)
        × (more : Learnt)
        × (next : Stream)
        × TakesFrame stream old learnt frame mid more next
        × TakesFrames next mid more frames new learnt' rest
