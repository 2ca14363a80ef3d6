-- The frames that a reader has its node take, one after the other.
use Rattle.std.specs.Prelude.{◌≡◌, ℕ, List, [], ◌∷◌, ◌++◌, Option, length, refl, take}
use Rattle.std.proofs.Common.{◌∙◌, subst, sym}
use Rattle.std.proofs.lemmas.List.{take_at}
use Rattle.node_names.specs.NodeName.{Name}
use Rattle.node_names.specs.declared.dice.Dice.{Dice}
use Rattle.node_names.specs.declared.ids.MsgId.{MsgId}
use Rattle.node_names.specs.declared.ids.Origin.{Origin}
use Rattle.node_names.specs.Draws.{after_words, words}
use Rattle.rand_core.specs.Stream.{Stream}
use Rattle.protocol.specs.CoreState.{CoreState}
use Rattle.protocol.specs.Delivery.{Delivery}
use Rattle.protocol.specs.Stimulus.{Stimulus}
use Rattle.protocol.specs.declared.stimulus.StimulusOf.TheVariants.{Arrive}
use Rattle.frames.specs.Frame.{Frame}
use Rattle.node_threads.specs.Cell.{Cell}
use Rattle.node_threads.specs.Downs.{AppliesDrawing, dice_of}
use Rattle.node_threads.specs.Learning.{Learnt}
use Rattle.node_threads.specs.Taking.{TakesFrame, TakesFrames}

module _
    {C : Type 0}
    (state : C → CoreState)
    (steps : C → Stimulus Frame → List (Name × Frame) → List Delivery → C → Type 0)
    (is_spent : C → Stimulus Frame → Type 0)
  where
    -- one frame, whose dice were drawn
    pub frame_taken :
        (stream : Stream) (old : Cell C) (learnt : Learnt) (frame : Frame) (new : Cell C) (learnt' : Learnt) (rest : Stream)
        (sender : Origin) (dice : Dice) (stream' : Stream) (id : Option MsgId) (place : ℕ) (full left : List Name)
        → sender ≡ frame.sender
        → dice.0 ≡ words 16 stream
        → stream' ≡ after_words 16 stream
        → AppliesDrawing state steps is_spent stream' old learnt (Arrive sender frame dice) new learnt' rest id place full left
        → TakesFrame state steps is_spent stream old learnt frame new learnt' rest
    frame_taken stream old learnt frame new learnt' rest sender dice stream' id place full left from drawn after made =
        let its_dice : dice ≡ dice_of stream = λ i. record { 0 = drawn i } in
        record {
          id = id;
          place = place;
          full = full;
          left = left;
          applies =
              subst
              (λ s. AppliesDrawing state steps is_spent s old learnt (Arrive frame.sender frame (dice_of stream)) new learnt' rest id place full left) after
              (subst (λ d. AppliesDrawing state steps is_spent stream' old learnt (Arrive frame.sender frame d) new learnt' rest id place full left) its_dice
              (subst (λ o. AppliesDrawing state steps is_spent stream' old learnt (Arrive o frame dice) new learnt' rest id place full left) from made));
        }

    -- and one more after others
    pub frames_taken :
        (stream : Stream) (old : Cell C) (learnt : Learnt) (frames : List Frame) (mid : Cell C)
        (more : Learnt) (next : Stream) (frame : Frame) (new : Cell C) (learnt' : Learnt) (rest : Stream)
        → TakesFrames state steps is_spent stream old learnt frames mid more next
        → TakesFrame state steps is_spent next mid more frame new learnt' rest
        → TakesFrames state steps is_spent stream old learnt (frames ++ frame ∷ []) new learnt' rest
    frames_taken stream old learnt [] mid more next frame new learnt' rest before taken = (
      new,
      learnt',
      rest,
      subst (λ c. TakesFrame state steps is_spent stream c learnt frame new learnt' rest) before.0
          (subst (λ l. TakesFrame state steps is_spent stream mid l frame new learnt' rest) before.1
          (subst (λ s. TakesFrame state steps is_spent s mid more frame new learnt' rest) before.2 taken)),
      (refl, refl, refl),
    )
    frames_taken stream old learnt (first ∷ frames) mid more next frame new learnt' rest before taken =
        (before.0, before.1, before.2, before.3, frames_taken before.2 before.0 before.1 frames mid more next frame new learnt' rest before.4 taken)

-- those that were taken are the first ones
pub front_of : (all yielded rest : List Frame) (n : ℕ) → yielded ++ rest ≡ all → n ≡ length yielded → take n all ≡ yielded
front_of all yielded rest n parts count =
    let whole = sym parts in
    (λ i. take (count i) (whole i)) ∙ take_at yielded rest (length yielded) refl
