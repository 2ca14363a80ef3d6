-- What a call that drains a source into a writer does.
use Rattle.std.specs.Prelude.{◌≡◌, ◌⊎◌, ℕ, ◌<◌, ◌≤◌, List, ◌++◌, length, take, Option, Result, Ok, Err}
use Rattle.std.specs.List.{flat_map}
use Rattle.std.specs.Io.KnownBytes.{Appends}
use Rattle.links.specs.declared.ends.LinkEnd.{LinkEnd}
use Rattle.links.specs.declared.ends.LinkEnd.TheVariants.{ReadFault, WriteFault, Frame, Ended, TurnLimit, SinkClosed, OutOfMemory}

-- the bytes of items, one after the other
abbrev pub joined : List (List ℕ) → List ℕ
joined items = flat_map (λ item. item) items

-- How many bytes of the items were written: all of them, unless the writer failed or took none. After Ok, a source that
-- gave fewer than frames items is spent.
abbrev pub WritesSo : Result ℕ LinkEnd → Type 0 → ℕ → List (List ℕ) → ℕ → Type 0
WritesSo (Ok n) is_spent frames items bytes = (bytes ≡ length (joined items)) × (n ≡ bytes) × ((length items ≡ frames) ⊎ is_spent)
WritesSo (Err (WriteFault n)) is_spent frames items bytes = (bytes < length (joined items)) × (n ≡ bytes)
WritesSo (Err OutOfMemory) is_spent frames items bytes = bytes ≡ length (joined items)
WritesSo (Err ReadFault) is_spent frames items bytes = ⊥
WritesSo (Err (Frame f)) is_spent frames items bytes = ⊥
WritesSo (Err (Ended n)) is_spent frames items bytes = ⊥
WritesSo (Err TurnLimit) is_spent frames items bytes = ⊥
WritesSo (Err SinkClosed) is_spent frames items bytes = ⊥

-- The bytes written are, in order, the first bytes of the items that the source gave, which are at most frames items.
pub record Drains (result : Result ℕ LinkEnd) (is_spent : Type 0) (frames : ℕ) (given given' : List (List ℕ)) (known known' : Option (List ℕ)) : Type 0 where
  pub items : List (List ℕ)
  pub bytes : ℕ
  pub asked : given' ≡ given ++ items
  pub few : length items ≤ frames
  pub written : Appends known known' (take bytes (joined items))
  pub ends : WritesSo result is_spent frames items bytes
