-- A text into which other bytes are set.
use Rattle.std.specs.Prelude.{◌≡◌, ◌+◌, ◌<◌, ℕ, List, [], ◌∷◌, ◌++◌, All, drop, length, take}

-- Bytes that are set into a text, behind so many bytes of it.
abbrev pub Inset : Type 0
Inset = ℕ × List ℕ

-- the text with the insets in their places, each behind its part of the text
abbrev pub woven : List ℕ → List Inset → List ℕ
woven text [] = text
woven text (inset ∷ insets) = take inset.0 text ++ (inset.1 ++ woven (drop inset.0 text) insets)

-- how much of the text comes before the last inset
abbrev pub before_last : List Inset → ℕ
before_last [] = 0
before_last (inset ∷ insets) = inset.0 + before_last insets

-- The insets lie within the text, none is empty, `tail` bytes of the text follow the last one, and all have this length.
pub record IsWoven (text : List ℕ) (insets : List Inset) (tail len : ℕ) : Type 0 where
  pub within : before_last insets + tail ≡ length text
  pub some : All (λ (inset : Inset). 0 < length inset.1) insets
  pub whole : len ≡ length (woven text insets)
