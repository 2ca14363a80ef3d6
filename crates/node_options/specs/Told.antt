-- What words and a configuration file tell of an option.
use Rattle.std.specs.Prelude.{◌≡◌, List, ℕ, pos, Bool, Option, Some, None, option_map, option_and_then}
use Rattle.std.specs.Borrow.{Bor}
use Rattle.std.specs.Str.Parse.{IsNumeral, digits_value, without_leading_plus}
use Rattle.clap.specs.Matches.{first_value}
use Rattle.clap.specs.declared.parser.matches.Found.{Found}
use Rattle.toml.specs.Data.{Data, Members, as_bool, as_str, get_member, integer}
use Rattle.toml.specs.Parse.{parse_document}

-- a value of an option: a word, or a value in the file
pub data Said : Type 0 where
  Word : List ℕ → Said
  Key : Data → Said

-- a value as text, if it is one
abbrev pub text_of : Said → Option (List ℕ)
text_of (Word word) = Some word
text_of (Key value) = as_str value

-- the word, or else the value in the file
abbrev pub word_or_key : Option (List ℕ) → Option Data → Option Said
word_or_key (Some word) value = Some (Word word)
word_or_key None value = option_map Key value

-- what a file has at a key, if there is a file
abbrev pub at_key : Option Members → List ℕ → Option Data
at_key file option = option_and_then (get_member option) file

-- the value of an option that takes one, by the words, and else by the file
abbrev pub told : Found → Option Members → List ℕ → Option Said
told words file option = word_or_key (first_value words option) (at_key file option)

-- the keys and values of a file with this text, if there is a file
abbrev pub file_of : Option (Bor (List ℕ)) → Option Members
file_of config = option_and_then (λ text. parse_document text.now) config

-- a value as text, or this text if no value was given
abbrev pub text_or : List ℕ → Option Said → Option (List ℕ)
text_or text None = Some text
text_or text (Some said) = text_of said

-- the number that a value is: the digits of a word, which may have a + before them, or an integer in the file
abbrev pub IsNumber : ℕ → Said → Type 0
IsNumber number (Word word) = IsNumeral 10 (without_leading_plus word)
    × (digits_value 10 (without_leading_plus word) ≡ number)
IsNumber number (Key value) = value ≡ integer (pos number)

-- the number that was given, or this one if no value was given
abbrev pub IsNumberOr : ℕ → Option Said → ℕ → Type 0
IsNumberOr default None number = number ≡ default
IsNumberOr default (Some said) number = IsNumber number said

-- whether a value in the file is true or false, or this if no value was given
abbrev pub truth_or : Bool → Option Data → Option Bool
truth_or default None = Some default
truth_or default (Some value) = as_bool value
