-- The values of a scenario's keys, and how they are read.
use Rattle.std.specs.Prelude.{◌≡◌, ◌≢◌, ℕ, ◌≤◌, List, [], ◌∷◌, length, pos, Option, Some, None, option_map, MatchOption, MatchResult, Result, All}
use Rattle.toml.specs.Data.{Data, Members, Items, no_items, item, string, integer, array, table, get_member}
use Rattle.node_names.specs.NodeName.{IsNodeName, Name}
use Rattle.scenario.specs.Key.{word_of}
use Rattle.scenario.specs.declared.error.Key.{Key}
use Rattle.scenario.specs.declared.error.ScenarioError.{ScenarioError}

-- what a table has at a key
abbrev pub at_key : Key → Members → Option Data
at_key key members = get_member (word_of key) members

-- An optional key gives `None` if it is left out, and otherwise the meaning of its value.
abbrev pub IsOptional : {T : Type 0} → (Option Data → T → Type 0) → Option Data → Option T → Type 0
IsOptional Means found value = MatchOption value (found ≡ None) (Means found)

-- An optional key is rejected if it is present and its value has no meaning. `seen` is the view of the value that is
-- read.
abbrev pub ReadsOptionalAs : {T V : Type 0} → (T → V) → (Option Data → V → Type 0) → Option Data → ScenarioError → Result (Option T) ScenarioError → Type 0
ReadsOptionalAs seen Means found fault result = MatchResult result
    (λ value. IsOptional Means found (option_map seen value))
    (λ e. (e ≡ fault) × (found ≢ None) × ((v : _) → ¬ Means found v))

abbrev pub ReadsOptional : {T : Type 0} → (Option Data → T → Type 0) → Option Data → ScenarioError → Result (Option T) ScenarioError → Type 0
ReadsOptional Means found fault result = MatchResult result (IsOptional Means found) (λ e. (e ≡ fault) × (found ≢ None) × ((x : _) → ¬ Means found x))

-- A required key gives the meaning of its value, and is rejected if there is none.
abbrev pub ReadsRequiredAs : {T V : Type 0} → (T → V) → (Option Data → V → Type 0) → Option Data → ScenarioError → Result T ScenarioError → Type 0
ReadsRequiredAs seen Means found fault result = MatchResult result (λ x. Means found (seen x)) (λ e. (e ≡ fault) × ((v : _) → ¬ Means found v))

abbrev pub ReadsRequired : {T : Type 0} → (Option Data → T → Type 0) → Option Data → ScenarioError → Result T ScenarioError → Type 0
ReadsRequired Means found fault result = ReadsRequiredAs (λ x. x) Means found fault result

-- a whole number, which is at most `most`
abbrev pub IsNumber : ℕ → Option Data → ℕ → Type 0
IsNumber most found number = (found ≡ Some (integer (pos number))) × (number ≤ most)

-- a whole number from 1, which is at most `most`
abbrev pub IsNumberFromOne : ℕ → Option Data → ℕ → Type 0
IsNumberFromOne most found number = IsNumber most found number × (1 ≤ number)

-- a text
abbrev pub IsText : Option Data → List ℕ → Type 0
IsText found text = found ≡ Some (string text)

-- a text that is a name
abbrev pub IsName : Option Data → Name → Type 0
IsName found name = (found ≡ Some (string name)) × IsNodeName name

-- a table
abbrev pub IsTable : Option Data → Members → Type 0
IsTable found members = found ≡ Some (table members)

-- a list
abbrev pub IsList : Option Data → Items → Type 0
IsList found items = found ≡ Some (array items)

-- texts as the items of a list
abbrev pub texts : List (List ℕ) → Items
texts [] = no_items
texts (t ∷ ts) = item (string t) (texts ts)

-- a list of names; a key that is left out holds no names
abbrev pub IsNames : Option Data → List Name → Type 0
IsNames None names = names ≡ []
IsNames (Some found) names = (found ≡ array (texts names)) × All IsNodeName names

-- tables as the items of a list
abbrev pub tables : List Members → Items
tables [] = no_items
tables (t ∷ ts) = item (table t) (tables ts)

-- a list of at most `most` tables; a key that is left out holds no tables
abbrev pub IsTables : ℕ → Option Data → List Members → Type 0
IsTables most None members = members ≡ []
IsTables most (Some found) members = (found ≡ array (tables members)) × (length members ≤ most)
