-- When each error comes.
use Rattle.std.specs.Prelude.{◌≡◌, ◌≢◌, ◌⊎◌, ℕ, ◌<◌, ◌≤◌, List, ◌∷◌, ◌++◌, length, take}
use Rattle.node_names.specs.NodeName.{Name, IsNodeName}
use Rattle.handshake.specs.Text.{plum, name_text}

-- the first four bytes are there, and are not PLUM
abbrev pub BeginsOtherwise : List ℕ → Type 0
BeginsOtherwise bytes = (4 ≤ length bytes) × (take 4 bytes ≢ plum)

-- PLUM, and then a version other than 2
pub record HasOtherVersion (version : ℕ) (bytes : List ℕ) : Type 0 where
  pub rest : List ℕ
  pub begins : bytes ≡ plum ++ (version ∷ rest)
  pub other : version ≢ 2

-- A length, and then no name of that length: the length is more than 32, or that many bytes are there and are no name.
pub record BeginsWithNoName (bytes : List ℕ) : Type 0 where
  pub len : ℕ
  pub rest : List ℕ
  pub begins : bytes ≡ len ∷ rest
  pub wrong : (32 < len) ⊎ ((len ≤ length rest) × ¬ IsNodeName (take len rest))

-- the version, and then no name
pub record HasBadLabel (bytes : List ℕ) : Type 0 where
  pub rest : List ℕ
  pub begins : bytes ≡ plum ++ (2 ∷ rest)
  pub wrong : BeginsWithNoName rest

-- the label, and then no name
pub record HasBadAddressee (bytes : List ℕ) : Type 0 where
  pub label : Name
  pub rest : List ℕ
  pub begins : bytes ≡ plum ++ (2 ∷ (name_text label ++ rest))
  pub is_label : IsNodeName label
  pub wrong : BeginsWithNoName rest

-- the name of the node that is meant, and then no name
pub record HasBadName (bytes : List ℕ) : Type 0 where
  pub label : Name
  pub to : Name
  pub rest : List ℕ
  pub begins : bytes ≡ plum ++ (2 ∷ (name_text label ++ (name_text to ++ rest)))
  pub is_label : IsNodeName label
  pub is_to : IsNodeName to
  pub wrong : BeginsWithNoName rest

-- the name of the node that dials, and then a byte that is neither 4 nor 6
pub record HasBadAddress (kind : ℕ) (bytes : List ℕ) : Type 0 where
  pub label : Name
  pub to : Name
  pub name : Name
  pub rest : List ℕ
  pub begins : bytes ≡ plum ++ (2 ∷ (name_text label ++ (name_text to ++ (name_text name ++ (kind ∷ rest)))))
  pub is_label : IsNodeName label
  pub is_to : IsNodeName to
  pub is_name : IsNodeName name
  pub not_v4 : kind ≢ 4
  pub not_v6 : kind ≢ 6
