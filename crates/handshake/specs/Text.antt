-- The text of a Hello: the bytes that a connection begins with.
use Rattle.std.specs.Prelude.{◌≡◌, ℕ, ◌<◌, ◌^◌, List, [], ◌∷◌, ◌++◌, length}
use Rattle.std.specs.Int.{w16, to_be_bytes}
use Rattle.node_names.specs.NodeName.{Name, IsNodeName}
use Rattle.handshake.specs.declared.address.Address.{Address}
use Rattle.handshake.specs.declared.address.Address.TheVariants.{V4, V6}
use Rattle.handshake.specs.declared.hello.Hello.{Hello}

-- "PLUM"
abbrev pub plum : List ℕ
plum = 80 ∷ 76 ∷ 85 ∷ 77 ∷ []

-- the length in one byte, then the name
abbrev pub name_text : Name → List ℕ
name_text n = length n ∷ n

-- 4 or 6, then the octets, then the port in two bytes
abbrev pub address_text : Address → List ℕ
address_text (V4 octets port) = 4 ∷ (octets ++ to_be_bytes w16 port)
address_text (V6 octets port) = 6 ∷ (octets ++ to_be_bytes w16 port)

-- "PLUM", the version, the label, the name of the node that is meant, and then the name and the address of the one that dials
abbrev pub text : Hello → List ℕ
text h = plum ++ (2 ∷ (name_text h.label ++ (name_text h.to ++ (name_text h.name ++ address_text h.at))))

-- an address has 4 or 16 octets, and a port of 16 bits
abbrev pub IsAddress : Address → Type 0
IsAddress (V4 octets port) = (length octets ≡ 4) × (port < 2 ^ 16)
IsAddress (V6 octets port) = (length octets ≡ 16) × (port < 2 ^ 16)

-- The label and both names are names, and the address is one.
pub record IsHello (h : Hello) : Type 0 where
  pub label : IsNodeName h.label
  pub to : IsNodeName h.to
  pub name : IsNodeName h.name
  pub at : IsAddress h.at
