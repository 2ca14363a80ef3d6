-- The addresses of a node, as words and a file tell them.
use Rattle.std.specs.Prelude.{◌≡◌, ⊤, List, [], ◌∷◌, ℕ, Option, Some, None}
use Rattle.std.specs.Net.Addr.{MatchIp, IsUnspecifiedV4, IsUnspecifiedV6, ipv4_octets}
use Rattle.std.specs.Net.Grammar.{IsSocketText}
use Rattle.std.specs.Net.Socket.{socket_ip, socket_port}
use Rattle.std.specs.declared.net.socket_addr.SocketAddr.{SocketAddr}
use Rattle.node_options.specs.Told.{Said, text_of}

-- it is 127.0.0.1, and this port
abbrev pub IsLocal : ℕ → SocketAddr → Type 0
IsLocal port address = MatchIp (socket_ip address) (λ ip. ipv4_octets ip ≡ 127 ∷ 0 ∷ 0 ∷ 1 ∷ []) (λ _. ⊥)
    × (socket_port address ≡ port)

-- it is not 0.0.0.0 or ::
abbrev pub IsSpecified : SocketAddr → Type 0
IsSpecified address = ¬ MatchIp (socket_ip address) IsUnspecifiedV4 IsUnspecifiedV6

-- the text spells the address
abbrev pub IsSpelled : Option (List ℕ) → SocketAddr → Type 0
IsSpelled None address = ⊥
IsSpelled (Some text) address = IsSocketText text address

-- the address that was given, or one that meets the default if no value was given
abbrev pub IsAddressOr : (SocketAddr → Type 0) → Option Said → SocketAddr → Type 0
IsAddressOr Default None address = Default address
IsAddressOr Default (Some said) address = IsSpelled (text_of said) address

-- the address that was given, or none if no value was given
abbrev pub IsAddressIfGiven : Option Said → Option SocketAddr → Type 0
IsAddressIfGiven None None = ⊤
IsAddressIfGiven None (Some address) = ⊥
IsAddressIfGiven (Some said) None = ⊥
IsAddressIfGiven (Some said) (Some address) = IsSpelled (text_of said) address
