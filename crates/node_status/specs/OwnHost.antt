-- The hosts by which a node is asked to stop.
use Rattle.std.specs.Prelude.{◌≡◌, ◌⊎◌, ◌&&◌, ◌==◌, if◌then◌else◌, ℕ, Bool, not, nat_lt, codes}
use Rattle.std.specs.Prelude.{List, length, take, drop, map, slice_index}
use Rattle.std.specs.Char.{to_ascii_lowercase}
use Rattle.std.specs.List.{prefix_len}
use Rattle.std.specs.Net.Grammar.{IsIpText}
use Rattle.std.specs.declared.net.ip_addr.IpAddr.{IpAddr}

-- how many bytes stand in front of the first one that is `end`
abbrev pub len_before : List ℕ → ℕ → ℕ
len_before text end = prefix_len (λ b. not (b == end)) text

-- the text begins with `[`
abbrev pub is_bracketed : List ℕ → Bool
is_bracketed text = nat_lt 0 (length text) && (slice_index text 0 == 91)

-- the value of a `Host` field without its port, and without the brackets of an IPv6 address
abbrev pub host_alone : List ℕ → List ℕ
host_alone text =
    if is_bracketed text then take (len_before (drop 1 text) 93) (drop 1 text) else take (len_before text 58) text

-- an IP address or `localhost`, which no name server tells
abbrev pub IsOwnHost : List ℕ → Type 0
IsOwnHost text =
    (map to_ascii_lowercase (host_alone text) ≡ map to_ascii_lowercase (codes "localhost"))
    ⊎ ((address : IpAddr) × IsIpText (host_alone text) address)
