-- The bytes of names are ASCII.
use Rattle.std.proofs.Common.{ℕ, ◌<◌, List, arith}
use Rattle.std.specs.Prelude.{IsTrue, IsUtf8}
use Rattle.std.proofs.lemmas.Bool.Decides.{nat_tests}
use Rattle.std.proofs.lemmas.Str.{IsUtf8-from_ascii}
use Rattle.std.proofs.lemmas.Str.Ascii.{IsAscii-from_all}
use Rattle.node_names.specs.NodeName.{is_name_byte, IsNodeName}

-- a byte of a name is ASCII
pub name_byte-ascii : (b : ℕ) → IsTrue (is_name_byte b) → b < 128
name_byte-ascii b h = grind (arith, nat_tests)

-- a name is text
pub IsUtf8-name : (name : List ℕ) → IsNodeName name → IsUtf8 name
IsUtf8-name name h =
    IsUtf8-from_ascii name (IsAscii-from_all name (λ k d lt. name_byte-ascii _ (h.alphabet k d lt)))
