-- The printed forms of name faults.
use Rattle.std.specs.Prelude.{ℕ, List, ◌++◌, codes}
use Rattle.std.specs.Fmt.{decimal}
use Rattle.node_names.specs.declared.name.NameFault.{NameFault}
use Rattle.node_names.specs.declared.name.NameFault.TheVariants.{Empty, TooLong, BadByte}

-- what is wrong with the name, and where
abbrev pub fault_text : NameFault → List ℕ
fault_text Empty = codes "the name is empty"
fault_text TooLong = codes "the name is longer than 32 bytes"
fault_text (BadByte at) = codes "byte " ++ decimal at ++ codes " of the name is no small letter, digit or dash"
