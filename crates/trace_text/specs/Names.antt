-- How lists of names and ids are printed: each item after a space, and a dash if there are no items.
use Rattle.std.specs.Prelude.{ℕ, List, [], ◌∷◌, ◌++◌, Option, Some, None, codes}
use Rattle.node_names.specs.Ids.{msg_id_text}
use Rattle.node_names.specs.NodeName.{Name}
use Rattle.node_names.specs.declared.ids.MsgId.{MsgId}

-- the items, or a dash if they are empty
abbrev pub or_dash : List ℕ → List ℕ
or_dash [] = codes " -"
or_dash (byte ∷ bytes) = byte ∷ bytes

-- a name after a space
abbrev pub name_item : Name → List ℕ
name_item name = codes " " ++ name

-- names, in their order
abbrev pub name_items : List Name → List ℕ
name_items [] = []
name_items (name ∷ names) = name_item name ++ name_items names

-- a list of names
abbrev pub names_text : List Name → List ℕ
names_text names = or_dash (name_items names)

-- a name after a space, or a dash if there is no name
abbrev pub maybe_name : Option Name → List ℕ
maybe_name None = codes " -"
maybe_name (Some name) = name_item name

-- an id after a space
abbrev pub id_item : MsgId → List ℕ
id_item id = codes " " ++ msg_id_text id

-- ids, in their order
abbrev pub id_items : List MsgId → List ℕ
id_items [] = []
id_items (id ∷ ids) = id_item id ++ id_items ids
