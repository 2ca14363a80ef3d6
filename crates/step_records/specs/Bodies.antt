-- The bodies of blocks: which bytes tell a stimulus, and which a head.
use Rattle.std.specs.Prelude.{◌≡◌, ℕ, List, [], ◌∷◌, ◌++◌, Option, Some, None, length}
use Rattle.std.specs.List.{flat_map}
use Rattle.std.specs.Int.{w32, to_be_bytes}
use Rattle.node_names.specs.NodeName.{Name}
use Rattle.node_names.specs.Limits.{Limits}
use Rattle.protocol.specs.Stimulus.{Stimulus}
use Rattle.protocol.specs.declared.stimulus.StimulusOf.TheVariants as stimulus
use Rattle.frames.specs.Field.{name_octets, origin_octets}
use Rattle.frames.specs.Frame.{Frame}
use Rattle.frames.specs.Grammar.{IsSpelling}
use Rattle.step_records.specs.Text.{dice_text, id_text}
use Rattle.step_records.specs.declared.head.Head.{Head}

-- These bytes tell the stimulus: the number of its kind, and then its fields. A payload and a frame take the rest of the
-- bytes.
abbrev pub IsBodyOf : Stimulus Frame → List ℕ → Type 0
IsBodyOf (stimulus.Broadcast payload) bytes = bytes ≡ 1 ∷ payload
IsBodyOf (stimulus.Arrive sender note dice) bytes =
    (spelling : List ℕ) × IsSpelling note spelling × (bytes ≡ (2 ∷ (origin_octets sender ++ dice_text dice)) ++ spelling)
IsBodyOf (stimulus.Fire id) bytes = bytes ≡ 3 ∷ id_text id
IsBodyOf stimulus.Flush bytes = bytes ≡ 4 ∷ []
IsBodyOf (stimulus.Down peer dice) bytes = bytes ≡ 5 ∷ (name_octets peer ++ dice_text dice)
IsBodyOf (stimulus.Shuffle dice) bytes = bytes ≡ 6 ∷ dice_text dice
IsBodyOf (stimulus.Join contact) bytes = bytes ≡ 7 ∷ name_octets contact

-- the six sizes, a byte each
abbrev pub sizes_text : Limits → List ℕ
sizes_text l = l.active ∷ l.passive ∷ l.arwl ∷ l.prwl ∷ l.ka ∷ l.kp ∷ []

-- the six sizes, the threshold and the number of payloads to keep
abbrev pub limits_text : Limits → List ℕ
limits_text l = sizes_text l ++ (to_be_bytes w32 l.threshold ++ to_be_bytes w32 l.keep)

-- the number of the peers, and the peers
abbrev pub peers_text : List Name → List ℕ
peers_text peers = length peers ∷ flat_map name_octets peers

-- 1 and the contact, or 0 if there is none
abbrev pub contact_text : Option Name → List ℕ
contact_text None = 0 ∷ []
contact_text (Some contact) = 1 ∷ name_octets contact

-- the label, the name and the incarnation, the limits, the peers and the contact
abbrev pub head_text : Head → List ℕ
head_text head = name_octets head.label ++ (origin_octets head.origin ++ (limits_text head.limits ++ (peers_text head.peers ++ contact_text head.contact)))
