-- What a step of a running node does.
use Rattle.std.specs.Prelude.{◌≡◌, ◌⊎◌, ◌<◌, ℕ, false, List, [], ◌∷◌, ◌++◌, Option, Some, None, fold, length, map, option_map, slice_get, if◌then◌else◌}
use Rattle.node_names.specs.NodeName.{Name}
use Rattle.node_names.specs.Same.{has_name}
use Rattle.node_names.specs.declared.ids.MsgId.{MsgId}
use Rattle.protocol.specs.CoreState.{CoreState}
use Rattle.protocol.specs.Delivery.{Delivery}
use Rattle.protocol.specs.Output.{Output}
use Rattle.protocol.specs.PayloadLaw.{next_id}
use Rattle.protocol.specs.Stimulus.{Stimulus}
use Rattle.protocol.specs.declared.stimulus.StimulusOf.TheVariants.{Broadcast, Arrive, Fire, Flush, Down, Shuffle, Join}
use Rattle.frames.specs.Frame.{Frame}
use Rattle.node_threads.specs.Cell.{Cell, Link, is_linked, steps_made}
use Rattle.node_threads.specs.LinkText.{sent_to, spelling}

-- the id that a broadcast gets
abbrev pub broadcast_id : CoreState → Stimulus Frame → Option MsgId
broadcast_id core (Broadcast payload) = Some (next_id core)
broadcast_id core (Arrive sender frame dice) = None
broadcast_id core (Fire id) = None
broadcast_id core Flush = None
broadcast_id core (Down peer dice) = None
broadcast_id core (Shuffle dice) = None
broadcast_id core (Join contact) = None

-- the id of the message that a broadcast delivered
abbrev pub id_given : Stimulus Frame → List Delivery → Option MsgId
id_given (Broadcast payload) given = option_map (λ d. d.id) (slice_get given 0)
id_given (Arrive sender frame dice) given = None
id_given (Fire id) given = None
id_given Flush given = None
id_given (Down peer dice) given = None
id_given (Shuffle dice) given = None
id_given (Join contact) given = None

-- what these sends put into the link to this name, each frame as its bytes
abbrev pub mail_for : List (Name × Frame) → Name → List (List ℕ)
mail_for sends peer = map spelling (sent_to peer sends)

-- Each link takes all that goes to it, in order; or its ring has no room for some of it, and it is closed and its name
-- listed.
abbrev pub Puts : List (List (List ℕ)) → List Link → List Link → List Name → Type 0
Puts [] [] live full = (live ≡ []) × (full ≡ [])
Puts [] (link ∷ links) live full = ⊥
Puts (mail ∷ mails) [] live full = ⊥
Puts (mail ∷ mails) (link ∷ links) live full =
    ((rest : List Link) × (live ≡ record link { pushed = link.pushed ++ mail } ∷ rest) × Puts mails links rest full)
    ⊎ ((rest : List Name) × (full ≡ link.peer ∷ rest) × (0 < length mail) × Puts mails links live rest)

-- what these sends put into a link
abbrev pub mail_to : List (Name × Frame) → Link → List (List ℕ)
mail_to sends link = mail_for sends link.peer

-- Each link takes the frames of these sends that go to its name.
abbrev pub Posts : List (Name × Frame) → List Link → List Link → List Name → Type 0
Posts sends links live full = Puts (map (mail_to sends) links) links live full

-- the names, with this one last unless it is there already
abbrev pub with_name : List Name → Name → List Name
with_name names name = if has_name names name then names else names ++ name ∷ []

-- the names, with the receiver of this packet unless it has an open link
abbrev pub with_receiver : List Link → List Name → (Name × Frame) → List Name
with_receiver links names send = if is_linked links send.0 then names else with_name names send.0

-- the receivers of these packets that have no open link, each once
abbrev pub unlinked : List Link → List (Name × Frame) → List Name
unlinked links sends = fold (with_receiver links) [] sends

-- The step is made and recorded, and its frames are put into the rings of the open links.
pub record Applies {C : Type 0} (state : C → CoreState) (steps : C → Stimulus Frame → List (Name × Frame) → List Delivery → C → Type 0)
    (old : Cell C) (stimulus : Stimulus Frame) (new : Cell C) (id : Option MsgId) (place : ℕ) (full lacking : List Name) : Type 0 where
  pub out : Output Frame
  pub stepped : steps old.core stimulus out.sends out.deliveries new.core
  pub its_id : id ≡ broadcast_id (state old.core) stimulus
  pub its_place : place ≡ steps_made old
  pub recorded : new.trace ≡ record old.trace { steps = old.trace.steps ++ record { stimulus = stimulus; out = out } ∷ [] }
  pub delivers : new.pending ≡ old.pending ++ out.deliveries
  pub posts : Posts out.sends old.links new.links full
  pub lacks : lacking ≡ unlinked old.links out.sends
  pub its_limit : new.limit ≡ old.limit
  pub its_since : new.since ≡ old.since
  pub handed_out : new.handed_out ≡ old.handed_out
  pub is_open : new.is_shut ≡ false
