-- What every run keeps: nothing is delivered that was not said, and nothing twice.
use Rattle.std.specs.Prelude.{◌≡◌, List, [], ◌∷◌, ℕ}
use Rattle.std.specs.List.{AllByRecursion as Each}
use Rattle.node_names.specs.declared.ids.MsgId.{MsgId}
use Rattle.protocol.specs.Delivery.{Delivery}
use Rattle.world.specs.Entry.{Entry}
use Rattle.world.specs.History.{Said, HasDelivery, deliveries}

-- Each delivery's id was said by the history up to and including its event, with some payload.
abbrev pub SaidByThen : List Entry → Type 0
SaidByThen [] = Unit {0}
SaidByThen (entry ∷ past) = Each (λ d. (p : List ℕ) × Said (entry ∷ past) d.id p) entry.given × SaidByThen past

-- Each delivery's id and payload were said by the history up to and including its event.
abbrev pub Honest : List Entry → Type 0
Honest [] = Unit {0}
Honest (entry ∷ past) = Each (λ d. Said (entry ∷ past) d.id d.payload) entry.given × Honest past

-- No delivery in the list has the node and the id of one behind it.
abbrev pub AreOnce : List Delivery → Type 0
AreOnce [] = Unit {0}
AreOnce (d ∷ given) = (HasDelivery given d.node d.id → ⊥) × AreOnce given

-- No run of a node delivers a message twice.
abbrev pub Once : List Entry → Type 0
Once history = AreOnce (deliveries history)

-- No message is said with two payloads, so all who deliver it agree on what it is.
abbrev pub HasOnePayload : List Entry → Type 0
HasOnePayload history = (id : MsgId) (p q : List ℕ) → Said history id p → Said history id q → p ≡ q
