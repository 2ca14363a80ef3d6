-- What a node of bytes for C is, and what its calls do to it.
use Rattle.std.specs.Prelude.{◌≡◌, ◌⊎◌, ◌<◌, ◌+◌, ◌%◌, ◌^◌, ◌++◌, ℕ, Bool, List, [], ◌∷◌, Option, None, drop, length, map, if◌then◌else◌}
use Rattle.std.specs.Borrow.{Bor}
use Rattle.std.specs.Ptr.{as_ptr}
use Rattle.bytes.specs.Unread.{concat_slices}
use Rattle.node_names.specs.NodeName.{Name}
use Rattle.node_names.specs.Limits.{Limits}
use Rattle.node_names.specs.Same.{same_name}
use Rattle.node_names.specs.declared.dice.Dice.{Dice}
use Rattle.node_names.specs.declared.ids.MsgId.{MsgId}
use Rattle.node_names.specs.declared.ids.Origin.{Origin}
use Rattle.protocol.specs.Delivery.{Delivery}
use Rattle.protocol.specs.declared.stimulus.StimulusOf.TheVariants.{Join}
use Rattle.wire_node.specs.Moving.{Broadcasts, GoesAway, Moves}
use Rattle.wire_node.specs.Node.{Closes, Hears, NodeState, Starts}
use Rattle.wire_node.specs.Receiving.{Draws, IsPartial}
use Rattle.wire_node.specs.Ticking.{IsCutShort, LeavesAsking}
use Rattle.wire_node.specs.Waiting.{settled_for}
use Rattle.node_core.specs.declared.news.News.{News}
use Rattle.node_core.specs.Plum.{plum_state}
use Rattle.plumtree_c.specs.Plain.{Says}
use Rattle.plumtree_c.specs.State.{Gives}
use Rattle.plumtree_c.specs.Stirring.{stirred}
use Rattle.plumtree_c.specs.declared.piece.Piece.{Piece}
use Rattle.plumtree_c.specs.declared.plain.PlainNews.{PlainNews}
use Rattle.plumtree_c.specs.declared.plain.WireCounts.{WireCounts}

-- The node, and the deliveries, lost names and news that were taken from it and that the caller has not got yet.
pub record WireState : Type 0 where
  pub node : NodeState
  pub deliveries : List Delivery
  pub lost : List Name
  pub news : List News

-- the deliveries that wait for the caller, in order
abbrev pub deliveries_in : WireState → List Delivery
deliveries_in wire = wire.deliveries ++ wire.node.engine.machine.pending

-- the lost names that wait for the caller, in order
abbrev pub lost_in : WireState → List Name
lost_in wire = wire.lost ++ wire.node.engine.lost

-- the news that wait for the caller, in order
abbrev pub news_in : WireState → List News
news_in wire = wire.news ++ wire.node.engine.machine.news

-- the bytes that wait for the name
abbrev pub bytes_for : WireState → Name → List ℕ
bytes_for wire name = settled_for wire.node.engine.machine.waiting name

-- The node started, this many bytes may wait for a name, and the caller has all that it gives still to get.
pub record WireStarts (me : Origin) (limits : Limits) (waiting : ℕ) (peers : List Name) (contact : Option Name) (wire : WireState) : Type 0 where
  pub starts : Starts me limits waiting peers contact None wire.node
  pub deliveries : wire.deliveries ≡ []
  pub lost : wire.lost ≡ []
  pub news : wire.news ≡ []

-- The node did this, and nothing that waited for the caller was lost.
pub record Does (P : NodeState → NodeState → Type 0) (old new : WireState) : Type 0 where
  pub done : P old.node new.node
  pub deliveries : new.deliveries ≡ old.deliveries
  pub lost : new.lost ≡ old.lost
  pub news : new.news ≡ old.news

-- The node broadcast this payload, and this is the message's number.
pub record Sends (payload : List ℕ) (number : ℕ) (old new : NodeState) : Type 0 where
  pub id : MsgId
  pub broadcasts : Broadcasts old.engine payload id new.engine
  pub its_number : number ≡ id.seq
  pub rest : new ≡ record old { engine = new.engine }

-- The node has one more connection, of this number, over which nothing came. The number is the one after that of the
-- last connection before.
pub record Accepts (number : ℕ) (old new : NodeState) : Type 0 where
  pub next : number ≡ old.numbered + 1
  pub rest : new ≡ record old { connections = old.connections ++ record { number = number; left = []; peer = None } ∷ []; numbered = number }

-- All the bytes that came over the connection were taken: whole frames by steps, the first with these dice, and what is
-- no whole frame is kept.
pub record HearsAll (number : ℕ) (bytes : List ℕ) (dice : Dice) (old new : NodeState) : Type 0 where
  pub left : Draws
  pub hears : Hears old number bytes (stirred dice) (length bytes) new left
  pub partial : IsPartial hears.link'.left

-- The first of the bytes were taken, and then the connection ended, if that was not refused.
pub record HearsSome (number : ℕ) (bytes : List ℕ) (dice : Dice) (old new : NodeState) : Type 0 where
  pub taken : ℕ
  pub heard : NodeState
  pub left : Draws
  pub hears : Hears old number bytes (stirred dice) taken heard left
  pub ends : (new ≡ heard) ⊎ Closes heard number dice new

-- The name went down.
pub record Leaves (name : Name) (dice : Dice) (old new : NodeState) : Type 0 where
  pub away : GoesAway old.engine name dice new.engine
  pub rest : new ≡ record old { engine = new.engine }

-- The node was told to join by the contact. With these dice names went down for whom too much then waited.
pub record Joins (contact : Name) (dice : Dice) (old new : NodeState) : Type 0 where
  pub moves : Moves old.engine (Join contact) dice new.engine
  pub rest : new ≡ record old { engine = new.engine }

-- The first `count` of the bytes that waited for the name went out, or all, if they were fewer. No others did.
pub record Went (name : Name) (count : ℕ) (old new : NodeState) : Type 0 where
  pub gone : (other : Name) →
      settled_for new.engine.machine.waiting other
      ≡ (if same_name other name then drop count (settled_for old.engine.machine.waiting other) else settled_for old.engine.machine.waiting other)
  pub rest : new ≡ record old { engine = record old.engine { machine = record old.engine.machine { waiting = new.engine.machine.waiting } } }

-- Of a tick that was refused some steps were made, and nothing that is to be asked for is forgotten. It was not counted.
pub record TicksInPart (dice : Dice) (old new : NodeState) : Type 0 where
  pub made : IsCutShort old.engine dice new.engine
  pub left : LeavesAsking old.engine old.asking ((old.ticks + 1) % 2 ^ 64) dice new.engine new.asking
  pub rest : new ≡ record old { engine = new.engine; asking = new.asking }

-- The pieces begin where these texts do and are as long. The texts are the first of the bytes that wait for the name,
-- and are some where any wait.
pub record Offers (name : Name) (pieces : List Piece) (wire : WireState) : Type 0 where
  pub texts : List (Bor (List ℕ))
  pub rest : List ℕ
  pub first : concat_slices texts ++ rest ≡ bytes_for wire name
  pub some : 0 < length (bytes_for wire name) → 0 < length (concat_slices texts)
  pub places : map (λ (piece : Piece). piece.at) pieces ≡ map (λ (text : Bor (List ℕ)). as_ptr text) texts
  pub lengths : map (λ (piece : Piece). piece.length) pieces ≡ map (λ (text : Bor (List ℕ)). length text.now) texts

-- Of the node, only what waits for the caller may have changed.
abbrev pub IsSameBeside : NodeState → NodeState → Type 0
IsSameBeside old new = new ≡ record old {
  engine = record old.engine {
    machine = record old.engine.machine { pending = new.engine.machine.pending; news = new.engine.machine.news };
    lost = new.engine.lost;
  };
}

-- Nothing that the caller can see has changed.
pub record Stays (old new : WireState) : Type 0 where
  pub deliveries : deliveries_in new ≡ deliveries_in old
  pub lost : lost_in new ≡ lost_in old
  pub news : news_in new ≡ news_in old
  pub beside : IsSameBeside old.node new.node

-- The first delivery that waited was taken: the message's id and payload. Nothing else has changed.
pub record Delivers (id : MsgId) (payload : List ℕ) (old new : WireState) : Type 0 where
  pub gives : Gives (deliveries_in old) id payload (deliveries_in new)
  pub lost : lost_in new ≡ lost_in old
  pub news : news_in new ≡ news_in old
  pub beside : IsSameBeside old.node new.node

-- No delivery waited. Nothing that the caller can see has changed.
pub record HasNoDelivery (old new : WireState) : Type 0 where
  pub none : deliveries_in old ≡ []
  pub stays : Stays old new

-- The first of these names was taken.
pub record Tells (old : List Name) (name : Name) (new : List Name) : Type 0 where
  pub its_name : Name
  pub first : old ≡ its_name ∷ new
  pub same : its_name ≡ name

-- The first lost name that waited was taken. Nothing else has changed.
pub record Loses (name : Name) (old new : WireState) : Type 0 where
  pub tells : Tells (lost_in old) name (lost_in new)
  pub deliveries : deliveries_in new ≡ deliveries_in old
  pub news : news_in new ≡ news_in old
  pub beside : IsSameBeside old.node new.node

-- No lost name waited. Nothing that the caller can see has changed.
pub record HasNoLost (old new : WireState) : Type 0 where
  pub none : lost_in old ≡ []
  pub stays : Stays old new

-- From now on the node tells news of its steps, or it does not.
abbrev pub TellsNews : Bool → NodeState → NodeState → Type 0
TellsNews tells old new = new ≡ record old { engine = record old.engine { machine = record old.engine.machine { tells = tells } } }

-- The first of these news were taken.
pub record Brings (old : List News) (plain : PlainNews) (new : List News) : Type 0 where
  pub its : News
  pub first : old ≡ its ∷ new
  pub says : Says plain its

-- The first news that waited were taken. Nothing else has changed.
pub record Informs (plain : PlainNews) (old new : WireState) : Type 0 where
  pub brings : Brings (news_in old) plain (news_in new)
  pub deliveries : deliveries_in new ≡ deliveries_in old
  pub lost : lost_in new ≡ lost_in old
  pub beside : IsSameBeside old.node new.node

-- No news waited. Nothing that the caller can see has changed.
pub record HasNoNews (old new : WireState) : Type 0 where
  pub none : news_in old ≡ []
  pub stays : Stays old new

-- These are how much the node has.
pub record AreWireCounts (counts : WireCounts) (wire : WireState) : Type 0 where
  pub held : counts.held ≡ length (plum_state wire.node.engine.machine.core).held
  pub missing : counts.missing ≡ length (plum_state wire.node.engine.machine.core).timers
  pub wants : counts.wants ≡ length (plum_state wire.node.engine.machine.core).wants
  pub queued : counts.queued ≡ length (plum_state wire.node.engine.machine.core).queued
  pub ticks : counts.ticks ≡ wire.node.ticks
