-- What a node of bytes does with bytes that came over a connection.
use Rattle.std.specs.Prelude.{◌≡◌, ◌⊎◌, ℕ, suc, List, [], ◌∷◌, ◌++◌, Option, None, Some, Result, Ok, Err, drop, map}
use Rattle.node_names.specs.NodeName.{Name}
use Rattle.node_names.specs.declared.dice.Dice.{Dice}
use Rattle.frames.specs.Cutting.{Begins}
use Rattle.frames.specs.Frame.{Frame}
use Rattle.frames.specs.Reading.{read}
use Rattle.frames.specs.declared.fault.FrameFault.TheVariants.{Short}
use Rattle.wire_node.specs.Moving.{Engine, MovesAll, arrival}

-- A connection: its number, the bytes of a frame that is not whole yet, and the sender of its first frame.
pub record Connection : Type 0 where
  pub number : ℕ
  pub left : List ℕ
  pub peer : Option Name

-- The bytes end before their first frame does.
abbrev pub IsPartial : List ℕ → Type 0
IsPartial bytes = read bytes ≡ Err Short

-- A frame that came, and the dice that were drawn for it.
abbrev pub Taken : Type 0
Taken = Frame × Dice

-- the frames alone
abbrev pub frames_of : List Taken → List Frame
frames_of taken = map (λ (t : Taken). t.0) taken

-- the peer of a connection, once these frames came over it
abbrev pub peer_of : Option Name → List Taken → Option Name
peer_of None [] = None
peer_of None (taken ∷ more) = Some taken.0.sender.name
peer_of (Some peer) taken = Some peer

-- What a source of dice will give: the next dice, those after them, and so on.
abbrev pub Draws : Type 0
Draws = ℕ → Dice

-- what it will give once the next dice were drawn
abbrev pub after_one : Draws → Draws
after_one draws place = draws (suc place)

-- The dice of these frames are what the source gave next, in their order; the new draws are what it will give then.
abbrev pub AreDealt : List Taken → Draws → Draws → Type 0
AreDealt [] old new = old ≡ new
AreDealt (taken ∷ more) old new = (taken.1 ≡ old 0) × AreDealt more (after_one old) new

-- What the source will give once these dice were dealt, and for a frame that was refused one more may have been drawn.
abbrev pub IsLeft : {X E : Type 0} → Result X E → Draws → Draws → Type 0
IsLeft (Ok x) dealt now = now ≡ dealt
IsLeft (Err error) dealt now = (now ≡ dealt) ⊎ (now ≡ after_one dealt)

-- The frames that begin the bytes were taken, each by one step with the next dice of the source, in their order; the
-- rest is what is left.
pub record Takes (old : Engine) (peer : Option Name) (bytes : List ℕ) (draws : Draws)
    (new : Engine) (peer' : Option Name) (rest : List ℕ) (draws' : Draws) : Type 0 where
  pub taken : List Taken
  pub stream : Begins (frames_of taken) bytes rest
  pub moves : MovesAll old (map arrival taken) new
  pub its_peer : peer' ≡ peer_of peer taken
  pub dealt : AreDealt taken draws draws'

-- The whole frames of what was left and of the bytes were taken: what is left now, and behind it the bytes that were
-- not, is the stream after them. So many of the bytes were taken or kept.
pub record Receives (old : Engine) (link : Connection) (bytes : List ℕ) (draws : Draws) (count : ℕ)
    (new : Engine) (link' : Connection) (draws' : Draws) : Type 0 where
  pub takes : Takes old link.peer (link.left ++ bytes) draws new link'.peer (link'.left ++ drop count bytes) draws'
  pub its_number : link'.number ≡ link.number
