-- A node's membership, and what it sends and reports during an event.
use Rattle.std.specs.Prelude.{◌≡◌, List, [], ◌++◌, Option}
use Rattle.node_names.specs.NodeName.{Name}
use Rattle.frames.specs.Body.{Body}
use Rattle.views.specs.Views.{Views}

-- A node's membership: its two views, the name that it has asked to become its neighbour and that has not answered, and
-- the passive names that it sent with its last shuffle.
pub record Membership : Type 0 where
  pub views : Views
  pub asked : Option Name
  pub shuffled : List Name

-- The messages to send, each with its receiver and in order, and the names that the active view has lost and gained.
pub record Moves : Type 0 where
  pub sends : List (Name × Body)
  pub downs : List Name
  pub ups : List Name

-- A node during an event: its membership so far, and what it has sent and reported since the event came.
pub record Turn : Type 0 where
  pub views : Views
  pub asked : Option Name
  pub shuffled : List Name
  pub sends : List (Name × Body)
  pub downs : List Name
  pub ups : List Name

-- the turn in which nothing is done yet
abbrev pub still : Membership → Turn
still m = record { views = m.views; asked = m.asked; shuffled = m.shuffled; sends = []; downs = []; ups = [] }

-- the node's membership at the end of the turn
abbrev pub ended : Turn → Membership
ended turn = record { views = turn.views; asked = turn.asked; shuffled = turn.shuffled }

-- what the turn sent and reported
abbrev pub moves_of : Turn → Moves
moves_of turn = record { sends = turn.sends; downs = turn.downs; ups = turn.ups }

-- How an event ends: the node's membership is that of the turn, and what the turn sent and reported is appended.
pub record Ends (turn : Turn) (moved : Moves) (new : Membership) (moves : Moves) : Type 0 where
  pub node : new ≡ record { views = turn.views; asked = turn.asked; shuffled = turn.shuffled }
  pub sends : moves.sends ≡ moved.sends ++ turn.sends
  pub downs : moves.downs ≡ moved.downs ++ turn.downs
  pub ups : moves.ups ≡ moved.ups ++ turn.ups
