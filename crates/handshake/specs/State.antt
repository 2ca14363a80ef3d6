-- Where the bytes of a connection stand that a node reads.
use Rattle.std.specs.Prelude.{ℕ, Bool, List}
use Rattle.handshake.specs.declared.place.Place.{Place}

-- whether the hello came, where in a frame the frames stand, and the bytes so far of a record that is no frame
pub record State : Type 0 where
  pub is_open : Bool
  pub place : Place
  pub kept : List ℕ
