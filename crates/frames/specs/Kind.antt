-- The kinds of frames, their versions and their numbers.
use Rattle.std.specs.Prelude.{ℕ, Option, Some, None, ◌==◌, if◌then◌else◌}
use Rattle.frames.specs.declared.body.BodyOf.{BodyOf}
use Rattle.frames.specs.declared.body.BodyOf.TheVariants as body
use Rattle.frames.specs.declared.body.Kind.{Kind}
use Rattle.frames.specs.declared.body.Kind.TheVariants.{Join, ForwardJoin, Neighbor, NeighborReply, Disconnect}
use Rattle.frames.specs.declared.body.Kind.TheVariants.{Shuffle, ShuffleReply, Gossip, IHave, Graft, Prune, GraftPeer}

-- the version of the frames of a kind
abbrev pub version_of : Kind → ℕ
version_of Join = 1
version_of ForwardJoin = 1
version_of Neighbor = 1
version_of NeighborReply = 1
version_of Disconnect = 1
version_of Shuffle = 1
version_of ShuffleReply = 1
version_of Gossip = 1
version_of IHave = 1
version_of Graft = 1
version_of Prune = 1
version_of GraftPeer = 2

-- the number of a kind
abbrev pub number_of : Kind → ℕ
number_of Join = 1
number_of ForwardJoin = 2
number_of Neighbor = 3
number_of NeighborReply = 4
number_of Disconnect = 5
number_of Shuffle = 6
number_of ShuffleReply = 7
number_of Gossip = 8
number_of IHave = 9
number_of Graft = 10
number_of Prune = 11
number_of GraftPeer = 12

-- the kind with this number, if any
abbrev pub kind_numbered : ℕ → Option Kind
kind_numbered n =
    if n == 1 then Some Join else
    if n == 2 then Some ForwardJoin else
    if n == 3 then Some Neighbor else
    if n == 4 then Some NeighborReply else
    if n == 5 then Some Disconnect else
    if n == 6 then Some Shuffle else
    if n == 7 then Some ShuffleReply else
    if n == 8 then Some Gossip else
    if n == 9 then Some IHave else
    if n == 10 then Some Graft else
    if n == 11 then Some Prune else
    if n == 12 then Some GraftPeer else
    None

-- the kind, if its frames have this version
abbrev pub of_version : ℕ → Option Kind → Option Kind
of_version version None = None
of_version version (Some kind) = if version_of kind == version then Some kind else None

-- the kind of a body
abbrev pub kind_of : {P L E : Type 0} → BodyOf P L E → Kind
kind_of body.Join = Join
kind_of (body.ForwardJoin new ttl) = ForwardJoin
kind_of (body.Neighbor high) = Neighbor
kind_of (body.NeighborReply accepted) = NeighborReply
kind_of body.Disconnect = Disconnect
kind_of (body.Shuffle origin ttl names) = Shuffle
kind_of (body.ShuffleReply names) = ShuffleReply
kind_of (body.Gossip id round payload) = Gossip
kind_of (body.IHave entries) = IHave
kind_of (body.Graft id round) = Graft
kind_of body.Prune = Prune
kind_of body.GraftPeer = GraftPeer
