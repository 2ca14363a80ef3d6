-- A row of the load of a group (docs/settling.md), computed: it is 17 in the line a, b, c once b has delivered the second
-- message of a and has its announcement queued for c. It is 9 for the link of c and the message that it lacks, and 8 for
-- the queued announcement.
use Rattle.std.specs.Prelude.{◌≡◌, ◌+◌, ◌*◌, ℕ, Bool, true, false, not, List, [], ◌∷◌, Some, None, count_by}
use Rattle.std.specs.FinSet as set
use Rattle.node_names.specs.Limits.{Limits}
use Rattle.node_names.specs.NodeName.{Name}
use Rattle.node_names.specs.Order.{id_cmp}
use Rattle.node_names.specs.declared.ids.Incarnation.{Incarnation}
use Rattle.node_names.specs.declared.ids.MsgId.{MsgId}
use Rattle.node_names.specs.declared.ids.Origin.{Origin}
use Rattle.world.specs.Group.{Group}
use Rattle.world.specs.declared.node_state.NodeState.{NodeState}
use Rattle.frames.specs.Frame.{Frame}
use Rattle.membership.specs.Membership.{Membership}
use Rattle.node_core.specs.Plum.{Plum}
use Rattle.at_rest.specs.Load.{load}

abbrev pub a : Name
a = 97 ∷ []

abbrev pub b : Name
b = 98 ∷ []

abbrev pub c : Name
c = 99 ∷ []

abbrev pub run : Name → Origin
run name = record { name = name; incarnation = record { 0 = 1 } }

abbrev pub message : ℕ → MsgId
message seq = record { origin = run a; seq = seq }

abbrev pub limits : Limits
limits = record { active = 5; passive = 30; arwl = 6; prwl = 3; ka = 3; kp = 4; threshold = 0; keep = 0 }

abbrev pub core : Name → List Name → List (Name × MsgId × ℕ) → set.FinSet id_cmp → Plum
core name active queued known = record {
  me = run name;
  membership = record { views = record { owner = name; limits = limits; active = active; passive = [] }; asked = None; shuffled = [] };
  gossip = record {
    me = run name;
    threshold = 0;
    keep = 0;
    spent = 0;
    peers = record { members = []; queued = queued };
    missing = record { wants = []; timers = [] };
    known = known;
    held = [];
  };
  framed = 0;
}

abbrev pub node : Name → Plum → NodeState Plum
node name plum = record { name = name; highest = record { 0 = 1 }; core = Some plum }

-- The line a, b, c, after b has delivered the second message of a, with its announcement queued for c.
abbrev pub group : set.FinSet id_cmp → set.FinSet id_cmp → set.FinSet id_cmp → Group Plum Frame
group ka kb kc = record {
  nodes = node a (core a (b ∷ []) [] ka) ∷ node b (core b (a ∷ c ∷ []) ((c, message 2, 1) ∷ []) kb) ∷ node c (core c (b ∷ []) [] kc) ∷ [];
  sent = [];
  flight = [];
}

abbrev pub lacked : Bool → Bool → ℕ
lacked one two = count_by (λ (has : Bool). not has) (one ∷ two ∷ [])

-- the load of that group, where each node knows what it delivered
pub load_row : (ka kb kc : set.FinSet id_cmp) →
    set.contains ka (message 1) ≡ true → set.contains ka (message 2) ≡ true →
    set.contains kb (message 1) ≡ true → set.contains kb (message 2) ≡ true →
    set.contains kc (message 1) ≡ true → set.contains kc (message 2) ≡ false →
    load (message 1 ∷ message 2 ∷ []) (group ka kb kc) ≡ 17
load_row ka kb kc a1 a2 b1 b2 c1 c2 =
    λ i. (((0 + (9 * (1 * lacked (a1 i) (a2 i)) + 0)) + (9 * (2 * lacked (b1 i) (b2 i)) + 8)) + (9 * (1 * lacked (c1 i) (c2 i)) + 0)) + 0
