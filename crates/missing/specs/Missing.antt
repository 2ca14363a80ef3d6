-- What a node knows of the messages that it lacks.
use Rattle.std.specs.Prelude.{◌≡◌, ℕ, true, List, map, is_some, if◌then◌else◌}
use Rattle.std.specs.List.{AllByRecursion as Each, IsDistinct}
use Rattle.node_names.specs.NodeName.{Name}
use Rattle.node_names.specs.Same.{same_id, has_id}
use Rattle.node_names.specs.declared.ids.MsgId.{MsgId}
use Rattle.missing.specs.Timers.{with_timer, with_timers, without_timer}
use Rattle.missing.specs.Wants.{place_of, same_place, first_want, with_want, with_wants, without_first, without_id, without_peer, without_peers}

-- The announcements, oldest first, and the ids whose timers are armed, in order of arming.
pub record Missing : Type 0 where
  pub wants : List (MsgId × Name × ℕ)
  pub timers : List MsgId

-- What always holds: there is at most one announcement for each id and peer, the id of each announcement is armed, and
-- no id is armed twice.
pub record IsSound (missing : Missing) : Type 0 where
  pub once : IsDistinct same_place (map place_of missing.wants)
  pub armed : Each (λ entry. has_id missing.timers entry.0 ≡ true) missing.wants
  pub distinct : IsDistinct same_id missing.timers

-- after the peer announced the id at the round
abbrev pub announced : Name → MsgId → ℕ → Missing → Missing
announced peer id round missing = record { wants = with_want id peer round missing.wants; timers = with_timer id missing.timers }

-- after the peer announced these, in turn
abbrev pub announced_all : Name → List (MsgId × ℕ) → Missing → Missing
announced_all peer entries missing = record { wants = with_wants peer entries missing.wants; timers = with_timers entries missing.timers }

-- after the first announcement of the id was removed, or its timer if there is no announcement of it
abbrev pub taken_first : MsgId → Missing → Missing
taken_first id missing =
    record {
      wants = without_first id missing.wants;
      timers = if is_some (first_want id missing.wants) then missing.timers else without_timer id missing.timers;
    }

-- after the message arrived: its announcements and its timer are gone
abbrev pub got : MsgId → Missing → Missing
got id missing = record { wants = without_id id missing.wants; timers = without_timer id missing.timers }

-- after the peer went down: its announcements are gone, and the timers stay
abbrev pub without : Name → Missing → Missing
without peer missing = record missing { wants = without_peer peer missing.wants }

-- after these peers went down: their announcements are gone, and the timers stay
abbrev pub without_all : List Name → Missing → Missing
without_all peers missing = record missing { wants = without_peers peers missing.wants }
