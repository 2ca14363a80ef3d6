-- What a node writes on a connection: its records, each between two frames or before the first.
use Rattle.std.specs.Prelude.{ℕ, ◌-◌, Bool, ◌||◌, List, ◌++◌, drop, length, take, ◌==◌, if◌then◌else◌}
use Rattle.handshake.specs.declared.place.Place.{Place}
use Rattle.handshake.specs.Place as place

-- whether there is a link, the bytes of records that wait, and where in a frame those stand that went out
pub record Outgoing : Type 0 where
  pub is_open : Bool
  pub records : List ℕ
  pub place : Place

-- how many bytes of records wait, where there is a link
abbrev pub waiting : Outgoing → ℕ
waiting out = if out.is_open then length out.records else 0

-- What is to go out where these bytes of frames wait: the rest of the frame under way, then the records, and then the other frames.
abbrev pub line : Outgoing → List ℕ → List ℕ
line out frames = take (place.cut out.place frames) frames ++ (out.records ++ drop (place.cut out.place frames) frames)

-- whether all of that may be lent at once: no records wait, or they are first
abbrev pub is_whole : Outgoing → Bool
is_whole out = length out.records == 0 || place.is_boundary out.place

-- what is lent of it: all, or the rest of the frame under way alone
abbrev pub lent : Outgoing → List ℕ → List ℕ
lent out frames = if is_whole out then line out frames else take (place.cut out.place frames) frames

-- how many of the first bytes that went out are of frames
abbrev pub of_frames : Outgoing → ℕ → ℕ
of_frames out count = if place.is_boundary out.place then count - length out.records else count

-- after so many bytes went out, where these bytes of frames waited
abbrev pub sent : Outgoing → List ℕ → ℕ → Outgoing
sent out frames count = record out {
  records = drop (count - of_frames out count) out.records;
  place = place.after out.place (take (of_frames out count) frames);
}
