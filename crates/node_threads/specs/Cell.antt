-- A running node, as its lock keeps it.
use Rattle.std.specs.Prelude.{◌≡◌, ◌≤◌, ◌+◌, ℕ, Bool, List, Option, Some, None, ◌++◌, drop, length, map}
use Rattle.std.specs.List.{AllByRecursion as Each, IsDistinct, list_any}
use Rattle.node_names.specs.NodeName.{Name}
use Rattle.node_names.specs.Limits.{Limits}
use Rattle.node_names.specs.Same.{same_name}
use Rattle.node_names.specs.declared.ids.Origin.{Origin}
use Rattle.protocol.specs.Delivery.{Delivery}
use Rattle.protocol.specs.Replay.{Replays}
use Rattle.protocol.specs.Stimulus.{Stimulus}
use Rattle.protocol.specs.Trace.{Step, Trace, delivered}
use Rattle.frames.specs.Frame.{Frame}
use Rattle.node_threads.specs.LinkText.{link_text, spelling}

-- An open link: the name that it goes to, how many steps the node had made when it was opened, and the frames that were
-- put into its ring, each as its bytes.
pub record Link : Type 0 where
  pub peer : Name
  pub opened : ℕ
  pub pushed : List (List ℕ)

-- The core; how many of its steps the node has forgotten, if it may forget; its history with the steps after those, and
-- the most steps that this may have; the open links; the deliveries that were not handed out yet, and how many were; and whether the node was shut.
pub record Cell (C : Type 0) : Type 0 where
  pub core : C
  pub since : Option ℕ
  pub trace : Trace Frame
  pub limit : ℕ
  pub links : List Link
  pub pending : List Delivery
  pub handed_out : ℕ
  pub is_shut : Bool

-- Since the link was opened, the ring got the link's text, each frame as its bytes.
pub record FollowsText (trace : Trace Frame) (link : Link) : Type 0 where
  pub opened_before : link.opened ≤ length trace.steps
  pub pushed_text : link.pushed ≡ map spelling (link_text trace link.peer link.opened)

-- the history with these steps in front of its own
abbrev pub after : List (Step Frame) → Trace Frame → Trace Frame
after before trace = record trace { steps = before ++ trace.steps }

-- how many steps a node has forgotten, if it may forget
abbrev pub lost : Option ℕ → ℕ
lost None = 0
lost (Some since) = since

-- how many steps the node has made, forgotten ones included
abbrev pub steps_made : {C : Type 0} → Cell C → ℕ
steps_made cell = lost cell.since + length cell.trace.steps

-- The place is that of a step that the node has not forgotten, or the next one.
abbrev pub IsPlace : {C : Type 0} → Cell C → ℕ → Type 0
IsPlace cell place = (lost cell.since ≤ place) × (place ≤ steps_made cell)

-- whether one of these links goes to the name
abbrev pub is_linked : List Link → Name → Bool
is_linked links name = list_any (λ link. same_name name link.peer) links

-- the names of links
abbrev pub peers_of : List Link → List Name
peers_of links = map (λ link. link.peer) links

-- These are the names of the links, in their order.
abbrev pub IsListed : List Link → List Name → Type 0
IsListed links names = names ≡ peers_of links

-- What always holds of what a lock keeps, for some steps that were forgotten: with these in front of it the trace
-- replays, and the core is the state at its end; the deliveries that were not handed out are those that the trace then
-- delivered after the ones that were; and there is at most one link to a name, which follows its text.
pub record IsKeptAfter
    {C : Type 0}
    (starts : Origin → Limits → List Name → Option Name → List (Name × Frame) → C → Type 0)
    (steps : C → Stimulus Frame → List (Name × Frame) → List Delivery → C → Type 0)
    (before : List (Step Frame))
    (cell : Cell C)
    : Type 0 where
  pub limits : Limits
  pub replays : Replays starts steps limits (after before cell.trace) cell.core
  pub handed : cell.handed_out ≤ length (delivered (before ++ cell.trace.steps))
  pub waiting : cell.pending ≡ drop cell.handed_out (delivered (before ++ cell.trace.steps))
  pub distinct : IsDistinct same_name (peers_of cell.links)
  pub texts : Each (FollowsText (after before cell.trace)) cell.links

-- What always holds of what a lock keeps: it is as above for as many steps as were forgotten.
pub record IsKept
    {C : Type 0}
    (starts : Origin → Limits → List Name → Option Name → List (Name × Frame) → C → Type 0)
    (steps : C → Stimulus Frame → List (Name × Frame) → List Delivery → C → Type 0)
    (cell : Cell C)
    : Type 0 where
  pub before : List (Step Frame)
  pub forgotten : length before ≡ lost cell.since
  pub kept : IsKeptAfter starts steps before cell
