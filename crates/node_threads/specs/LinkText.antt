-- What a link carries: the frames that a node sent to one name since the link was opened.
use Rattle.std.specs.Prelude.{ℕ, ◌==◌, ◌-◌, List, [], ◌++◌, drop, filter, length, map, if◌then◌else◌}
use Rattle.std.specs.List.{flat_map}
use Rattle.std.specs.Int.{w32, to_be_bytes}
use Rattle.node_names.specs.NodeName.{Name}
use Rattle.node_names.specs.Same.{same_name}
use Rattle.protocol.specs.Trace.{Step, Trace}
use Rattle.frames.specs.Frame.{Frame}
use Rattle.frames.specs.Grammar.{layout, spelled}

-- the bytes of a frame
abbrev pub spelling : Frame → List ℕ
spelling frame = to_be_bytes w32 (length (spelled (layout frame))) ++ spelled (layout frame)

-- the frames that go to this name, in order
abbrev pub sent_to : Name → List (Name × Frame) → List Frame
sent_to peer sends = map (λ send. send.1) (filter (λ send. same_name send.0 peer) sends)

-- the frames that these steps sent to this name, in order
abbrev pub text_of : Name → List (Step Frame) → List Frame
text_of peer steps = flat_map (λ step. sent_to peer step.out.sends) steps

-- The frames that a link to this name carries if it was opened when the trace had `opened` steps: first those of the
-- opening if there was no step yet, and then those of the steps since.
abbrev pub link_text : Trace Frame → Name → ℕ → List Frame
link_text trace peer opened = (if opened == 0 then sent_to peer trace.opening.sends else []) ++ text_of peer (drop opened trace.steps)

-- The same, where the trace lacks the first `since` steps, which were made before the link was opened.
abbrev pub text_since : ℕ → Trace Frame → Name → ℕ → List Frame
text_since since trace peer opened = (if opened == 0 then sent_to peer trace.opening.sends else []) ++ text_of peer (drop (opened - since) trace.steps)
