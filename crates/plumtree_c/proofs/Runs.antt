-- A run goes on by one step more.
use Rattle.std.proofs.Common.{◌≡◌, ◌<◌, arith, ◌+◌, ℕ, List, [], ◌∷◌, ◌++◌, length, map, take, refl, ap, subst, sym, ◌∙◌}
use Rattle.std.specs.Prelude.{get_or}
use Rattle.std.proofs.lemmas.List.{map-append, take_all, take_more}
use Rattle.node_names.specs.declared.ids.MsgId.{MsgId}
use Rattle.protocol.specs.declared.stimulus.StimulusOf.TheVariants.{Fire}
use Rattle.protocol.specs.Stimulus.{Stimulus}
use Rattle.frames.specs.Frame.{Frame}
use Rattle.plumtree_c.specs.State.{NodeState, Steps, Runs}

pub runs_on : (old : NodeState) (stimuli : List (Stimulus Frame)) (mid : NodeState) (stimulus : Stimulus Frame) (new : NodeState)
    → Runs old stimuli mid → Steps mid stimulus new → Runs old (stimuli ++ stimulus ∷ []) new
runs_on old [] mid stimulus new run step = (new, subst (λ n. Steps n stimulus new) (sym run) step, refl)
runs_on old (first ∷ stimuli) mid stimulus new run step = (run.0, run.1, runs_on run.0 stimuli mid stimulus new run.2 step)

abbrev fire : MsgId → Stimulus Frame
fire id = Fire id

-- One more of these timers fires.
pub fires_on : (old : NodeState) (ids : List MsgId) (i : ℕ) (id : MsgId) (mid new : NodeState)
    → i < length ids → id ≡ get_or ids i id → Runs old (map Fire (take i ids)) mid → Steps mid (Fire id) new
    → Runs old (map Fire (take (i + 1) ids)) new
fires_on old ids i id mid new within at run step =
    subst (λ stimuli. Runs old stimuli new)
    (sym
    (ap (λ (some : List MsgId). map fire some) (take_more ids i id within ∙ ap (λ x. take i ids ++ x ∷ []) (sym at)) ∙ map-append fire (take i ids) (id ∷ [])))
    (runs_on old (map fire (take i ids)) mid (fire id) new run step)

-- No step counts a tick.
pub runs_ticks : (old : NodeState) (stimuli : List (Stimulus Frame)) (new : NodeState) → Runs old stimuli new → new.ticks ≡ old.ticks
runs_ticks old [] new run = ap (λ (n : NodeState). n.ticks) (sym run)
runs_ticks old (stimulus ∷ stimuli) new run = runs_ticks run.0 stimuli new run.2 ∙ run.1.ticks

-- The first of the timers fired, if all did.
pub all_fired : (old : NodeState) (ids : List MsgId) (new : NodeState) → Runs old (map Fire ids) new → Runs old (map Fire (take (length ids) ids)) new
all_fired old ids new run = subst (λ (some : List MsgId). Runs old (map fire some) new) (sym (take_all (length ids) ids (omega arith))) run
