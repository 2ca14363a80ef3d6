-- Steps that are noted lead on from the core before them.
use Rattle.std.proofs.Common.{◌≡◌, ◌∙◌, ℕ, List, [], ◌∷◌, ◌++◌, Option, None, Some, ap, append_assoc, refl, subst, sym}
use Rattle.std.proofs.lemmas.List.{append-nil}
use Rattle.node_names.specs.NodeName.{Name}
use Rattle.node_names.specs.declared.dice.Dice.{Dice}
use Rattle.protocol.specs.Stimulus.{Stimulus}
use Rattle.protocol.specs.Trace.{Step}
use Rattle.frames.specs.Frame.{Frame}
use Rattle.node_core.specs.Plum.{Plum}
use Rattle.wire_node.specs.Acting.{Acts, GoDown, GoesDown, LeadsOn, Machine}
use Rattle.wire_node.specs.Moving.{Engine, GoesAway, Move, Moves, MovesAll}
use Rattle.wire_node.specs.Recording.{Leads, Noted, with_steps}

with_none : (n : Option Noted) → n ≡ with_steps n []
with_none None = refl
with_none (Some n) = ap (λ (steps : List (Step Frame)). Some (record { opening = n.opening; first = n.first; steps = steps })) (sym (append-nil n.steps))

with_both : (n : Option Noted) (ss ts : List (Step Frame)) → with_steps (with_steps n ss) ts ≡ with_steps n (ss ++ ts)
with_both None ss ts = refl
with_both (Some n) ss ts =
    ap (λ (steps : List (Step Frame)). Some (record { opening = n.opening; first = n.first; steps = steps })) (append_assoc n.steps ss ts)

leads_both : (old : Plum) (ss ts : List (Step Frame)) (mid new : Plum) → Leads old ss mid → Leads mid ts new → Leads old (ss ++ ts) new
leads_both old [] ts mid new a b = subst (λ (c : Plum). Leads c ts new) (sym a) b
leads_both old (s ∷ ss) ts mid new a b = (a.0, a.1, leads_both a.0 ss ts mid new a.2 b)

on_none : (m : Machine) → LeadsOn m m
on_none m = record { steps = []; leads = refl; notes = with_none m.noted }

on_then : (old mid new : Machine) → LeadsOn old mid → LeadsOn mid new → LeadsOn old new
on_then old mid new a b = record {
  steps = a.steps ++ b.steps;
  leads = leads_both old.core a.steps b.steps mid.core new.core a.leads b.leads;
  notes = b.notes ∙ ap (λ (n : Option Noted). with_steps n b.steps) a.notes ∙ with_both old.noted a.steps b.steps;
}

on_acts : (old : Machine) (s : Stimulus Frame) (new : Machine) → Acts old s new → LeadsOn old new
on_acts old s new a = record { steps = record { stimulus = s; out = a.out } ∷ []; leads = (new.core, a.stepped, refl); notes = a.notes }

on_down : (old : Machine) (name : Name) (dice : Dice) (new : Machine) → GoesDown old name dice new → LeadsOn old new
on_down old name dice new g = let a = on_acts old _ g.told g.acts in record {
  steps = a.steps;
  leads = subst (λ (c : Plum). Leads old.core a.steps c) (sym (ap (λ (m : Machine). m.core) g.dropped)) a.leads;
  notes = ap (λ (m : Machine). m.noted) g.dropped ∙ a.notes;
}

on_downs : (limit : ℕ) (old : Machine) (names : List Name) (dice : Dice) (new : Machine) → GoDown limit old names dice new → LeadsOn old new
on_downs limit old [] dice new g = subst (λ (m : Machine). LeadsOn old m) g (on_none old)
on_downs limit old (name ∷ names) dice new g = on_then old g.0 new (on_down old name dice g.0 g.2) (on_downs limit g.0 names dice new g.3)

on_moves : (old : Engine) (m : Move) (new : Engine) → Moves old m.0 m.1 new → LeadsOn old.machine new.machine
on_moves old m new h =
    on_then old.machine h.stepped new.machine (on_acts old.machine m.0 h.stepped h.acts)
    (on_downs old.limit h.stepped h.relieves.names m.1 new.machine h.relieves.downs)

pub moved : (old : Engine) (moves : List Move) (new : Engine) → MovesAll old moves new → LeadsOn old.machine new.machine
moved old [] new h = subst (λ (e : Engine). LeadsOn old.machine e.machine) h (on_none old.machine)
moved old (m ∷ moves) new h = on_then old.machine h.0.machine new.machine (on_moves old m h.0 h.1) (moved h.0 moves new h.2)

pub went : (old : Engine) (name : Name) (dice : Dice) (new : Engine) → GoesAway old name dice new → LeadsOn old.machine new.machine
went old name dice new g = on_down old.machine name dice new.machine g.down
