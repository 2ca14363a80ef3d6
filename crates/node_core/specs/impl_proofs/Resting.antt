-- Steps that deliver nothing: what they must satisfy, and the laws that follow. Proofs only; nothing here has to be
-- trusted.
use Rattle.std.specs.Prelude.{◌≡◌, ℕ, true, List, [], ◌∷◌, Some, None, is_some, refl}
use Rattle.std.specs.List.{AllByRecursion as Each}
use Rattle.std.proofs.Common.{inl, inr, sym, ◌∙◌, ap}
use Rattle.std.proofs.lemmas.Bool.{false≢true}
use Rattle.node_names.specs.NodeName.{Name}
use Rattle.node_names.specs.Same.{has_name}
use Rattle.node_names.specs.declared.ids.MsgId.{MsgId}
use Rattle.protocol.specs.AskLaw.{AskLaw, Fires}
use Rattle.protocol.specs.CoreState.{CoreState}
use Rattle.protocol.specs.DeliveryLaw.{Delivers, count_after}
use Rattle.protocol.specs.HoldLaw.{HoldLaw}
use Rattle.protocol.specs.Laws.{StepLaws}
use Rattle.protocol.specs.QueueLaw.{QueueLaw, FlushesQueue, KeepsQueue}
use Rattle.protocol.specs.Stimulus.{Stimulus}
use Rattle.protocol.specs.ViewLaw.{ViewLaw}
use Rattle.protocol.specs.WantLaw.{WantLaw, Announces}
use Rattle.frames.specs.Content.{frame_content}
use Rattle.frames.specs.Frame.{Frame}
use Rattle.node_core.specs.impl_proofs.Members.{each_one}

-- Each packet that carries a message carries one that the core has and holds.
abbrev pub CarryHeld : CoreState → List (Name × Frame) → Type 0
CarryHeld before sends =
    Each (λ send. (id : MsgId) (p : List ℕ) → (frame_content send.1).carried ≡ Some (id, p) → (before.payload id ≡ Some p) × (before.has id ≡ true)) sends

-- No packet carries anything.
abbrev pub CarryNothing : List (Name × Frame) → Type 0
CarryNothing sends = Each (λ send. (frame_content send.1).carried ≡ None) sends

-- packets that carry nothing carry nothing else
pub carry_none : (P : Name → MsgId → List ℕ → Type 0) (sends : List (Name × Frame)) →
    CarryNothing sends →
    Each (λ send. (id : MsgId) (p : List ℕ) → (frame_content send.1).carried ≡ Some (id, p) → P send.0 id p) sends
carry_none P [] h = tt
carry_none P (send ∷ sends) h = ((λ id p e. absurd (false≢true (ap is_some (sym h.0 ∙ e)))), carry_none P sends h.1)

-- a part of what stands together holds of each
pub each_part : {X : Type 0} (P Q : X → Type 0) → ((x : X) → P x → Q x) → (xs : List X) → Each P xs → Each Q xs
each_part P Q f [] h = tt
each_part P Q f (x ∷ xs) h = (f x h.0, each_part P Q f xs h.1)

module _ (before : CoreState) (stimulus : Stimulus Frame) (sends : List (Name × Frame)) (active passive : List Name)
    (queued : List (Name × MsgId × ℕ)) (wants : List (MsgId × Name × ℕ)) (timers : List MsgId) where
  abbrev after : CoreState
  after = record before { active = active; passive = passive; queued = queued; wants = wants; timers = timers }

  -- what a step that delivers nothing must satisfy
  pub delivers_nothing :
      Delivers frame_content before stimulus []
      → before.count ≡ count_after before.count stimulus
      → CarryHeld before sends
      → ViewLaw before sends
      → QueueLaw frame_content before stimulus sends [] (record before { active = active; passive = passive; queued = queued; wants = wants; timers = timers })
      → WantLaw frame_content before stimulus (record before { active = active; passive = passive; queued = queued; wants = wants; timers = timers })
      → AskLaw frame_content before stimulus sends [] (record before { active = active; passive = passive; queued = queued; wants = wants; timers = timers })
      → HoldLaw frame_content before stimulus sends []
      → StepLaws frame_content before stimulus sends [] (record before { active = active; passive = passive; queued = queued; wants = wants; timers = timers })
  delivers_nothing exact counted carried views queue want asks holds =
      record {
        identity = refl;
        payloads =
            record {
              sent =
                  each_part
                  (λ send. (id : MsgId) (p : List ℕ) → (frame_content send.1).carried ≡ Some (id, p) → (before.payload id ≡ Some p) × (before.has id ≡ true)) _
                  (λ send h id p e. inl (h id p e).0) sends carried;
              delivered = tt;
              held = λ id p e. inl e;
              sender_has =
                  each_part
                  (λ send. (id : MsgId) (p : List ℕ) → (frame_content send.1).carried ≡ Some (id, p) → (before.payload id ≡ Some p) × (before.has id ≡ true)) _
                  (λ send h id p e. (h id p e).1) sends carried;
            };
        deliveries =
            record {
              exact = exact;
              here = tt;
              fresh = tt;
              grows = λ id. (λ h. inl h, λ h. elim h [ inl was ↦ was | inr none ↦ absurd none ]);
              counted = counted;
            };
        views = views;
        spread = tt;
        queue = queue;
        wants = want;
        asks = asks;
        holds = holds;
      }

-- A step that leaves the state as it is, so that only its packets matter.
module _ (before : CoreState) (stimulus : Stimulus Frame) (sends : List (Name × Frame)) where
  pub leaves_all :
      Delivers frame_content before stimulus []
      → before.count ≡ count_after before.count stimulus
      → CarryHeld before sends
      → ViewLaw before sends
      → FlushesQueue frame_content before stimulus sends before
      → ((name : Name) (id : MsgId) (round : ℕ) → Announces frame_content stimulus name id round → has_name before.active name ≡ true → ⊥)
      → Fires frame_content before stimulus sends before
      → HoldLaw frame_content before stimulus sends []
      → StepLaws frame_content before stimulus sends [] before
  leaves_all exact counted carried views flushes announces fires holds =
      delivers_nothing before stimulus sends before.active before.passive before.queued before.wants before.timers exact counted carried views
      (record { appears = each_one _ before.queued (λ entry h. inl h); leaves = flushes })
      (record {
        taken = λ name id round a is. absurd (announces name id round a is);
        appears = each_one _ before.wants (λ entry h. inl h);
        arms = each_one _ before.timers (λ id h. inl h);
      })
      (record { fires = fires; entry_stays = each_one _ before.wants (λ entry h. inl h); timer_stays = each_one _ before.timers (λ id h. inl h) })
      holds

-- the queue stays
pub keeps_all : (before : CoreState) → KeepsQueue before before
keeps_all before = each_one _ before.queued (λ entry h. inl h)
